-- A text has one verdict: it states at most one order, has at most one first fault, and not both.
-- Idea: the bytes at a point tell which line begins them, so a point leads to one point at most. A
-- point at which reading stops, or at which the text ends, leads nowhere. So two runs from the
-- start of a text that cannot go on end at the same point; and one point has one end or one fault.
use Rattle.std.proofs.Common.{◌≡◌, ℕ, zero, suc, ◌+◌, ◌⊎◌, List, [], length, sym, ap, ◌∙◌, subst}
use Rattle.std.proofs.Common.{inl, inr, ⊎_elim, arith, length-append}
use Rattle.sheet.specs.Refusals.{fault}
use Rattle.sheet.specs.declared.fault.Cause.TheVariants.{Counts}
use Rattle.sheet.specs.declared.fault.Fault.{Fault}
use Rattle.orderfile.specs.Format.{StatedOrder}
use Rattle.orderfile.specs.Loading.{HasOneVerdict}
use Rattle.dimacs.specs.Statements.{Statement, nothing, problem, node, arc, Begins}
use Rattle.dimacs.specs.Texts.{Stage, start, stated, Stated, Point, start_of, IsWrong, stage_after}
use Rattle.dimacs.specs.Texts.{LeadsTo, Leads, EndsAt, AreMet, MayEnd, HasNoLine, HasWrongLine}
use Rattle.dimacs.specs.Texts.{StopsAt, FirstFault, States, blocks_of}
use Rattle.dimacs.proofs.LinesTold.{lines_told, line_nonempty}

-- ---- One point

same_point : (p q : Point) → p.stage ≡ q.stage → p.place ≡ q.place → p.rest ≡ q.rest → p ≡ q
same_point p q stage place rest =
    ap (λ s. record { stage = s; place = p.place; rest = p.rest }) stage
    ∙ ap (λ n. record { stage = q.stage; place = n; rest = p.rest }) place
    ∙ ap (λ t. record { stage = q.stage; place = q.place; rest = t }) rest

-- a point leads to one point
pub one_next : (p q r : Point) → LeadsTo p q → LeadsTo p r → q ≡ r
one_next p q r a b =
    let told = lines_told p.rest a.statement b.statement a.line q.rest b.line r.rest
    a.comes.begins b.comes.begins in
    same_point q r
    (a.stage_is ∙ ap (stage_after p.stage p.place) told.0 ∙ sym b.stage_is)
    (a.place_is ∙ ap (λ l. p.place + length l) told.1 ∙ sym b.place_is)
    told.2

-- no line begins where the text ends
pub ended : (rest : List ℕ) → rest ≡ [] → (s : Statement) (line more : List ℕ)
    → Begins rest s line more → ⊥
ended rest none s line more h =
    omega (
      arith,
      ap length (sym none ∙ h.splits),
      length-append line more,
      line_nonempty s line h.spells,
    )

-- so what comes at a stage where a text ends is told by it
same_came : (p : Point) (s t : Stated) → EndsAt p s → EndsAt p t → s ≡ t
same_came p s t a b = let e : stated s ≡ stated t = sym a.stage_is ∙ b.stage_is in cc

-- a line has one fault
one_wrong : (s : Stage) (at : ℕ) (line : Statement) (f g : Fault) → IsWrong s at line f
    → IsWrong s at line g → f ≡ g
one_wrong start at (problem n m) f g a b = a.1 ∙ sym b.1
one_wrong start at nothing f g a b = absurd a
one_wrong start at (node i) f g a b = absurd a
one_wrong start at (arc i j z) f g a b = absurd a
one_wrong (stated s) at nothing f g a b = absurd a
one_wrong (stated s) at (problem n m) f g a b = absurd a
one_wrong (stated s) at (node i) f g a b = absurd a
one_wrong (stated s) at (arc i j z) f g a b =
    ⊎_elim
    (λ h. ⊎_elim (λ k. h.1 ∙ sym k.1) (λ k. absurd (h.0 k.0)) b)
    (λ h. ⊎_elim (λ k. absurd (k.0 h.0)) (λ k. h.2 ∙ sym k.2) b) a

wrong_lines : (p : Point) (f g : Fault) → HasWrongLine p f → HasWrongLine p g → f ≡ g
wrong_lines p f g a b =
    let told = lines_told p.rest a.statement b.statement a.line a.more b.line b.more
    a.comes.begins b.comes.begins in
    one_wrong p.stage p.place b.statement f g
    (subst (λ s. IsWrong p.stage p.place s f) told.0 a.wrong) b.wrong

-- where the text ends, no line is wrong, and none is missing
ends_sound : (p : Point) (s : Stated) (f : Fault) → EndsAt p s → HasNoLine p f ⊎ HasWrongLine p f
    → ⊥
ends_sound p s f e h =
    ⊎_elim
    (λ no. no.unended e.none_left (subst MayEnd (sym e.stage_is) e.may_end))
    (λ wrong. ended p.rest e.none_left wrong.statement wrong.line wrong.more wrong.comes.begins) h

-- a point has one fault
one_stop : (p : Point) (f g : Fault) → StopsAt p f → StopsAt p g → f ≡ g
one_stop p f g a b =
    ⊎_elim
    (λ no. ⊎_elim (λ no'. no.fault_is ∙ sym no'.fault_is)
    (λ more. ⊎_elim (λ k. absurd (no.none k.statement k.line k.more k.comes))
    (λ k. absurd (ends_sound p k.came f k.ends (inl no))) more) b)
    (λ more. ⊎_elim
    (λ h. ⊎_elim (λ no'. absurd (no'.none h.statement h.line h.more h.comes))
    (λ more'. ⊎_elim (wrong_lines p f g h)
    (λ k. absurd (ends_sound p k.came f k.ends (inr h))) more') b)
    (λ h. ⊎_elim (λ no'. absurd (ends_sound p h.came g h.ends (inl no')))
    (λ more'. ⊎_elim (λ k. absurd (ends_sound p h.came g h.ends (inr k)))
    (λ k. h.fault_is ∙ ap (λ s. fault Counts s.place) (same_came p h.came k.came h.ends k.ends)
    ∙ sym k.fault_is) more') b) more) a

-- ---- Runs that cannot go on

abbrev pub CannotGoOn : Point → Type 0
CannotGoOn p = (q : Point) → LeadsTo p q → ⊥

pub ended_there : (p : Point) (s : Stated) → EndsAt p s → CannotGoOn p
ended_there p s e q to =
    ended p.rest e.none_left to.statement to.line q.rest to.comes.begins

pub stops_there : (p : Point) (f : Fault) → StopsAt p f → CannotGoOn p
stops_there p f h q to =
    ⊎_elim (λ no. no.none to.statement to.line q.rest to.comes)
    (λ more. ⊎_elim
    (λ k. let told = lines_told p.rest k.statement to.statement k.line k.more to.line q.rest
    k.comes.begins to.comes.begins in
    to.sound f (subst (λ s. IsWrong p.stage p.place s f) told.0 k.wrong))
    (λ k. ended_there p k.came k.ends q to) more) h

-- two runs from one point
one_end : (k j : ℕ) (p q r : Point) → Leads k p q → Leads j p r → CannotGoOn q → CannotGoOn r
    → q ≡ r
one_end zero zero p q r a b stop-q stop-r = sym a ∙ b
one_end zero (suc j) p q r a b stop-q stop-r =
    absurd (stop-q b.0 (subst (λ x. LeadsTo x b.0) a b.1))
one_end (suc k) zero p q r a b stop-q stop-r =
    absurd (stop-r a.0 (subst (λ x. LeadsTo x a.0) b a.1))
one_end (suc k) (suc j) p q r a b stop-q stop-r =
    one_end k j b.0 q r (subst (λ x. Leads k x q) (one_next p a.0 b.0 a.1 b.1) a.2) b.2 stop-q
    stop-r

-- ---- Verdicts

module _ (text : List ℕ) where
  pub one_order : (o u : StatedOrder) → States text o → States text u → o ≡ u
  one_order o u s t =
      let point = one_end s.lines t.lines (start_of text) s.point t.point s.leads t.leads
      (ended_there s.point s.came s.ends) (ended_there t.point t.came t.ends) in
      let came = same_came t.point s.came t.came
      (subst (λ p. EndsAt p s.came) point s.ends) t.ends in
      ap (λ n. record { size = n; pairs = o.pairs })
      (s.size_is ∙ ap (λ c. blocks_of c.nodes) came ∙ sym t.size_is)
      ∙ ap (λ ps. record { size = u.size; pairs = ps })
      (s.pairs_are ∙ ap (λ c. c.pairs) came ∙ sym t.pairs_are)

  one_fault : (f g : Fault) → FirstFault text f → FirstFault text g → f ≡ g
  one_fault f g s t =
      let point = one_end s.lines t.lines (start_of text) s.point t.point s.leads t.leads
      (stops_there s.point f s.stops) (stops_there t.point g t.stops) in
      one_stop t.point f g (subst (λ p. StopsAt p f) point s.stops) t.stops

  not_both : (o : StatedOrder) (f : Fault) → States text o → FirstFault text f → ⊥
  not_both o f s t =
      let point = one_end s.lines t.lines (start_of text) s.point t.point s.leads t.leads
      (ended_there s.point s.came s.ends) (stops_there t.point f t.stops) in
      let ends = subst (λ p. EndsAt p s.came) point s.ends in
      ⊎_elim (λ no. ends_sound t.point s.came f ends (inl no))
      (λ more. ⊎_elim (λ wrong. ends_sound t.point s.came f ends (inr wrong))
      (λ k. k.unmet (subst AreMet (same_came t.point s.came k.came ends k.ends) s.met)) more)
      t.stops

  verdict : ((order : StatedOrder) × States text order) ⊎ ((f : Fault) × FirstFault text f)
      → HasOneVerdict (States text) (FirstFault text)
  verdict some =
      record { some = some; one_order = one_order; one_fault = one_fault; not_both = not_both }

  pub verdict_order : (order : StatedOrder) → States text order
      → HasOneVerdict (States text) (FirstFault text)
  verdict_order order s = verdict (inl (order, s))

  pub verdict_fault : (f : Fault) → FirstFault text f
      → HasOneVerdict (States text) (FirstFault text)
  verdict_fault f s = verdict (inr (f, s))
