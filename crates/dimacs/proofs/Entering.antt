-- Entering the arcs of a text that states an order: what is to come yet, and what the tables hold.
-- Idea: lines without a fault lead from where the reader stands to the end of the text, and the
-- tables are those after the pairs that came. The bytes tell the next line, so the one that the
-- reader hands out is the one that leads on: an arc is one that a sheet takes, and once its pair
-- was entered, the tables are again those after the pairs that came.
use Rattle.std.proofs.Common.{◌≡◌, ◌≢◌, ℕ, zero, suc, List, [], ◌∷◌, ◌++◌, drop}
use Rattle.std.proofs.Common.{w64, to_z, of_z, refl, sym, ap, ap₂, ◌∙◌, subst, arith, unsigned_abs}
use Rattle.std.proofs.Common.{◌≤◌}
use Rattle.std.proofs.lemmas.Int.{to_z-of_z}
use Rattle.blockset.specs.declared.TheConstants.{MOST_BLOCKS}
use Rattle.cost.specs.declared.TheConstants.{COST_LIMIT}
use Rattle.cost.specs.declared.plain_kind.Plain.{Plain}
use Rattle.sheet.specs.declared.fault.Fault.{Fault}
use Rattle.orderfile.specs.declared.record.StatedPair.{StatedPair}
use Rattle.orderfile.specs.Format.{StatedOrder}
use Rattle.orderfile.specs.Loading.{costs_after, standing_after}
use Rattle.orderfile.proofs.Fields.{cost_fits}
use Rattle.orderfile.proofs.Entering.{costs_append, standing_append}
use Rattle.dimacs.specs.Lines.{IsRead, BeginsNoLine, bytes_of}
use Rattle.dimacs.specs.Statements.{Statement}
use Rattle.dimacs.specs.Texts.{Stage, start, stated, Stated, Point, MayCome, IsWrong, stage_after}
use Rattle.dimacs.specs.Texts.{Leads, States, blocks_of, AreNodes, pair_of}
use Rattle.dimacs.specs.declared.line.Line.{Line}
use Rattle.dimacs.specs.declared.line.Line.TheVariants.{Arc}
use Rattle.dimacs.specs.declared.word.Cost.{Cost}
use Rattle.dimacs.specs.declared.word.Number.{Number}
use Rattle.dimacs.proofs.Arcs.{pairs_by, IsNoArc, others_add_none, IsArc, an_arc}
use Rattle.dimacs.proofs.Arcs.{number_exact, cost_exact}
use Rattle.dimacs.proofs.LinesTold.{lines_told}
use Rattle.dimacs.proofs.Checking.{point_at, read_begins, read_leads}
use Rattle.dimacs.proofs.Runs.{KeepsNodes, run_keeps, stated_fits}
use Rattle.dimacs.proofs.Verdicts.{ended, one_next}

-- a text that states an order of n blocks a plane, and the tables before its first pair
module _ {text : List ℕ} {order : StatedOrder} (s : States text order) {n : ℕ}
    (size : order.size ≡ n) (costs₀ : List Plain) (standing₀ : List ℕ) where
  -- lines lead from this offset to the end, and the pairs that came before it were entered
  pub record IsAhead (at : ℕ) (costs : List Plain) (standing : List ℕ) : Type 0 where
    pub lines : ℕ
    pub stage : Stage
    pub leads : Leads lines (point_at text at stage) s.point
    pub costs_are : costs ≡ costs_after n (pairs_by stage) costs₀ standing₀
    pub standing_are : standing ≡ standing_after n (pairs_by stage) standing₀

  pub ahead_first : IsAhead 0 costs₀ standing₀
  ahead_first = record {
    lines = s.lines;
    stage = start;
    leads = s.leads;
    costs_are = refl;
    standing_are = refl;
  }

  -- the size on the way there is that of the order
  size_there : (k : ℕ) (p : Point) (c : Stated) → Leads k p s.point → p.stage ≡ stated c
      → blocks_of c.nodes ≡ n
  size_there k p c run e =
      let keeps : KeepsNodes (stated c) (stated s.came) =
      subst (λ t. KeepsNodes t (stated s.came)) e
      (subst (KeepsNodes p.stage) s.ends.stage_is (run_keeps k p s.point run)) in
      ap blocks_of keeps ∙ sym s.size_is ∙ size

  -- the next line at a stage leads on to an offset
  record LeadsOn (at : ℕ) (stage : Stage) (st : Statement) (at' : ℕ) : Type 0 where
    lines : ℕ
    may : MayCome stage st
    sound : (f : Fault) → IsWrong stage at st f → ⊥
    leads : Leads lines (point_at text at' (stage_after stage at st)) s.point

  -- and that line is the one that is read
  leads_on : (k at : ℕ) (stage : Stage) → Leads k (point_at text at stage) s.point
      → {line : Line} {at' : ℕ} (read : IsRead text at line at')
      → LeadsOn at stage read.statement at'
  leads_on zero at stage run {line = line} {at' = at'} read =
      absurd (ended (drop at text) (subst (λ p. p.rest ≡ []) (sym run) s.ends.none_left)
      read.statement (bytes_of line) (drop at' text) (read_begins read))
  leads_on (suc k) at stage run {line = line} {at' = at'} read =
      let to = run.1 in
      let told = (lines_told (drop at text) to.statement read.statement to.line run.0.rest
      (bytes_of line) (drop at' text) to.comes.begins (read_begins read)).0 in
      let may = subst (MayCome stage) told to.comes.may in
      let sound : (f : Fault) → IsWrong stage at read.statement f → ⊥ =
      subst (λ st. (f : Fault) → IsWrong stage at st f → ⊥) told to.sound in
      record {
        lines = k;
        may = may;
        sound = sound;
        leads = subst (λ p. Leads k p s.point) (one_next (point_at text at stage) run.0
            (point_at text at' (stage_after stage at read.statement)) to
            (read_leads read stage may sound)) run.2;
      }

  -- where the text ends, the stage is its last one
  last_stage : (k at : ℕ) (stage : Stage) → Leads k (point_at text at stage) s.point
      → drop at text ≡ [] → stage ≡ stated s.came
  last_stage zero at stage run none = ap (λ p. p.stage) run ∙ s.ends.stage_is
  last_stage (suc k) at stage run none =
      let to = run.1 in
      absurd (ended (drop at text) none to.statement to.line run.0.rest to.comes.begins)

  -- and before that a line begins what is left
  some_line : (k at : ℕ) (stage : Stage) → Leads k (point_at text at stage) s.point
      → drop at text ≢ [] → BeginsNoLine (drop at text) → ⊥
  some_line zero at stage run some none =
      some (subst (λ p. p.rest ≡ []) (sym run) s.ends.none_left)
  some_line (suc k) at stage run some none =
      let to = run.1 in none to.statement to.line run.0.rest to.comes.begins

  -- the line of an arc was handed out: a sheet takes it, with its cost as it is in 64 bits; and
  -- once its pair was entered, this is ahead behind the line
  pub record HandsArc (left right : Number) (cost : Cost) (at' : ℕ) (costs : List Plain)
      (standing : List ℕ) : Type 0 where
    pub nodes : AreNodes n left.value right.value
    pub within : unsigned_abs cost.value ≤ COST_LIMIT
    pub same : to_z w64 (of_z w64 cost.value) ≡ cost.value
    pub enters : IsAhead at'
        (costs_after n (pair_of n left.value right.value cost.value ∷ []) costs standing)
        (standing_after n (pair_of n left.value right.value cost.value ∷ []) standing)

  module _ {at : ℕ} {costs : List Plain} {standing : List ℕ}
      (ahead : IsAhead at costs standing) where
    -- where the text ends, all pairs were entered
    pub all_entered : drop at text ≡ []
        → (costs ≡ costs_after order.size order.pairs costs₀ standing₀)
        × (standing ≡ standing_after order.size order.pairs standing₀)
    all_entered none =
        let last = last_stage ahead.lines at ahead.stage ahead.leads none in
        let all : pairs_by ahead.stage ≡ order.pairs = ap pairs_by last ∙ sym s.pairs_are in (
          ahead.costs_are ∙ ap (λ ps. costs_after n ps costs₀ standing₀) all
              ∙ ap (λ k. costs_after k order.pairs costs₀ standing₀) (sym size),
          ahead.standing_are ∙ ap (λ ps. standing_after n ps standing₀) all
              ∙ ap (λ k. standing_after k order.pairs standing₀) (sym size),
        )

    pub never_stuck : drop at text ≢ [] → BeginsNoLine (drop at text) → ⊥
    never_stuck = some_line ahead.lines at ahead.stage ahead.leads

    module _ {line : Line} {at' : ℕ} (read : IsRead text at line at') where
      on : LeadsOn at ahead.stage read.statement at'
      on = leads_on ahead.lines at ahead.stage ahead.leads read

      pub other_passes : IsNoArc line → IsAhead at' costs standing
      other_passes other =
          let same : pairs_by (stage_after ahead.stage at read.statement) ≡ pairs_by ahead.stage =
          others_add_none ahead.stage at line read.statement read.states other in
          record {
            lines = on.lines;
            stage = stage_after ahead.stage at read.statement;
            leads = on.leads;
            costs_are = rw same ahead.costs_are;
            standing_are = rw same ahead.standing_are;
          }

    arc_entered : {left right : Number} {cost : Cost} {st : Statement} {at' : ℕ}
        → LeadsOn at ahead.stage st at' → IsArc ahead.stage at st left right cost
        → HandsArc left right cost at' costs standing
    arc_entered {left = left} {right = right} {cost = cost} {st = st} {at' = at'} on an =
        let there = size_there ahead.lines (point_at text at ahead.stage) an.came ahead.leads
        an.stage_is in
        let nodes : AreNodes n an.from an.to =
        subst (λ k. AreNodes k an.from an.to) there an.nodes in
        let few : order.size ≤ MOST_BLOCKS = (stated_fits text order s).few in
        let left_is = number_exact left an.from an.left_writes (omega arith) in
        let right_is = number_exact right an.to an.right_writes (omega arith) in
        let cost_is = cost_exact cost an.price an.cost_writes an.within in
        let within : unsigned_abs cost.value ≤ COST_LIMIT = rw cost_is an.within in
        let pair : StatedPair = pair_of n an.from an.to an.price in
        let adds : pairs_by (stage_after ahead.stage at st) ≡ pairs_by ahead.stage ++ pair ∷ [] =
        an.adds ∙ ap (λ k. pairs_by ahead.stage ++ pair_of k an.from an.to an.price ∷ []) there in
        let enters : IsAhead at' (costs_after n (pair ∷ []) costs standing)
        (standing_after n (pair ∷ []) standing) = record {
          lines = on.lines;
          stage = stage_after ahead.stage at st;
          leads = on.leads;
          costs_are = ap₂ (costs_after n (pair ∷ [])) ahead.costs_are ahead.standing_are
              ∙ sym (costs_append n (pairs_by ahead.stage) (pair ∷ []) costs₀ standing₀)
              ∙ ap (λ ps. costs_after n ps costs₀ standing₀) (sym adds);
          standing_are = ap (standing_after n (pair ∷ [])) ahead.standing_are
              ∙ sym (standing_append n (pairs_by ahead.stage) (pair ∷ []) standing₀)
              ∙ ap (λ ps. standing_after n ps standing₀) (sym adds);
        }
        in
        record {
          nodes = rw (left_is, right_is) nodes;
          within = within;
          same = to_z-of_z w64 cost.value (cost_fits cost.value within);
          enters = rw (left_is, right_is, cost_is) enters;
        }

    pub arc_handed : {left right : Number} {cost : Cost} {at' : ℕ}
        → IsRead text at (Arc left right cost) at'
        → HandsArc left right cost at' costs standing
    arc_handed {left = left} {right = right} {cost = cost} read =
        let on = leads_on ahead.lines at ahead.stage ahead.leads read in
        arc_entered on
        (an_arc ahead.stage at read.statement left right cost read.states on.may on.sound)
