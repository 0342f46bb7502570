-- A file has one verdict: it states at most one order, has at most one first fault, and not both.
-- Idea: go along two readings of the same bytes side by side. A sound field has no fault, so
-- neither reading can stop where the other goes on, and the bytes of a sound pair tell which pair
-- it is.
use Rattle.std.proofs.Common.{◌≡◌, ℕ, ◌≤◌, List, [], ◌∷◌, ◌++◌, length, drop, Some, None}
use Rattle.std.proofs.Common.{◌⊎◌, sym, refl, ap, ◌∙◌, inl, inr, append_assoc}
use Rattle.std.proofs.Common.{append-nil, arith}
use Rattle.std.specs.List.{flat_map, AllByRecursion}
use Rattle.sheet.specs.declared.fault.Fault.{Fault}
use Rattle.orderfile.specs.declared.record.StatedPair.{StatedPair}
use Rattle.orderfile.specs.declared.record.Stage.{Stage}
use Rattle.orderfile.specs.declared.record.Stage.TheVariants.{Start, Sized, Ended}
use Rattle.orderfile.specs.Format.{StatedOrder, PairFits, States, size_field, pair_field, end_field}
use Rattle.orderfile.specs.Format.{value_of, pair_in}
use Rattle.orderfile.specs.Faults.{field_fault, front, FrontFits, FirstFault}
use Rattle.orderfile.specs.Loading.{HasOneVerdict}
use Rattle.orderfile.proofs.Fields.{size_sound, pair_sound, pair_stated, end_sound}
use Rattle.std.proofs.Common.{slice_index}
use Rattle.blockset.specs.declared.TheConstants.{MOST_BLOCKS}

-- the bytes do not begin with a sound pair
BeginsNoPair : ℕ → List ℕ → Type 0
BeginsNoPair n rest = (p : StatedPair) (more : List ℕ) → PairFits n p → rest ≡ pair_field p
    ++ more → ⊥

-- no sound field comes next
CannotGoOn : Stage → List ℕ → Type 0
CannotGoOn Start rest = (n : ℕ) (more : List ℕ) → 1 ≤ n → n ≤ MOST_BLOCKS → rest ≡ size_field n
    ++ more → ⊥
CannotGoOn (Sized n) rest = BeginsNoPair n rest × ((more : List ℕ) → rest ≡ end_field ++ more → ⊥)
CannotGoOn (Ended n) rest = Unit {0}

never : (f : Fault) → Some f ≡ None → ⊥
never f e = cc

stuck_at : (stage : Stage) (rest : List ℕ) (at : ℕ) (f : Fault) → field_fault stage rest at ≡ Some f
    → CannotGoOn stage rest
unfolding CannotGoOn BeginsNoPair
stuck_at Start rest at f h = λ n more some few e. never f
    (sym h ∙ ap (λ t. field_fault Start t at) e ∙ size_sound n more at some few)
stuck_at (Sized n) rest at f h = (
  λ p more s e. never f (sym h ∙ ap (λ t. field_fault (Sized n) t at) e ∙ pair_sound n p more at s),
  λ more e. never f (sym h ∙ ap (λ t. field_fault (Sized n) t at) e ∙ end_sound n more at),
)
stuck_at (Ended n) rest at f h = tt

end_not_pair : (n : ℕ) (rest : List ℕ) → BeginsNoPair n (end_field ++ rest)
unfolding BeginsNoPair
end_not_pair n rest p more s e = let tags : ◌≡◌ {A = ℕ} 3 2 = ap (λ t. slice_index t 0) e in
    omega arith

same_pairs : (n : ℕ) (ps qs : List StatedPair) (r s : List ℕ) → AllByRecursion (PairFits n) ps
    → AllByRecursion (PairFits n) qs → BeginsNoPair n r → BeginsNoPair n s
    → flat_map pair_field ps ++ r ≡ flat_map pair_field qs ++ s → (ps ≡ qs) × (r ≡ s)
unfolding BeginsNoPair
same_pairs n [] [] r s hp hq stop-r stop-s e = (refl, e)
same_pairs n [] (q ∷ qs) r s hp hq stop-r stop-s e =
    absurd (stop-r q (flat_map pair_field qs ++ s) hq.0 e)
same_pairs n (p ∷ ps) [] r s hp hq stop-r stop-s e =
    absurd (stop-s p (flat_map pair_field ps ++ r) hp.0 (sym e))
same_pairs n (p ∷ ps) (q ∷ qs) r s hp hq stop-r stop-s e =
    let first : p ≡ q = sym (pair_stated p (flat_map pair_field ps ++ r) hp.0.cost_within)
    ∙ ap (λ t. pair_in (value_of t)) e ∙ pair_stated q (flat_map pair_field qs ++ s)
    hq.0.cost_within in
    let others = same_pairs n ps qs r s hp.1 hq.1 stop-r stop-s (ap (drop 13) e) in
    let tail : ps ≡ qs = others.0 in
    (cc, others.1)

abbrev AreSameReadings : Stage → List StatedPair → List ℕ → Stage → List StatedPair → List ℕ
    → Type 0
AreSameReadings a ps r b qs s = (a ≡ b) × (ps ≡ qs) × (r ≡ s)

size_first : (n m : ℕ) (r s : List ℕ) → size_field n ++ r ≡ size_field m ++ s → (n ≡ m) × (r ≡ s)
size_first n m r s e = (ap (λ t. slice_index t 3) e, ap (drop 4) e)

-- two readings that cannot go on are the same
one_reading : (a b : Stage) (ps qs : List StatedPair) (r s : List ℕ) → FrontFits a ps
    → FrontFits b qs → CannotGoOn a r → CannotGoOn b s → front a ps ++ r ≡ front b qs ++ s
    → AreSameReadings a ps r b qs s
unfolding CannotGoOn
one_reading Start Start ps qs r s hp hq stop-r stop-s e = (refl, hp ∙ sym hq, e)
one_reading Start (Sized m) ps qs r s hp hq stop-r stop-s e =
    absurd (stop-r m (flat_map pair_field qs ++ s) hq.some hq.few e)
one_reading Start (Ended m) ps qs r s hp hq stop-r stop-s e =
    absurd (stop-r m ((flat_map pair_field qs ++ end_field) ++ s) hq.some hq.few e)
one_reading (Sized n) Start ps qs r s hp hq stop-r stop-s e =
    absurd (stop-s n (flat_map pair_field ps ++ r) hp.some hp.few (sym e))
one_reading (Ended n) Start ps qs r s hp hq stop-r stop-s e =
    absurd (stop-s n ((flat_map pair_field ps ++ end_field) ++ r) hp.some hp.few (sym e))
one_reading (Sized n) (Sized m) ps qs r s hp hq stop-r stop-s e =
    let size = size_first n m _ _ e in
    let stop : BeginsNoPair n s = rw size.0 stop-s.0 in
    let those : AllByRecursion (PairFits n) qs = rw size.0 hq.pairs_fit in
    let same = same_pairs n ps qs r s hp.pairs_fit those stop-r.0 stop size.1 in
    (ap Sized size.0, same.0, same.1)
one_reading (Sized n) (Ended m) ps qs r s hp hq stop-r stop-s e =
    let size = size_first n m _ _ e in
    let those : AllByRecursion (PairFits n) qs = rw size.0 hq.pairs_fit in
    let same = same_pairs n ps qs r (end_field ++ s) hp.pairs_fit those stop-r.0
    (end_not_pair n s) (size.1 ∙ append_assoc (flat_map pair_field qs) end_field s) in
    absurd (stop-r.1 s same.1)
one_reading (Ended n) (Sized m) ps qs r s hp hq stop-r stop-s e =
    let size = size_first n m _ _ e in
    let those : AllByRecursion (PairFits m) ps = rw (← size.0) hp.pairs_fit in
    let same = same_pairs m ps qs (end_field ++ r) s those hq.pairs_fit (end_not_pair m r)
    stop-s.0 (sym (append_assoc (flat_map pair_field ps) end_field r) ∙ size.1) in
    absurd (stop-s.1 r (sym same.1))
one_reading (Ended n) (Ended m) ps qs r s hp hq stop-r stop-s e =
    let size = size_first n m _ _ e in
    let those : AllByRecursion (PairFits n) qs = rw size.0 hq.pairs_fit in
    let same = same_pairs n ps qs (end_field ++ r) (end_field ++ s) hp.pairs_fit those
    (end_not_pair n r) (end_not_pair n s)
    (sym (append_assoc (flat_map pair_field ps) end_field r) ∙ size.1
    ∙ append_assoc (flat_map pair_field qs) end_field s) in
    (ap Ended size.0, same.0, ap (drop 3) same.1)

module _ (file : List ℕ) where
  whole : (order : StatedOrder) → States file order
      → file ≡ front (Ended order.size) order.pairs ++ []
  whole order s = s.is_file ∙ sym (append-nil _)

  one_order : (o p : StatedOrder) → States file o → States file p → o ≡ p
  unfolding CannotGoOn
  one_order o p s t =
      let same = one_reading (Ended o.size) (Ended p.size) o.pairs p.pairs [] [] s.fits t.fits tt
      tt (sym (whole o s) ∙ whole p t) in
      let size : o.size ≡ p.size = let e = same.0 in cc in
      ap (λ n. record { size = n; pairs = o.pairs }) size
      ∙ ap (λ ps. record { size = p.size; pairs = ps }) same.1

  one_fault : (f g : Fault) → FirstFault file f → FirstFault file g → f ≡ g
  one_fault f g s t =
      let same = one_reading s.stage t.stage s.pairs t.pairs s.rest t.rest s.fits t.fits
      (stuck_at _ _ _ f s.faulty) (stuck_at _ _ _ g t.faulty) (sym s.splits ∙ t.splits) in
      let e : Some f ≡ Some g =
      sym s.faulty ∙ ap (λ a. field_fault a s.rest (length (front a s.pairs))) same.0
      ∙ ap (λ ps. field_fault t.stage s.rest (length (front t.stage ps))) same.1
      ∙ ap (λ r. field_fault t.stage r (length (front t.stage t.pairs))) same.2 ∙ t.faulty in
      cc

  not_both : (o : StatedOrder) (f : Fault) → States file o → FirstFault file f → ⊥
  unfolding CannotGoOn
  not_both o f s t =
      let same = one_reading (Ended o.size) t.stage o.pairs t.pairs [] t.rest s.fits t.fits tt
      (stuck_at _ _ _ f t.faulty) (sym (whole o s) ∙ t.splits) in
      never f (sym t.faulty ∙ ap (λ a. field_fault a t.rest (length (front t.stage t.pairs)))
      (sym same.0) ∙ ap (λ r. field_fault (Ended o.size) r (length (front t.stage t.pairs)))
      (sym same.2))

  verdict : ((order : StatedOrder) × States file order) ⊎ ((f : Fault) × FirstFault file f)
      → HasOneVerdict (States file) (FirstFault file)
  verdict some =
      record { some = some; one_order = one_order; one_fault = one_fault; not_both = not_both }

  pub verdict_order : (order : StatedOrder) → States file order
      → HasOneVerdict (States file) (FirstFault file)
  verdict_order order s = verdict (inl (order, s))

  pub verdict_fault : (f : Fault) → FirstFault file f
      → HasOneVerdict (States file) (FirstFault file)
  verdict_fault f s = verdict (inr (f, s))
