-- The places of pairings in the list of all pairings.
-- Idea: the list holds just the pairings and ascends, so what comes later in order stands later.
-- The first pairing has none before it, so it stands at place 0; between the places of a pairing
-- and of the next one nothing can stand; and behind the last one nothing stands.
use Rattle.std.proofs.Common.{◌≡◌, ℕ, ◌+◌, ◌<◌, ◌⊎◌, List, [], length, slice_index_or, sym, refl}
use Rattle.std.proofs.Common.{◌∙◌, subst, inl, inr, arith}
use Rattle.std.proofs.lemmas.List.{get_or_default}
use Rattle.std.proofs.lemmas.Bool.{cases_lt, cases_order}
use Rattle.blockset.specs.declared.BlockSet.{BlockSet}
use Rattle.pairing.specs.Optima.{IsBefore}
use Rattle.pairing.specs.Rows.{holds, IsPerfectOver, pairings}
use Rattle.pairing.proofs.Listing.{in_perfects, perfects_ascend, before_irrefl, before_asym}
use Rattle.matching.specs.Answers.{IsNth}
use Rattle.matching.proofs.Nth.{contains_nth}
use Rattle.matching.proofs.Order.{IsNext}

module _ (rows : List BlockSet) where
  abbrev there : ℕ → List ℕ
  there i = slice_index_or (pairings rows) i []

  pairs_at : (i : ℕ) → i < length (pairings rows) → IsPerfectOver rows (there i)
  pairs_at i h =
      (in_perfects (length rows) (holds rows) (there i)).0
      (contains_nth (pairings rows) i _ (h, refl))

  later_at : (i j : ℕ) → i < j → j < length (pairings rows) → IsBefore (there i) (there j)
  later_at i j lt h = perfects_ascend (length rows) (holds rows) i j [] lt h

  -- what stands before in order stands before in place
  order_at : {i j : ℕ} {p q : List ℕ} → IsNth (pairings rows) i p → IsNth (pairings rows) j q
      → IsBefore p q → i < j
  order_at {i = i} {j = j} h k b =
      let before : IsBefore (there i) (there j) =
      subst (λ x. IsBefore x (there j)) (sym h.1) (subst (IsBefore _) (sym k.1) b) in
      elim (cases_order i j) [
        | inl e ↦
            absurd (before_irrefl (there i)
            (subst (λ m. IsBefore (there i) (there m)) (sym e) before))
        | inr o ↦ elim o [
          | inl lt ↦ lt
          | inr gt ↦ absurd (before_asym (there i) (there j) before (later_at j i gt h.0))
        ]
      ]

  -- a pairing stands somewhere
  pub placed : (p : List ℕ) → IsPerfectOver rows p → (i : ℕ) × IsNth (pairings rows) i p
  placed p h =
      let w = (in_perfects (length rows) (holds rows) p).1 h in
      (w.0, (w.1, get_or_default (pairings rows) w.0 [] p w.1 ∙ w.2))

  pub first_place : (p : List ℕ) → IsPerfectOver rows p
      → ((q : List ℕ) → IsPerfectOver rows q → (q ≡ p) ⊎ IsBefore p q) → IsNth (pairings rows) 0 p
  first_place p h first =
      let w = placed p h in
      let some : 0 < length (pairings rows) = omega (arith, w.1.0) in
      elim (first (there 0) (pairs_at 0 some)) [
        | inl e ↦ (some, e)
        | inr b ↦ absurd (omega (arith, order_at w.1 (some, refl) b))
      ]

  module _ (i : ℕ) (p : List ℕ) (at_i : IsNth (pairings rows) i p) where
    after_it : i + 1 < length (pairings rows) → IsBefore p (there (i + 1))
    after_it some = subst (λ x. IsBefore x (there (i + 1))) at_i.1
        (later_at i (i + 1) (omega arith) some)

    pub next_place : (p' : List ℕ) → IsNext rows p p' → IsNth (pairings rows) (i + 1) p'
    next_place p' f =
        let w = placed p' f.pairs in
        let up = order_at at_i w.1 f.later in
        let some : i + 1 < length (pairings rows) = omega (arith, w.1.0) in
        elim (f.first (there (i + 1)) (pairs_at (i + 1) some) (after_it some)) [
          | inl e ↦ (some, e)
          | inr c ↦ absurd (omega (arith, order_at w.1 (some, refl) c))
        ]

    pub last_place : ((q : List ℕ) → IsPerfectOver rows q → IsBefore p q → ⊥)
        → i + 1 ≡ length (pairings rows)
    last_place none = elim (cases_lt (i + 1) (length (pairings rows))) [
      | inl some ↦ absurd (none (there (i + 1)) (pairs_at (i + 1) some) (after_it some))
      | inr h ↦ omega (arith, at_i.0)
    ]
