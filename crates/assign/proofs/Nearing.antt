-- The nearest right block of those that were looked at so far.
-- Idea: none that was looked at is less far beyond its price than the best so far; a new one either
-- is not, or becomes the best. Its distance may fall when it is looked at: no other one's does, so
-- only where it was the best itself does the best so far change, and then it is the best again.
use Rattle.std.proofs.Common.{◌≡◌, ℕ, Bool, true, false, not, ◌&&◌, eqb, ℤ, ◌+ℤ◌, ◌-ℤ◌, ◌≤ℤ◌, ◌<ℤ◌}
use Rattle.std.proofs.Common.{sym, ap, ◌∙◌, ⊎_elim, arith}
use Rattle.std.proofs.lemmas.Int.{ints}
use Rattle.std.proofs.lemmas.Bool.{cases_eq, both_ways}
use Rattle.blockset.proofs.Removing.{still_in, gone}

module _ (set : ℕ → Bool) (v : ℕ → ℤ) where
  -- key is how far the best of those that are not in rest is beyond its price
  pub record Nearing (d : ℕ → ℤ) (rest : ℕ → Bool) (best : ℕ) (key : ℤ) : Type 0 where
    pub part : (c : ℕ) → rest c ≡ true → set c ≡ true
    pub member : set best ≡ true
    pub is : key ≡ d best -ℤ v best
    pub least : (c : ℕ) → set c ≡ true → rest c ≡ false → (d best +ℤ v c) ≤ℤ (d c +ℤ v best)

  -- one of the set is the best before any is looked at
  pub nearing_none : (d : ℕ → ℤ) (best : ℕ) (key : ℤ) → set best ≡ true
      → key ≡ d best -ℤ v best → Nearing d set best key
  nearing_none d best key member is = record {
    part = λ c t. t;
    member = member;
    is = is;
    least = λ c t f. absurd (both_ways (set c) f t);
  }

  -- c is looked at, and its distance may have fallen
  module _ (d d' : ℕ → ℤ) (rest rest' : ℕ → Bool) (c : ℕ)
      (removed : (j : ℕ) → rest' j ≡ (rest j && not (eqb j c))) (in_rest : rest c ≡ true)
      (best : ℕ) (key : ℤ) (h : Nearing d rest best key)
      (others : (j : ℕ) → (j ≡ c → ⊥) → d' j ≡ d j) where
    pub nearing_keep : d' best ≡ d best → key ≤ℤ (d' c -ℤ v c) → Nearing d' rest' best key
    nearing_keep same le = record {
      part = λ j t. h.part j (still_in rest rest' c removed j t).0;
      member = h.member;
      is = h.is ∙ ap (λ z. z -ℤ v best) (sym same);
      least = λ j s f. ⊎_elim
          (λ (e : j ≡ c). let x : d' j ≡ d' c = ap d' e in let y : v j ≡ v c = ap v e in
          omega (arith, ints, h.is))
          (λ (ne : j ≡ c → ⊥). let x = others j ne in
          omega (arith, ints, h.least j s (gone rest rest' c removed j f ne)))
          (cases_eq j c);
    }

    pub nearing_take : (key' : ℤ) → key' ≡ d' c -ℤ v c → key' <ℤ key → Nearing d' rest' c key'
    nearing_take key' is less = record {
      part = λ j t. h.part j (still_in rest rest' c removed j t).0;
      member = h.part c in_rest;
      is = is;
      least = λ j s f. ⊎_elim
          (λ (e : j ≡ c). let x : d' j ≡ d' c = ap d' e in let y : v j ≡ v c = ap v e in
          omega (arith, ints))
          (λ (ne : j ≡ c → ⊥). let x = others j ne in
          omega (arith, ints, h.is, h.least j s (gone rest rest' c removed j f ne)))
          (cases_eq j c);
    }
