-- The prices of the taken right blocks, lowered one after the other.
-- Idea: a price is written once, when its right block is no longer waited for, and is then the
-- distance short of that of the goal; no other price is written. At the end no taken right block
-- waits.
use Rattle.std.proofs.Common.{◌≡◌, ℕ, ◌<◌, Bool, true, false, not, ◌&&◌, eqb, List, ℤ, ◌+ℤ◌, ◌-ℤ◌}
use Rattle.std.proofs.Common.{refl, arith}
use Rattle.std.proofs.lemmas.Int.{ints}
use Rattle.std.proofs.lemmas.Bool.Decides.{nat_tests}
use Rattle.std.proofs.lemmas.Bool.{both_ways}
use Rattle.cost.specs.Columns.{AreWithin}
use Rattle.cost.specs.Weights.{weight}
use Rattle.assign.specs.declared.limits.TheConstants.{INNER_PRICE_LIMIT}

-- the taken right blocks of `rest` have their price v still to be lowered; d: the distances, `far`:
-- what that of the goal is beyond its price
pub record Lowering (n : ℕ) (taken rest : ℕ → Bool) (far : ℤ) (d : ℕ → ℤ) (v v' : ℕ → List ℤ) : Type
    0 where
  pub part : (c : ℕ) → rest c ≡ true → taken c ≡ true
  pub fallen : (c : ℕ) → taken c ≡ true → rest c ≡ false → weight (v' c) +ℤ far ≡ d c
  pub same : (c : ℕ) → taken c ≡ false → v' c ≡ v c
  pub bound : (c : ℕ) → c < n → AreWithin INNER_PRICE_LIMIT (v' c)

module _ (n : ℕ) (taken : ℕ → Bool) (far : ℤ) (d : ℕ → ℤ) (v : ℕ → List ℤ) where
  pub lowering_none : ((c : ℕ) → c < n → AreWithin INNER_PRICE_LIMIT (v c))
      → Lowering n taken taken far d v v
  lowering_none bounded = record {
    part = λ c t. t;
    fallen = λ c t f. absurd (both_ways (taken c) f t);
    same = λ c f. refl;
    bound = bounded;
  }

  module _ (rest : ℕ → Bool) (v' : ℕ → List ℤ) (so_far : Lowering n taken rest far d v v') where
    pub lowering_take : (c : ℕ) (rest' : ℕ → Bool) (v'' : ℕ → List ℤ) → rest c ≡ true
        → ((j : ℕ) → rest' j ≡ (rest j && not (eqb j c)))
        → weight (v'' c) ≡ d c -ℤ far → AreWithin INNER_PRICE_LIMIT (v'' c)
        → ((j : ℕ) → (j ≡ c → ⊥) → v'' j ≡ v' j) → Lowering n taken rest' far d v v''
    lowering_take c rest' v'' waits is new near others = record {
      part = λ j t. grind (arith, nat_tests);
      fallen = λ j t f. grind (arith, ints, nat_tests);
      same = λ j f. grind (arith, nat_tests);
      bound = λ j h. grind (arith, others j);
    }
