-- The prices of the two blocks of each pair, made one pair after the other from the distances of
-- the left blocks.
-- Idea: a distance moves to the right block of its pair, and in its place comes what the pair costs
-- beyond it, so that the two prices add up to the cost. No right block is written twice, since each
-- has one left block.
use Rattle.std.proofs.Common.{◌≡◌, ℕ, ◌+◌, ◌<◌, ◌≤◌, true, List, length, ℤ, ◌+ℤ◌, ◌-ℤ◌}
use Rattle.std.proofs.Common.{arith}
use Rattle.std.proofs.lemmas.Nat.{mul-add-lt}
use Rattle.std.proofs.lemmas.Int.{ints}
use Rattle.cost.specs.declared.Cost.{Ghosts}
use Rattle.cost.specs.Columns.{AreWithin}
use Rattle.cost.specs.Weights.{weight}
use Rattle.blockset.specs.declared.BlockSet.{BlockSet}
use Rattle.pairing.specs.Places.{place_of}
use Rattle.pairing.specs.Rows.{holds}
use Rattle.assign.specs.declared.limits.TheConstants.{LEFT_PRICE_LIMIT}
use Rattle.assign.specs.Weighed.{SearchTables}

-- the place of a pair that stands is in the cost table
pub place_inside : {K : Type 0} (kind : Ghosts K) (rows : List BlockSet) (costs : List K)
    → SearchTables kind rows costs → (l r : ℕ) → l < length rows → holds rows l r ≡ true
    → place_of (length rows) l r < length costs
place_inside kind rows costs lent l r h stands =
    omega (
      arith,
      lent.square,
      mul-add-lt l (length rows) r (length rows) h
          (lent.inside l r h stands),
    )

-- the pairs of the left blocks below k have their prices; p: the right block of a left block, d:
-- how far each left block was
pub record PricedBelow (k : ℕ) (cost : ℕ → ℕ → ℤ) (p : ℕ → ℕ) (d : ℕ → List ℤ)
    (left right : ℕ → List ℤ) : Type 0 where
  pub waits : (l : ℕ) → k ≤ l → left l ≡ d l
  pub moved : (l : ℕ) → l < k → right (p l) ≡ d l
  pub tight : (l : ℕ) → l < k → weight (left l) +ℤ weight (d l) ≡ cost l (p l)
  pub bound : (l : ℕ) → l < k → AreWithin LEFT_PRICE_LIMIT (left l)

module _ (n : ℕ) (cost : ℕ → ℕ → ℤ) (p : ℕ → ℕ) (d : ℕ → List ℤ)
    (once : (l m : ℕ) → l < n → m < n → p l ≡ p m → l ≡ m) where
  pub priced_more : (k : ℕ) (left right left' right' : ℕ → List ℤ) → k < n
      → PricedBelow k cost p d left right
      → right' (p k) ≡ d k → ((c : ℕ) → (c ≡ p k → ⊥) → right' c ≡ right c)
      → weight (left' k) ≡ cost k (p k) -ℤ weight (d k) → AreWithin LEFT_PRICE_LIMIT (left' k)
      → ((l : ℕ) → (l ≡ k → ⊥) → left' l ≡ left l)
      → PricedBelow (k + 1) cost p d left' right'
  priced_more k left right left' right' below so_far here others new near others' = record {
    waits = λ l h. grind (arith, others' l);
    moved = λ l h. grind (arith, once l k, others (p l));
    tight = λ l h. grind (arith, ints);
    bound = λ l h. grind (arith, others' l);
  }
