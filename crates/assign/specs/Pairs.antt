-- The pairing as it grows: what is kept from one left block to the next, and the pairs that cost
-- least.
use Rattle.std.specs.Prelude.{◌≡◌, ℕ, ◌<◌, ◌≤◌, Bool, true, false, List, length, ℤ, ◌≤ℤ◌, ◌≢◌, ◌↔◌}
use Rattle.cost.specs.declared.Cost.{Ghosts}
use Rattle.cost.specs.declared.TheConstants.{COST_LIMIT}
use Rattle.cost.specs.Columns.{AreWithin}
use Rattle.blockset.specs.declared.BlockSet.{BlockSet}
use Rattle.blockset.specs.Has.{has}
use Rattle.pairing.specs.Grid.{at}
use Rattle.tables.specs.Said.{columns_at, AreValuesWithin}
use Rattle.assign.specs.Weighed.{weight_at, graph}
use Rattle.matching.specs.Exchange.{AreHolders}
use Rattle.assign.specs.Search.{pairing, Kept}
use Rattle.assign.specs.declared.tree.Cheapest.{Cheapest}
use Rattle.assign.specs.declared.tree.FirstPairs.{FirstPairs}
use Rattle.assign.specs.declared.limits.TheConstants.{INNER_PRICE_LIMIT}
use Rattle.matching.specs.declared.chains.Holders.{Holders}

-- The pairing so far, and the prices of the right blocks: `out` has the left blocks that are left
-- out, `partners` the right block of each other one, and `holders` tells whose each right block is.
pub record SoFar (K : Type 0) : Type 0 where
  pub out : ℕ → Bool
  pub partners : List ℕ
  pub holders : Holders
  pub right : List K

abbrev pub so_far : {K : Type 0} → (ℕ → Bool) → List ℕ → Holders → List K → SoFar K
so_far out partners holders right =
    record { out = out; partners = partners; holders = holders; right = right }

-- The prices, which are dual prices of the right blocks, go with the pairing so far. The price of a
-- right block that was never taken is still a cost, and no price is far.
pub record IsPriced {K : Type 0} (kind : Ghosts K) (rows : List BlockSet) (costs : List K)
    (now : SoFar K) : Type 0 where
  pub kept : Kept (graph kind rows costs)
      (pairing now.out now.partners now.holders (weight_at kind now.right))
  pub priced : AreValuesWithin kind INNER_PRICE_LIMIT (length rows) now.right
  pub unsold : (c : ℕ) → c < length rows → has now.holders.held c ≡ false
      → AreWithin COST_LIMIT (columns_at kind now.right c)

-- The price of each right block is the least cost that it stands at with a left block below m, and
-- `cheapest` has a left block that it costs that with, for each right block that stands with any.
pub record AreCheapest (m n : ℕ) (stands : ℕ → ℕ → Bool) (cost : ℕ → ℕ → ℤ) (cheapest : Cheapest)
    (v : ℕ → ℤ) : Type 0 where
  pub inside : (c : ℕ) → has cheapest.priced c ≡ true → c < n
  pub low : (c : ℕ) → has cheapest.priced c ≡ true → at cheapest.owner c < m
  pub stood : (c : ℕ) → has cheapest.priced c ≡ true → stands (at cheapest.owner c) c ≡ true
  pub costs : (c : ℕ) → has cheapest.priced c ≡ true → v c ≡ cost (at cheapest.owner c) c
  pub least : (l c : ℕ) → l < m → stands l c ≡ true
      → (has cheapest.priced c ≡ true) × (v c ≤ℤ cost l c)

-- each left block that some right block is cheapest with is paired, with the first such one; the
-- others are left out
pub record AreChosen (n : ℕ) (cheapest : Cheapest) (p : List ℕ) (made : FirstPairs) : Type 0 where
  pub inside : (l : ℕ) → has made.out l ≡ true → l < n
  pub left_out : (l : ℕ) → l < n
      → (has made.out l ≡ true) ↔ ((c : ℕ) → has cheapest.priced c ≡ true → at cheapest.owner c ≢ l)
  pub cheap : (l : ℕ) → l < n → has made.out l ≡ false
      → (has cheapest.priced (at p l) ≡ true) × (at cheapest.owner (at p l) ≡ l)
  pub first : (l : ℕ) → l < n → has made.out l ≡ false → (c : ℕ) → has cheapest.priced c ≡ true
      → at cheapest.owner c ≡ l → at p l ≤ c
  pub holding : AreHolders 0 p (has made.out) made.holders
