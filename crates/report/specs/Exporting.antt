-- The order file of what some bytes state.
use Rattle.std.specs.Prelude.{◌≡◌, ℕ, ◌<◌, List, Some, if◌then◌else◌}
use Rattle.std.specs.Option.{is_some}
use Rattle.std.specs.List.{AllByRecursion}
use Rattle.cost.specs.declared.plain_kind.Plain.{Plain}
use Rattle.orderfile.specs.Format.{StatedOrder, States}
use Rattle.orderfile.specs.Loading.{stated_cost}
use Rattle.orderfile.specs.Saving.{times, AreStandingPairs}
use Rattle.orderfile.specs.declared.record.StatedPair.{StatedPair}

-- the file is that of the standing pairs in tables of plain costs, and an order file
pub record IsFileOfTables (n : ℕ) (costs : List Plain) (standing file : List ℕ) : Type 0 where
  pub pairs : List StatedPair
  pub states : States file (record { size = n; pairs = pairs })
  pub names : AreStandingPairs n costs standing pairs

-- the pairs are those that an order states a cost for, each named once and at that cost; their
-- order is free
pub record AreStatedOnce (order : StatedOrder) (pairs : List StatedPair) : Type 0 where
  pub once : (l r : ℕ) → l < order.size → r < order.size → times l r pairs
      ≡ (if is_some (stated_cost order.pairs l r) then 1 else 0)
  pub only : AllByRecursion (λ p. stated_cost order.pairs p.left p.right ≡ Some p.cost) pairs

-- some bytes state an order in their format, and the file states the same sheet: its size, and once
-- each pair that has a cost, at that cost, and nothing else
pub record IsOrderOf (IsStated : StatedOrder → Type 0) (file : List ℕ) : Type 0 where
  pub order : StatedOrder
  pub stated : IsStated order
  pub pairs : List StatedPair
  pub states : States file (record { size = order.size; pairs = pairs })
  pub names : AreStatedOnce order pairs
