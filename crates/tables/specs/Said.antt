-- What lent tables say at a cost kind: the grid of standing pairs and costs, and the prices. The
-- grid itself stands below, beside the worked examples.
use Rattle.std.specs.Prelude.{◌≡◌, ℕ, ◌<◌, true, false, List, slice_index}
use Rattle.cost.specs.declared.Cost.{Ghosts}
use Rattle.cost.specs.declared.TheConstants.{COST_LIMIT}
use Rattle.cost.specs.Columns.{AreWithin}
pub use Rattle.pairing.specs.Stated.{columns_at, grid_of}
use Rattle.tables.specs.PairTables.{says_stands, says_disturbed}

module _ {K : Type 0} (kind : Ghosts K) where
  -- the first n values of a table are within a limit in each column
  abbrev pub AreValuesWithin : ℕ → ℕ → List K → Type 0
  AreValuesWithin limit n table = (k : ℕ) → k < n → AreWithin limit (columns_at kind table k)

  -- pair tables with this many places are in order: no standing byte is disturbed, and each
  -- standing pair's cost is within 10^9 in each column
  pub record IsInOrder (places : ℕ) (costs : List K) (standing : List ℕ) : Type 0 where
    pub bytes : (k : ℕ) → k < places → says_disturbed (slice_index standing k) ≡ false
    pub small : (k : ℕ) → k < places → says_stands (slice_index standing k) ≡ true
        → AreWithin COST_LIMIT (columns_at kind costs k)
