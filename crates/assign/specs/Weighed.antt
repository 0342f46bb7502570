-- The values of lent tables as single integers, by which the searches compare distances. Only
-- statements weigh: no code folds columns.
use Rattle.std.specs.Prelude.{◌≡◌, ℕ, ◌<◌, ◌≤◌, Bool, true, List, length, ℤ}
use Rattle.cost.specs.declared.Cost.{Ghosts}
use Rattle.cost.specs.declared.TheConstants.{COST_LIMIT}
use Rattle.blockset.specs.declared.TheConstants.{MOST_BLOCKS}
use Rattle.cost.specs.Columns.{AreWithin}
use Rattle.cost.specs.Weights.{weight}
use Rattle.blockset.specs.declared.BlockSet.{BlockSet}
use Rattle.pairing.specs.Rows.{holds}
use Rattle.pairing.specs.Places.{place_of, places_of}
use Rattle.tables.specs.Said.{columns_at}
use Rattle.assign.specs.Search.{Graph}

-- what the value at a place of a table weighs
abbrev pub weight_at : {K : Type 0} → Ghosts K → List K → ℕ → ℤ
weight_at kind table k = weight (columns_at kind table k)

-- what the cost of a pair weighs
abbrev pub cost_weight : {K : Type 0} → Ghosts K → ℕ → List K → ℕ → ℕ → ℤ
cost_weight kind n costs l r = weight_at kind costs (place_of n l r)

-- what a search over rows and costs goes over
abbrev pub graph : {K : Type 0} → Ghosts K → List BlockSet → List K → Graph
graph kind rows costs = record {
  size = length rows;
  stands = holds rows;
  cost = cost_weight kind (length rows) costs;
}

-- the values of a table at the places of a set are within a limit in each column
abbrev pub BoundedOn : {K : Type 0} → Ghosts K → ℕ → (ℕ → Bool) → List K → Type 0
BoundedOn kind limit set table = (k : ℕ) → set k ≡ true
    → AreWithin limit (columns_at kind table k)

-- Rows of the right blocks that stand, and a cost within COST_LIMIT in each column for each of
-- their pairs: what every search is lent
pub record SearchTables {K : Type 0} (kind : Ghosts K) (rows : List BlockSet) (costs : List K)
    : Type 0 where
  pub few : length rows ≤ MOST_BLOCKS
  pub square : length costs ≡ places_of (length rows)
  pub inside : (l c : ℕ) → l < length rows → holds rows l c ≡ true → c < length rows
  pub modest : (l c : ℕ) → l < length rows → holds rows l c ≡ true
      → AreWithin COST_LIMIT (columns_at kind costs (place_of (length rows) l c))
