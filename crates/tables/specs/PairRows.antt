-- Rows of block sets made from lent tables: the standing pairs, and the tight ones.
use Rattle.std.specs.Prelude.{◌≡◌, ℕ, ◌<◌, Bool, true, ◌&&◌, List, length, ℤ, IsTrue, ◌↔◌, nat_lt}
use Rattle.cost.specs.declared.Cost.{Ghosts}
use Rattle.blockset.specs.declared.BlockSet.{BlockSet}
use Rattle.blockset.specs.Has.{has}
use Rattle.pairing.specs.Grid.{Grid, right_count}
use Rattle.pairing.specs.Places.{rights_of}
use Rattle.pairing.specs.Prices.{IsTight}
use Rattle.pairing.specs.Rows.{holds}
use Rattle.tables.specs.Lent.{Lent, grid, left_price, right_price}

-- the set holds just the right blocks below a number that pass the test
abbrev pub HoldsPassing : ℕ → (ℕ → Bool) → BlockSet → Type 0
HoldsPassing rights test set = (r : ℕ) → has set r ≡ (nat_lt r rights && test r)

-- row l holds right block r exactly if there is such a block and the pair stands
abbrev pub AreStandingRows : ℕ → (ℕ → ℕ → Bool) → List BlockSet → Type 0
AreStandingRows n stands rows =
    (l r : ℕ) → l < n → holds rows l r ≡ (nat_lt r (rights_of n) && stands l r)

-- left block l and right block r are joined by a tight edge, one of the equality subgraph: there is
-- such a right block, the pair stands, and it costs just its two prices, so that its reduced cost
-- is zero
pub record IsTightEdge (g : Grid) (left right : ℕ → List ℤ) (l r : ℕ) : Type 0 where
  pub inside : r < right_count g
  pub stands : g.stands l r ≡ true
  pub tight : IsTight g left right l r

-- the rows are those of the tables' tight edges
pub record AreTightRows {K : Type 0} (kind : Ghosts K) (t : Lent K) (rows : List BlockSet)
    : Type 0 where
  pub long : length rows ≡ t.size
  pub held : (l r : ℕ) → l < t.size → IsTrue (holds rows l r)
      ↔ IsTightEdge (grid kind t) (left_price kind t) (right_price kind t) l r
