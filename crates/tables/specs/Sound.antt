-- When the pairs of lent tables are sound: the pair tables are in order, and no standing pair costs
-- less than its two prices, so that the prices are dual feasible.
use Rattle.std.specs.Prelude.{◌≡◌, ℕ, ◌<◌, Bool, true, false, ◌&&◌, List, ℤ, slice_index}
use Rattle.std.specs.Ordering.{is_eq}
use Rattle.cost.specs.declared.Cost.{Ghosts}
use Rattle.cost.specs.declared.TheConstants.{COST_LIMIT}
use Rattle.cost.specs.Columns.{AreWithin, plus, lex}
use Rattle.pairing.specs.Grid.{Grid, IsUpto, right_count}
use Rattle.tables.specs.PairTables.{says_stands, says_disturbed}
use Rattle.tables.specs.Said.{columns_at}
use Rattle.tables.specs.Lent.{Lent, grid, left_price, right_price, IsOrderly}

-- the prices are dual feasible: no standing pair has a reduced cost below zero
abbrev pub AreFeasible : Grid → (left right : ℕ → List ℤ) → Type 0
AreFeasible g left right = (l r : ℕ) → l < g.size → r < right_count g → g.stands l r ≡ true
    → IsUpto (plus (left l) (right r)) (g.cost l r)

-- all pairs of lent tables are sound
pub record IsSound {K : Type 0} (kind : Ghosts K) (t : Lent K) : Type 0 where
  pub in_order : IsOrderly kind t
  pub feasible : AreFeasible (grid kind t) (left_price kind t) (right_price kind t)

-- ---- The pairs of one left block

-- an edge as lent tables show it: the standing byte of the pair, the columns of its two prices and
-- of its cost
pub record Edge : Type 0 where
  pub byte : ℕ
  pub left : List ℤ
  pub right : List ℤ
  pub cost : List ℤ

-- the edge is sound
pub record IsSoundEdge (p : Edge) : Type 0 where
  pub calm : says_disturbed p.byte ≡ false
  pub small : says_stands p.byte ≡ true → AreWithin COST_LIMIT p.cost
  pub feasible : says_stands p.byte ≡ true → IsUpto (plus p.left p.right) p.cost

-- it stands and costs just its two prices
abbrev pub adds_up : Edge → Bool
adds_up p = says_stands p.byte && is_eq (lex (plus p.left p.right) p.cost)

module _ {K : Type 0} (kind : Ghosts K) (costs : List K) (standing : List ℕ) (left : List ℤ)
    (right : List K) where
  -- the edge of a left block and right block r, by the left price, the left block's parts of the
  -- pair tables and the right prices
  abbrev pub edge_in : ℕ → Edge
  edge_in r = record {
    byte = slice_index standing r;
    left = left;
    right = columns_at kind right r;
    cost = columns_at kind costs r;
  }

  -- its first k pairs are sound
  abbrev pub IsSoundRow : ℕ → Type 0
  IsSoundRow k = (r : ℕ) → r < k → IsSoundEdge (edge_in r)
