-- Prices of the blocks (dual prices): they prove a pairing optimum, and show which others are.
use Rattle.std.specs.Prelude.{◌≡◌, ℕ, ◌<◌, true, List, length, ℤ}
use Rattle.cost.specs.declared.TheConstants.{RAIL}
use Rattle.cost.specs.Columns.{AreWithin, zeros, plus}
use Rattle.pairing.specs.Grid.{Grid, right_count, at, IsUpto}

-- what a value of a cost kind means: so many columns, each on the rail from -`RAIL` to `RAIL`
pub record IsCostValue (columns : ℕ) (xs : List ℤ) : Type 0 where
  pub sized : length xs ≡ columns
  pub on_rail : AreWithin RAIL xs

-- the pair costs its two prices, neither more nor less: it is tight (its reduced cost is 0)
abbrev pub IsTight : Grid → (left right : ℕ → List ℤ) → ℕ → ℕ → Type 0
IsTight g left right l r = plus (left l) (right r) ≡ g.cost l r

-- each pair of the pairing is tight (complementary slackness)
abbrev pub AreTight : Grid → (left right : ℕ → List ℤ) → List ℕ → Type 0
AreTight g left right p = (l : ℕ) → l < g.size → IsTight g left right l (at p l)

-- no standing pair costs less than its two prices (dual feasible: no reduced cost is below 0), and
-- the pairs of p cost just them
pub record AreValid (g : Grid) (left right : ℕ → List ℤ) (p : List ℕ) : Type 0 where
  pub lefts : (l : ℕ) → l < g.size → IsCostValue g.columns (left l)
  pub rights : (r : ℕ) → r < right_count g → IsCostValue g.columns (right r)
  pub under : (l r : ℕ) → l < g.size → r < right_count g → g.stands l r ≡ true
      → IsUpto (plus (left l) (right r)) (g.cost l r)
  pub equal : AreTight g left right p

-- no right price is above zero
abbrev pub IsLow : Grid → (right : ℕ → List ℤ) → Type 0
IsLow g right = (r : ℕ) → r < right_count g → IsUpto (right r) (zeros g.columns)

-- valid prices, no right price above zero, whose right prices are at least those of all other such
-- prices, at each right block
pub record AreGreatest (g : Grid) (left right : ℕ → List ℤ) (p : List ℕ) : Type 0 where
  pub valid : AreValid g left right p
  pub low : IsLow g right
  pub most : (left' right' : ℕ → List ℤ) → AreValid g left' right' p → IsLow g right' → (r : ℕ)
      → r < right_count g → IsUpto (right' r) (right r)
