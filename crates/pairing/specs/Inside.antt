-- What matters of a grid is inside: which pairs of its blocks stand, and what those cost.
use Rattle.std.specs.Prelude.{◌≡◌, ℕ, ◌<◌, Bool, true}
use Rattle.pairing.specs.Places.{rights_of}
use Rattle.pairing.specs.Grid.{Grid, right_count}

-- two tests answer the same of each pair of n left blocks and their right blocks
abbrev pub AreAlike : ℕ → (stands stands' : ℕ → ℕ → Bool) → Type 0
AreAlike n stands stands' = (l r : ℕ) → l < n → r < rights_of n → stands l r ≡ stands' l r

-- Two grids are the same inside: they have the same size and the same columns, the same pairs of
-- their blocks stand, and each of these costs the same. Whether pairs of other numbers stand, and
-- what a pair costs that does not stand, may differ.
pub record AreSameInside (g h : Grid) : Type 0 where
  pub size : g.size ≡ h.size
  pub columns : g.columns ≡ h.columns
  pub stands : AreAlike g.size g.stands h.stands
  pub cost : (l r : ℕ) → l < g.size → r < right_count g → g.stands l r ≡ true
      → g.cost l r ≡ h.cost l r
