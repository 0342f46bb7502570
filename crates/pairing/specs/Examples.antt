-- The worked examples: small grids, each the tables of a cost kind, and the statement that the
-- numbers of `Worked` are right for them.
use Rattle.std.specs.Prelude.{◌≡◌, ℕ, ◌-◌, ◌<◌, Bool, true, not, ◌&&◌, List, [], ◌∷◌, length, map}
use Rattle.std.specs.Prelude.{replicate, ℤ, pos, negsuc, IsTrue, ◌↔◌, ◌==◌, slice_index_or}
use Rattle.std.specs.List.{list_any, AllByRecursion}
use Rattle.cost.specs.declared.Cost.{Ghosts}
use Rattle.cost.specs.declared.plain_kind.Plain.{Plain}
use Rattle.cost.specs.declared.free_kind.Free.{Free}
use Rattle.cost.specs.declared.two_step_kind.TwoStep.{TwoStep}
use Rattle.pairing.specs.Grid.{Grid, at, total}
use Rattle.pairing.specs.Stated.{grid_of}
use Rattle.pairing.specs.Prices.{AreGreatest, IsTight}
use Rattle.pairing.specs.Optima.{optima, IsInOptimum}
use Rattle.pairing.specs.Largest.{HasNoPerfect}
use Rattle.pairing.specs.declared.Worked.{Worked}

-- ---- Costs and prices

abbrev pub plain_cost : ℤ → Plain
plain_cost x = record { 0 = x }

-- plain costs, from a list of numbers
abbrev pub plain_costs : List ℤ → List Plain
plain_costs xs = map plain_cost xs

abbrev pub two_step_cost : ℤ → ℤ → TwoStep Plain Plain
two_step_cost x y = record { 0 = plain_cost x; 1 = plain_cost y }

-- so many free costs
abbrev pub free_costs : ℕ → List Free
free_costs k = replicate k (record {})

-- prices of one column, from a list
abbrev pub prices : List ℤ → ℕ → List ℤ
prices xs k = slice_index_or xs k (pos 0) ∷ []

-- ---- The grids

-- Each grid is what tables say at a cost kind: costs and standing bytes, left block by left block.

-- the pairs of S that stand
abbrev pub s_standing : List ℕ
s_standing =
    1 ∷ 1 ∷ 0 ∷
    1 ∷ 1 ∷ 1 ∷
    0 ∷ 1 ∷ 1 ∷ []

abbrev pub s_costs : List ℤ
s_costs =
    pos 4 ∷ pos 2 ∷ pos 0 ∷
    pos 3 ∷ pos 1 ∷ pos 5 ∷
    pos 0 ∷ pos 6 ∷ pos 2 ∷ []

abbrev pub s_grid : Ghosts Plain → Grid
s_grid kind = grid_of kind 3 (plain_costs s_costs) s_standing

-- S in the free kind
abbrev pub s_free_grid : Ghosts Free → Grid
s_free_grid kind = grid_of kind 3 (free_costs 9) s_standing

abbrev pub two_step_costs : List (TwoStep Plain Plain)
two_step_costs =
    two_step_cost (pos 1) (pos 5) ∷ two_step_cost (pos 2) (pos 0) ∷
    two_step_cost (pos 2) (pos 0) ∷ two_step_cost (pos 3) (pos 1) ∷ []

abbrev pub two_step_grid : Ghosts (TwoStep Plain Plain) → Grid
two_step_grid kind = grid_of kind 2 two_step_costs (1 ∷ 1 ∷ 1 ∷ 1 ∷ [])

-- both left blocks stand with right block 0 alone
abbrev pub crowded_grid : Ghosts Free → Grid
crowded_grid kind = grid_of kind 2 (free_costs 4) (1 ∷ 0 ∷ 1 ∷ 0 ∷ [])

-- one block on each side, and the pair does not stand
abbrev pub bare_grid : Ghosts Free → Grid
bare_grid kind = grid_of kind 1 (free_costs 1) (0 ∷ [])

-- (0, 1) can be tight, but then left block 1 has nothing left
abbrev pub corner_grid : Ghosts Plain → Grid
corner_grid kind = grid_of kind 2 (plain_costs (replicate 4 (pos 0))) (1 ∷ 1 ∷ 0 ∷ 1 ∷ [])

-- every pair stands at 0 but (0, 0), which stands at -5
abbrev pub cheap_grid : Ghosts Plain → Grid
cheap_grid kind = grid_of kind 2 (plain_costs (negsuc 4 ∷ pos 0 ∷ pos 0 ∷ pos 0 ∷ []))
    (replicate 4 1)

-- every pair stands at 7
abbrev pub level_grid : Ghosts Plain → Grid
level_grid kind = grid_of kind 3 (plain_costs (replicate 9 (pos 7))) (replicate 9 1)

-- ---- What is said of them

-- the pair is one of a list of pairs
abbrev pub is_among : List (List ℕ) → ℕ → ℕ → Bool
is_among ps l r = list_any (λ p. at p 0 == l && at p 1 == r) ps

-- These are the optimum pairings; each costs the total, and the prices are the greatest for each:
-- `AllByRecursion` is the `All` that computes.
pub record HasSolution (g : Grid) (pairings : List (List ℕ)) (sum : ℤ) (left right : List ℤ)
    : Type 0 where
  pub all : optima g ≡ pairings
  pub totals : AllByRecursion (λ p. total g p ≡ sum ∷ []) pairings
  pub greatest : AllByRecursion (AreGreatest g (prices left) (prices right)) pairings

-- the numbers are right for these grids, at the plain, the free and the two-step kind
pub record Examples (plain : Ghosts Plain) (free : Ghosts Free)
    (two_step : Ghosts (TwoStep Plain Plain)) (w : Worked) : Type 0 where
  pub s : HasSolution (s_grid plain) w.s_optima w.s_total w.s_left w.s_right
  -- some optimum pairing has each standing pair but these
  pub s_marked : (l r : ℕ) → l < 3 → r < 3 → (s_grid plain).stands l r ≡ true
      → (IsTrue (not (is_among w.s_unmarked l r)) ↔ IsInOptimum (s_grid plain) l r)
  pub free_kind : optima (s_free_grid free) ≡ w.free_optima
  pub two_steps : optima (two_step_grid two_step) ≡ w.two_step_optima
  pub two_step_total : AllByRecursion (λ p. total (two_step_grid two_step) p ≡ w.two_step_total)
      w.two_step_optima
  pub crowded : HasNoPerfect (crowded_grid free).size (crowded_grid free).stands w.crowded_set
      w.crowded_short
  pub bare : HasNoPerfect (bare_grid free).size (bare_grid free).stands w.bare_set w.bare_short
  pub corner : HasSolution (corner_grid plain) w.corner_optima (pos 0) w.corner_left w.corner_right
  -- a standing pair that costs just its prices and is in no optimum pairing
  pub corner_stands : (corner_grid plain).stands w.corner_pair.left w.corner_pair.right ≡ true
  pub corner_tight : IsTight (corner_grid plain) (prices w.corner_left) (prices w.corner_right)
      w.corner_pair.left w.corner_pair.right
  pub corner_unmarked : IsInOptimum (corner_grid plain) w.corner_pair.left w.corner_pair.right → ⊥
  pub cheap : HasSolution (cheap_grid plain) w.cheap_optima w.cheap_total w.cheap_left w.cheap_right
  pub level_count : length (optima (level_grid plain)) ≡ w.level_count
  pub level_first : slice_index_or (optima (level_grid plain)) 0 [] ≡ w.level_first
  pub level_last : slice_index_or (optima (level_grid plain)) (w.level_count - 1) [] ≡ w.level_last
