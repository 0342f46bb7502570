-- A grid of blocks, its perfect pairings, what a pairing costs, and which pairings cost least.
use Rattle.std.specs.Prelude.{◌≡◌, ℕ, zero, suc, ◌<◌, ◌≤◌, Bool, true, List, length, ℤ, slice_index}
use Rattle.std.specs.List.{range_with_len}
use Rattle.std.specs.declared.cmp.Ordering.TheVariants.{Greater}
use Rattle.cost.specs.declared.TheConstants.{COST_LIMIT}
use Rattle.blockset.specs.declared.TheConstants.{MOST_BLOCKS}
use Rattle.cost.specs.Columns.{AreWithin, zeros, plus, lex}
use Rattle.pairing.specs.Places.{rights_of}

-- `size` left blocks and as many right blocks, both numbered from 0: which pairs of a left and a
-- right block stand (the edges of the graph), how many columns a cost has, and the columns of the
-- cost of each standing pair. What `cost` says of any other pair means nothing.
pub record Grid : Type 0 where
  pub size : ℕ
  pub columns : ℕ
  pub stands : ℕ → ℕ → Bool
  pub cost : ℕ → ℕ → List ℤ

-- how many right blocks a grid has
abbrev pub right_count : Grid → ℕ
right_count g = rights_of g.size

-- what entering a cost grants: few blocks, and at each standing pair a cost of the grid's columns,
-- each within `COST_LIMIT`
pub record IsSane (g : Grid) : Type 0 where
  pub few : g.size ≤ MOST_BLOCKS
  pub sized : (l r : ℕ) → l < g.size → r < right_count g → g.stands l r ≡ true
      → length (g.cost l r) ≡ g.columns
  pub small : (l r : ℕ) → l < g.size → r < right_count g → g.stands l r ≡ true
      → AreWithin COST_LIMIT (g.cost l r)

-- the numbers below n: the n blocks of a side
abbrev pub numbers : ℕ → List ℕ
numbers n = range_with_len 0 n

-- A pairing is written as the list of the right blocks of left blocks 0, 1, 2 and so on: here the
-- right block of left block l.
abbrev pub at : List ℕ → ℕ → ℕ
at p l = slice_index p l

-- a perfect pairing (perfect matching): each of n left blocks has a right block that it stands
-- with, and no right block comes twice
pub record IsPerfect (n : ℕ) (stands : ℕ → ℕ → Bool) (p : List ℕ) : Type 0 where
  pub len : length p ≡ n
  pub below : (l : ℕ) → l < n → at p l < rights_of n
  pub standing : (l : ℕ) → l < n → stands l (at p l) ≡ true
  pub once : (l m : ℕ) → l < n → m < n → at p l ≡ at p m → l ≡ m

abbrev pub IsPerfectIn : Grid → List ℕ → Type 0
IsPerfectIn g p = IsPerfect g.size g.stands p

-- what the pairs of the first k left blocks cost together, column by column
abbrev pub total_of : Grid → List ℕ → ℕ → List ℤ
total_of g p zero = zeros g.columns
total_of g p (suc k) = plus (total_of g p k) (g.cost k (at p k))

-- what a pairing costs
abbrev pub total : Grid → List ℕ → List ℤ
total g p = total_of g p g.size

-- xs is at most ys: the first column that differs, if any does, is less in xs
abbrev pub IsUpto : List ℤ → List ℤ → Type 0
IsUpto xs ys = lex xs ys ≡ Greater → ⊥

-- a perfect pairing such that every perfect pairing costs at least as much (a perfect matching of
-- least cost, an optimum assignment)
pub record IsOptimum (g : Grid) (p : List ℕ) : Type 0 where
  pub perfect : IsPerfectIn g p
  pub least : (q : List ℕ) → IsPerfectIn g q → IsUpto (total g p) (total g q)
