-- The lists of all perfect and of all optimum pairings in dictionary order, by definitions that
-- compute, and the pairs that they have.
use Rattle.std.specs.Prelude.{◌≡◌, ℕ, zero, suc, ◌<◌, Bool, not, ◌&&◌, ◌⊎◌, List, [], ◌∷◌, map, ℤ}
use Rattle.std.specs.Prelude.{filter, ◌==◌, nat_lt}
use Rattle.std.specs.List.{flat_map, list_any, list_all}
use Rattle.std.specs.Ordering.{is_le}
use Rattle.cost.specs.Columns.{lex}
use Rattle.pairing.specs.Places.{rights_of}
use Rattle.pairing.specs.Grid.{Grid, numbers, at, IsPerfect, total, IsOptimum}

-- dictionary order: p comes before q if at the first place where they differ p has the smaller
-- number
abbrev pub IsBefore : List ℕ → List ℕ → Type 0
IsBefore [] [] = ⊥
IsBefore [] (y ∷ ys) = Unit {0}
IsBefore (x ∷ xs) [] = ⊥
IsBefore (x ∷ xs) (y ∷ ys) = (x < y) ⊎ ((x ≡ y) × IsBefore xs ys)

-- ---- The lists

-- all lists of k numbers below n, in dictionary order
abbrev pub lists : ℕ → ℕ → List (List ℕ)
lists n zero = [] ∷ []
lists n (suc k) = flat_map (λ r. map (λ t. r ∷ t) (lists n k)) (numbers n)

-- the pairs of p stand, and none of its right blocks comes twice
abbrev pub is_perfect : ℕ → (ℕ → ℕ → Bool) → List ℕ → Bool
is_perfect n stands p = list_all (λ l. stands l (at p l)
    && list_all (λ m. not (at p l == at p m)) (numbers l)) (numbers n)

-- the perfect pairings
abbrev pub perfects : ℕ → (ℕ → ℕ → Bool) → List (List ℕ)
perfects n stands = filter (is_perfect n stands) (lists (rights_of n) n)

-- the test that xs is at most ys
abbrev pub is_upto : List ℤ → List ℤ → Bool
is_upto xs ys = is_le (lex xs ys)

-- xs is at most what each of the pairings costs
abbrev pub is_least : Grid → List ℤ → List (List ℕ) → Bool
is_least g xs ps = list_all (λ p. is_upto xs (total g p)) ps

-- the perfect pairings that cost at most what each perfect pairing costs
abbrev pub optima : Grid → List (List ℕ)
optima g = let ps = perfects g.size g.stands in filter (λ p. is_least g (total g p) ps) ps

-- ---- The pairs

-- some perfect pairing has the pair of l and r (the edge is allowed)
pub record IsInPerfect (n : ℕ) (stands : ℕ → ℕ → Bool) (l r : ℕ) : Type 0 where
  pub inside : l < n
  pub pairing : List ℕ
  pub perfect : IsPerfect n stands pairing
  pub has : at pairing l ≡ r

-- some optimum pairing has the pair of l and r
pub record IsInOptimum (g : Grid) (l r : ℕ) : Type 0 where
  pub inside : l < g.size
  pub pairing : List ℕ
  pub optimum : IsOptimum g pairing
  pub has : at pairing l ≡ r

-- one of the pairings has the pair of l and r
abbrev pub has_pair : ℕ → ℕ → List (List ℕ) → Bool
has_pair l r ps = list_any (λ p. at p l == r) ps

-- the test that some optimum pairing has it
abbrev pub is_in_optimum : Grid → ℕ → ℕ → Bool
is_in_optimum g l r = nat_lt l g.size && has_pair l r (optima g)
