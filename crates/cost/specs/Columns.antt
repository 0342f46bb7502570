-- Columns: what a cost means, and what the five answers of a kind do to it.
use Rattle.std.specs.Prelude.{ℕ, ◌-◌, ◌≤◌, min, Bool, if◌then◌else◌, List, [], ◌∷◌, replicate}
use Rattle.std.specs.Prelude.{ℤ, pos, negsuc, ◌+ℤ◌, ◌-ℤ◌, int_lt, nat_le, unsigned_abs}
use Rattle.std.specs.declared.cmp.Ordering.TheVariants.{Less, Equal, Greater}
use Rattle.std.specs.declared.cmp.Ordering.{Ordering}
use Rattle.std.specs.List.{AllByRecursion, list_all}
use Rattle.cost.specs.declared.TheConstants.{RAIL}

-- the number on the rail, from -10^15 to 10^15, that is nearest to z (negsuc k is -(k + 1))
abbrev pub rail_of : ℤ → ℤ
rail_of (pos k) = pos (min k RAIL)
rail_of (negsuc k) = negsuc (min k (RAIL - 1))

-- each column is from -limit to limit
abbrev pub AreWithin : ℕ → List ℤ → Type 0
AreWithin limit xs = AllByRecursion (λ x. unsigned_abs x ≤ limit) xs

-- the same as a test
abbrev pub within : ℕ → List ℤ → Bool
within limit xs = list_all (λ x. nat_le (unsigned_abs x) limit) xs

-- n columns of 0
abbrev pub zeros : ℕ → List ℤ
zeros n = replicate n (pos 0)

-- two lists column by column, as far as both go
abbrev pub columnwise : (ℤ → ℤ → ℤ) → List ℤ → List ℤ → List ℤ
columnwise f [] ys = []
columnwise f (x ∷ xs) [] = []
columnwise f (x ∷ xs) (y ∷ ys) = f x y ∷ columnwise f xs ys

-- what add and take away give
abbrev pub sums : List ℤ → List ℤ → List ℤ
sums = columnwise (λ x y. rail_of (x +ℤ y))

abbrev pub differences : List ℤ → List ℤ → List ℤ
differences = columnwise (λ x y. rail_of (x -ℤ y))

-- sum and difference without the rail
abbrev pub plus : List ℤ → List ℤ → List ℤ
plus = columnwise ◌+ℤ◌

abbrev pub minus : List ℤ → List ℤ → List ℤ
minus = columnwise ◌-ℤ◌

-- the order by the first column that differs
abbrev pub lex : List ℤ → List ℤ → Ordering
lex [] ys = Equal
lex (x ∷ xs) [] = Equal
lex (x ∷ xs) (y ∷ ys) =
    (if int_lt x y then Less else (if int_lt y x then Greater else lex xs ys))
