-- The laws of column arithmetic that everything above leans on.
use Rattle.std.specs.Prelude.{◌≡◌, ℕ, ◌+◌, ◌≤◌, List, length, ℤ}
use Rattle.std.specs.declared.cmp.Ordering.TheVariants.{Equal}
use Rattle.std.specs.declared.cmp.Ordering.{Ordering}
use Rattle.std.specs.Ordering.{ordering_reverse}
use Rattle.cost.specs.Columns.{AreWithin, sums, differences, plus, minus, lex}

-- where bounds add up to at most `reach`, the rail stops nothing
abbrev pub IsExact : ℕ → Type 0
IsExact reach = (a b : ℕ) (xs ys : List ℤ) → a + b ≤ reach → AreWithin a xs → AreWithin b ys
    → (sums xs ys ≡ plus xs ys) × (differences xs ys ≡ minus xs ys)

-- the other way round, columns compare in reverse
abbrev pub OrderMirrors : Type 0
OrderMirrors = (xs ys : List ℤ) → length xs ≡ length ys → lex ys xs ≡ ordering_reverse (lex xs ys)

-- only the same columns compare as equal
abbrev pub EqualIsSame : Type 0
EqualIsSame = (xs ys : List ℤ) → length xs ≡ length ys → lex xs ys ≡ Equal → xs ≡ ys

-- two pairs of neighbours that compare alike pass it on to the outer two
abbrev pub OrderChains : Type 0
OrderChains = (order : Ordering) (xs ys zs : List ℤ) → length xs ≡ length ys → length ys ≡ length zs
    → lex xs ys ≡ order → lex ys zs ≡ order → lex xs zs ≡ order

-- adding the same columns on both sides keeps the order
abbrev pub OrderShifts : Type 0
OrderShifts = (xs ys zs : List ℤ) → length xs ≡ length ys → length ys ≡ length zs
    → lex (plus xs zs) (plus ys zs) ≡ lex xs ys
