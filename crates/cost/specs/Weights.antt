-- The columns of a cost as one whole number, for statements and proofs only: no code folds columns.
-- The columns are read as digits in base 2^64, so sums of columns are sums of the numbers; and they
-- are so far below the base that the first one that differs outweighs all that follow it.
use Rattle.std.specs.Prelude.{◌≡◌, ◌*◌, ◌^◌, List, [], ◌∷◌, length, ℤ, pos, ◌+ℤ◌, ◌-ℤ◌, ◌*ℤ◌}
use Rattle.std.specs.Ordering.{int_cmp}
use Rattle.cost.specs.declared.TheConstants.{RAIL}
use Rattle.cost.specs.Columns.{AreWithin, plus, minus, lex}

-- what the columns weigh behind a front of weight a
abbrev pub weight_from : ℤ → List ℤ → ℤ
weight_from a [] = a
weight_from a (x ∷ xs) = weight_from (a *ℤ pos (2 ^ 64) +ℤ x) xs

abbrev pub weight : List ℤ → ℤ
weight xs = weight_from (pos 0) xs

-- columns that weights tell apart: far wider than the rail, so that sums of values still fit
abbrev pub IsLight : List ℤ → Type 0
IsLight xs = AreWithin (4000 * RAIL) xs

-- the weights of light columns compare as the columns do
abbrev pub WeightsCompare : Type 0
WeightsCompare = (xs ys : List ℤ) → length xs ≡ length ys → IsLight xs → IsLight ys
    → int_cmp (weight xs) (weight ys) ≡ lex xs ys

-- a sum of columns weighs what both weigh together
abbrev pub SumsWeigh : Type 0
SumsWeigh = (xs ys : List ℤ) → length xs ≡ length ys
    → weight (plus xs ys) ≡ weight xs +ℤ weight ys

-- a difference of columns weighs what the first weighs more than the second
abbrev pub DifferencesWeigh : Type 0
DifferencesWeigh = (xs ys : List ℤ) → length xs ≡ length ys
    → weight (minus xs ys) ≡ weight xs -ℤ weight ys
