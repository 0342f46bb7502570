-- The words of a line: which bytes write a number or a cost, and what is handed out of them.
use Rattle.std.specs.Prelude.{◌≡◌, ◌⊎◌, ℕ, suc, min, List, ◌∷◌, ◌++◌, length, take, drop, ◌+◌, ◌-◌}
use Rattle.std.specs.Prelude.{ℤ, pos, negsuc, neg_ℤ, codes}
use Rattle.std.specs.Str.Parse.{IsNumeral, digits_value}
use Rattle.dimacs.specs.declared.word.Number.{Number}
use Rattle.dimacs.specs.declared.word.Cost.{Cost}

-- a word that is a number: a run of digits, of any length
pub record IsNumber (word : List ℕ) (x : ℕ) : Type 0 where
  pub numeral : IsNumeral 10 word
  pub value : digits_value 10 word ≡ x

-- a word that is a cost: a number, or a minus sign before one
pub record IsNegative (word : List ℕ) (z : ℤ) : Type 0 where
  pub digits : List ℕ
  pub size : ℕ
  pub signed : word ≡ codes "-" ++ digits
  pub number : IsNumber digits size
  pub value : z ≡ neg_ℤ (pos size)

abbrev pub IsCost : List ℕ → ℤ → Type 0
IsCost word z = ((x : ℕ) × IsNumber word x × (z ≡ pos x)) ⊎ IsNegative word z

-- ---- Words that are handed out

-- the number itself, or the greatest one of 64 bits where it is above that
abbrev pub stopped : ℕ → ℕ
stopped x = min x 18446744073709551615

-- the bytes of a text between two offsets
abbrev pub between : (at end : ℕ) → List ℕ → List ℕ
between at end text = take (end - at) (drop at text)

-- a byte that ends a word: a blank, or the newline
abbrev pub EndsWord : ℕ → Type 0
EndsWord e = (e ≡ 32) ⊎ (e ≡ 10)

-- a number stands in a text between two offsets and ends at a byte, and this is handed out of it
pub record HasNumber (text : List ℕ) (at e end value : ℕ) : Type 0 where
  pub digits : List ℕ
  pub numeral : IsNumeral 10 digits
  pub splits : drop at text ≡ digits ++ e ∷ drop (end + 1) text
  pub ends_at : end ≡ at + length digits
  pub value_is : value ≡ stopped (digits_value 10 digits)

-- none stands there and ends at this byte
abbrev pub HasNoNumber : (text : List ℕ) (at e : ℕ) → Type 0
HasNoNumber text at e = (word more : List ℕ) (x : ℕ) → IsNumber word x
    → drop at text ≡ word ++ e ∷ more → ⊥

-- the cost itself, or the end of 64 bits with a sign that it is beyond: the two ends are
-- 2^63 - 1 and its negative
abbrev pub cost_stopped : ℤ → ℤ
cost_stopped (pos x) = pos (min x 9223372036854775807)
cost_stopped (negsuc x) = neg_ℤ (pos (min (suc x) 9223372036854775807))

-- what is handed out is a number x
pub record Writes (number : Number) (x : ℕ) : Type 0 where
  pub writes : IsNumber number.text.now x
  pub value_is : number.value ≡ stopped x

-- and a cost z
pub record WritesCost (cost : Cost) (z : ℤ) : Type 0 where
  pub writes : IsCost cost.text.now z
  pub value_is : cost.value ≡ cost_stopped z
