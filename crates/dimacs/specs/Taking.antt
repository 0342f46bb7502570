-- One step over the words of a line.
use Rattle.std.specs.Prelude.{◌≡◌, ℕ, ◌+◌, ◌-◌, ◌<◌, ◌≤◌, List, ◌∷◌, ◌++◌, length, take, drop}
use Rattle.std.specs.Prelude.{ℤ, Some, None, Option}
use Rattle.dimacs.specs.Words.{IsNumber, IsCost, Writes, WritesCost}
use Rattle.dimacs.specs.declared.word.Number.{Number}
use Rattle.dimacs.specs.declared.word.Cost.{Cost}
use Rattle.dimacs.specs.declared.words.Words.{Words}

-- the bytes from the next word on, and its offset
abbrev pub rest_of : Words → List ℕ
rest_of words = drop words.at words.text.now

abbrev pub offset_of : Words → ℕ
offset_of words = words.at

-- the word at the front was passed, and the byte that ends it
pub record Passes (end : ℕ) (before after : Words) (word : List ℕ) (place : ℕ) : Type 0 where
  pub place_is : place ≡ before.at
  pub splits : rest_of before ≡ word ++ end ∷ rest_of after
  pub moves : after.at ≡ before.at + length word + 1

-- an offset of the text where a byte stands, not before the next word
abbrev pub IsAhead : Words → ℕ → Type 0
IsAhead before to = (before.at ≤ to) × (to < length before.text.now)

-- the bytes up to there were passed, and the byte that stands there
pub record PassesTo (before : Words) (to : ℕ) (word : List ℕ) (after : Words) : Type 0 where
  pub word_is : word ≡ take (to - before.at) (rest_of before)
  pub moves : after.at ≡ to + 1
  pub same_text : after.text.now ≡ before.text.now

-- the number that stands at the front and ends at this byte is handed out; or none stands there
abbrev pub TakesNumber : (end : ℕ) → (before : Words) → Option Number → (after : Words) → Type 0
TakesNumber end before (Some number) after =
    (x : ℕ) × Writes number x × Passes end before after number.text.now number.place
TakesNumber end before None after = (word more : List ℕ) (x : ℕ) → IsNumber word x
    → rest_of before ≡ word ++ end ∷ more → ⊥

-- and the cost
abbrev pub TakesCost : (end : ℕ) → (before : Words) → Option Cost → (after : Words) → Type 0
TakesCost end before (Some cost) after =
    (z : ℤ) × WritesCost cost z × Passes end before after cost.text.now cost.place
TakesCost end before None after = (word more : List ℕ) (z : ℤ) → IsCost word z
    → rest_of before ≡ word ++ end ∷ more → ⊥
