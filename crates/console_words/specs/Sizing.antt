-- The sizes that a word tells.
use Rattle.std.specs.Prelude.{ℕ, ◌≤◌, List}
use Rattle.std.specs.Str.Parse.{IsNumeral, digits_value, without_leading_plus}
use Rattle.blockset.specs.declared.TheConstants.{MOST_BLOCKS}

-- the number that a word writes in decimal
abbrev pub number_in : List ℕ → ℕ
number_in word = digits_value 10 (without_leading_plus word)

-- the word writes a size that a sheet can have
pub record TellsSize (word : List ℕ) : Type 0 where
  pub numeral : IsNumeral 10 (without_leading_plus word)
  pub some : 1 ≤ number_in word
  pub few : number_in word ≤ MOST_BLOCKS
