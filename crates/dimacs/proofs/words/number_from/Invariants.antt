-- The bytes from the offset on that were passed are digits; as long as they are few, their number
-- is the value.
use Rattle.std.proofs.Common.{◌≡◌, ℕ, ◌+◌, ◌-◌, ◌≤◌, List, length, take, drop}
use Rattle.std.specs.Str.Parse.{AllDigits, digits_value}
use Rattle.dimacs.proofs.words.number_from.Given as goal

pub record Counts (text : List ℕ) (at i value : ℕ) : Type 0 where
  pub count : ℕ
  pub counted : i ≡ at + count
  pub within : i ≤ length text
  pub digits : AllDigits 10 (take count (drop at text))
  pub value_is : count ≤ 18 → value ≡ digits_value 10 (take count (drop at text))

abbrev pub invariant-loop-i : goal.invariant-loop-i
invariant-loop-i l = Counts l.text l.at l.i l.value

abbrev pub decreases-loop-i : goal.decreases-loop-i
decreases-loop-i l = length l.text - l.i
