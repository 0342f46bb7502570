-- One more digit: of a value that stopped, ten times it and the digit stop where the number does.
use Rattle.std.proofs.Common.{◌≡◌, ℕ, ◌+◌, ◌*◌, ◌-◌, ◌<◌, List, length, get_or, take, min, arith}
use Rattle.std.proofs.lemmas.Int.Digits.{digits_value_more}
use Rattle.std.proofs.lemmas.Str.{digit_value_digit}
use Rattle.std.proofs.lemmas.Str.Parse.{digit_at}
use Rattle.std.specs.Char.{digit_value}
use Rattle.std.specs.Int.{IsInRange}
use Rattle.std.specs.Str.Parse.{AllDigits, digits_value}
use Rattle.dimacs.specs.Words.{stopped, between}
use Rattle.dimacs.proofs.words.long_number.Goals as goal

stopped_more : (digits : List ℕ) (value index tens next : ℕ) → index < length digits
    → AllDigits 10 digits → value ≡ stopped (digits_value 10 (take index digits))
    → tens ≡ min (value * 10) 18446744073709551615
    → next ≡ min (tens + (get_or digits index 0 - 48)) 18446744073709551615
    → next ≡ stopped (digits_value 10 (take (index + 1) digits))
stopped_more digits value index tens next inside all so_far is_tens is_next =
    let byte = get_or digits index 0 in
    let digit : IsInRange 48 57 byte = digit_at digits index all inside in
    let written : digit_value byte + 48 ≡ byte = digit_value_digit byte digit in
    let more = digits_value_more 10 digits index inside in
    omega arith

pub overflow_sub-byte : goal.overflow_sub-byte
overflow_sub-byte c =
    let digits : List ℕ = between c.args.at c.args.end c.args.text.now in
    let digit = digit_at digits c.loop-byte.byte-index c.requires.digits c.loop-byte-test.true in
    digit.0

pub loop-byte-preserved : goal.loop-byte-preserved
loop-byte-preserved c =
    stopped_more (between c.args.at c.args.end c.args.text.now) c.loop-byte.value
    c.loop-byte.byte-index c.saturating_mul.result c.saturating_add-value.result
    c.loop-byte-test.true c.requires.digits c.loop-byte.invariant c.saturating_mul.ensures
    (rw (← c.from-digit.ensures) c.saturating_add-value.ensures)
