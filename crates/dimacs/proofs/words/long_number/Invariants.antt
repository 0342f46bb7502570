-- The value is the number of the digits before the byte that comes next, or stopped.
use Rattle.std.proofs.Common.{◌≡◌, take}
use Rattle.std.specs.Str.Parse.{digits_value}
use Rattle.dimacs.specs.Words.{stopped, between}
use Rattle.dimacs.proofs.words.long_number.Given as goal

abbrev pub invariant-loop-byte : goal.invariant-loop-byte
invariant-loop-byte l =
    l.value ≡ stopped (digits_value 10 (take l.byte-index (between l.at l.end l.text)))
