-- The text has the word, and the numbers up to here.
use Rattle.std.proofs.Common.{◌≡◌, ◌++◌, string_bytes, take, codes, decimal}
use Rattle.std.specs.List.{flat_map}
use Rattle.refusal_words.proofs.number_lines.push_numbers_line.Given as goal

abbrev pub invariant-loop-number : goal.invariant-loop-number
invariant-loop-number l = string_bytes l.text ≡ string_bytes l.initial.text
    ++ flat_map (λ n. codes " " ++ decimal n) (take l.number-index l.numbers)
