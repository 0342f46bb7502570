-- The line has the numbers up to here.
use Rattle.std.proofs.Common.{◌≡◌, ◌++◌, string_bytes, codes, decimal}
use Rattle.refusal_words.specs.Lines.{up_to}
use Rattle.report.specs.Mapping.{right_in}
use Rattle.report.proofs.sheet_map.Drawing.push_heads.Given as goal

abbrev pub invariant-loop-right : goal.invariant-loop-right
invariant-loop-right l = string_bytes l.text ≡ string_bytes l.initial.text
    ++ up_to l.right (λ r. codes " " ++ right_in l.width (decimal r))
