-- The text has the lines up to this left block.
use Rattle.std.proofs.Common.{◌≡◌, ◌++◌, string_bytes}
use Rattle.report.specs.Text.{all_lines}
use Rattle.report.proofs.describe_file.push_rows.Given as goal

abbrev pub invariant-loop-left : goal.invariant-loop-left
invariant-loop-left l = string_bytes l.text ≡ string_bytes l.initial.text
    ++ all_lines l.sheet.size l.costs l.standing l.left
