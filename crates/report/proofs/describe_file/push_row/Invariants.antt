-- The text has the lines up to this right block.
use Rattle.std.proofs.Common.{◌≡◌, ◌++◌, string_bytes}
use Rattle.report.specs.Text.{row_lines}
use Rattle.report.proofs.describe_file.push_row.Given as goal

abbrev pub invariant-loop-right : goal.invariant-loop-right
invariant-loop-right l = string_bytes l.text ≡ string_bytes l.initial.text
    ++ row_lines l.sheet.size l.costs l.standing l.left l.right
