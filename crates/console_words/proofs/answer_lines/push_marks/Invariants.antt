-- The text has the rows up to here.
use Rattle.std.proofs.Common.{◌≡◌, ◌++◌, string_bytes}
use Rattle.refusal_words.specs.Lines.{up_to}
use Rattle.console_words.specs.Answering.{mark_row}
use Rattle.console_words.proofs.answer_lines.push_marks.Given as goal

abbrev pub invariant-loop-left : goal.invariant-loop-left
invariant-loop-left l = string_bytes l.text ≡ string_bytes l.initial.text
    ++ up_to l.left (mark_row l.n l.marks)
