-- The text has the marks up to here.
use Rattle.std.proofs.Common.{◌≡◌, ◌++◌, string_bytes, slice_get}
use Rattle.pairing.specs.Places.{place_of}
use Rattle.refusal_words.specs.Lines.{up_to}
use Rattle.console_words.specs.Answering.{mark_word}
use Rattle.console_words.proofs.answer_lines.push_mark_row.Given as goal

abbrev pub invariant-loop-right : goal.invariant-loop-right
invariant-loop-right l = string_bytes l.text ≡ string_bytes l.initial.text
    ++ up_to l.right (λ r. mark_word (slice_get l.marks (place_of l.n l.left r)))
