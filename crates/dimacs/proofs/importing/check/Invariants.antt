-- The lines that were read lead to where the reader stands, and the progress tells their stage;
-- each line leaves less of the text.
use Rattle.std.proofs.Common.{◌≡◌, length, drop}
use Rattle.dimacs.specs.Readers.{text_of, offset_of}
use Rattle.dimacs.proofs.Checking.{HasCome}
use Rattle.dimacs.proofs.importing.check.Given as goal

abbrev pub invariant-loop-line : goal.invariant-loop-line
invariant-loop-line l = record {
  text : text_of l.lines ≡ l.text;
  place : offset_of l.lines ≡ l.place;
  come : HasCome l.text l.place l.progress;
}

abbrev pub decreases-loop-line : goal.decreases-loop-line
decreases-loop-line l = length (drop (offset_of l.lines) (text_of l.lines))
