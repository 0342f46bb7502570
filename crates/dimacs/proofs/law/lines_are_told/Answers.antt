-- This is the lemma itself.
use Rattle.dimacs.proofs.LinesTold.{lines_told}
use Rattle.dimacs.proofs.law.lines_are_told.Goals as goal

pub returns : goal.returns
returns c = lines_told
