-- The line that begins what is left is a line of the text at this offset.
use Rattle.std.proofs.lemmas.List.{take_rest}
use Rattle.dimacs.proofs.Places.{read_there}
use Rattle.dimacs.proofs.line_reader.LineReader.next.Goals as goal

pub returns-clause-reads : goal.returns-clause-reads
returns-clause-reads c =
    let reader = c.args.self.now in
    read_there reader.text.now _ reader.at c.in-Some.read.line c.in-Some.read.end
    (take_rest reader.text.now reader.at) c.in-Some.ensures
