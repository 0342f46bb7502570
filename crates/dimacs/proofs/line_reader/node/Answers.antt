-- The number was taken, so this is the line.
use Rattle.dimacs.proofs.Reading.{node_read}
use Rattle.dimacs.proofs.line_reader.node.Goals as goal

pub returns : goal.returns
returns c at places =
    rw c.place.ensures (node_read c.args.words c.number.new.self c.in_ok-node.node
    c.in_ok-node.ensures at places)
