-- Both numbers were taken, so this is the line; or the first was, and the second is not there.
use Rattle.dimacs.proofs.Reading.{problem_no_arcs, problem_read}
use Rattle.dimacs.proofs.line_reader.problem.Goals as goal

pub returns-in_err-arcs : goal.returns-in_err-arcs
returns-in_err-arcs c at places =
    rw c.from_residual-in_err-arcs.ensures (problem_no_arcs c.args.words c.number.new.self
    c.number-2.new.self c.in_ok-nodes.nodes c.in_ok-nodes.ensures c.in_err-arcs.ensures)

pub returns : goal.returns
returns c at places =
    rw c.place.ensures (problem_read c.args.words c.number.new.self c.number-2.new.self
    c.in_ok-nodes.nodes c.in_ok-nodes.ensures c.in_ok-arcs.arcs c.in_ok-arcs.ensures at places)
