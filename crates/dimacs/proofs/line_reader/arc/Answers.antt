-- Both numbers and the cost were taken, so this is the line; or one of them is not there.
use Rattle.dimacs.proofs.Reading.{arc_no_right, arc_no_cost, arc_read}
use Rattle.dimacs.proofs.line_reader.arc.Goals as goal

pub returns-in_err-right : goal.returns-in_err-right
returns-in_err-right c at places =
    rw c.from_residual-in_err-right.ensures (arc_no_right c.args.words c.number.new.self
    c.in_ok-left.left c.in_ok-left.ensures c.number-2.new.self c.in_err-right.ensures)

pub returns-in_err-cost : goal.returns-in_err-cost
returns-in_err-cost c at places =
    rw c.from_residual-in_err-cost.ensures (arc_no_cost c.args.words c.number.new.self
    c.in_ok-left.left c.in_ok-left.ensures c.number-2.new.self c.in_ok-right.right
    c.in_ok-right.ensures c.cost.new.self c.in_err-cost.ensures)

pub returns : goal.returns
returns c at places =
    rw c.place.ensures (arc_read c.args.words c.number.new.self c.in_ok-left.left
    c.in_ok-left.ensures c.number-2.new.self c.in_ok-right.right c.in_ok-right.ensures
    c.in_ok-cost.cost c.cost.new.self c.in_ok-cost.ensures at places)
