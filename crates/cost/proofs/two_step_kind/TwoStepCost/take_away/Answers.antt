-- A difference of two steps is the two differences, one behind the other.
use Rattle.std.proofs.Common.{sym}
use Rattle.cost.proofs.Append.{columnwise-append, same_length}
use Rattle.cost.proofs.two_step_kind.TwoStepCost.take_away.Goals as goal

pub returns : goal.returns
returns g c = rw (c.take_away.ensures, c.take_away-2.ensures)
    (sym (columnwise-append _ _ _ _ _
    (same_length g.met.A.Cost.laws c.args.self.0 c.args.other.0)))
