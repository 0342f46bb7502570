-- A sum of two steps is the two sums, one behind the other; where all columns are near, so are
-- those of each step.
use Rattle.std.proofs.Common.{sym}
use Rattle.cost.specs.declared.TheConstants.{HALF_RAIL}
use Rattle.cost.proofs.Append.{columnwise-append, same_length, within_parts}
use Rattle.cost.proofs.two_step_kind.TwoStepCost.add_near.Goals as goal

pub add_near-requires : goal.add_near-requires
add_near-requires g c = record {
  first = (within_parts HALF_RAIL _ _ c.requires.first).0;
  second = (within_parts HALF_RAIL _ _ c.requires.second).0;
}

pub add_near-requires-2 : goal.add_near-requires-2
add_near-requires-2 g c = record {
  first = (within_parts HALF_RAIL (g.A.Cost.meaning c.args.self.0) _ c.requires.first).1;
  second = (within_parts HALF_RAIL (g.A.Cost.meaning c.args.other.0) _ c.requires.second).1;
}

pub returns : goal.returns
returns g c = rw (c.add_near.ensures, c.add_near-2.ensures)
    (sym (columnwise-append _ _ _ _ _
    (same_length g.met.A.Cost.laws c.args.self.0 c.args.other.0)))
