-- The first step decides, and where its values are the same the second one.
-- Where all columns of the second value are near, so are those of each of its steps.
use Rattle.std.proofs.Common.{◌||◌, ◌&&◌, sym, ap, ap₂, ◌∙◌}
use Rattle.std.specs.Ordering.{is_lt}
use Rattle.cost.specs.declared.TheConstants.{HALF_RAIL}
use Rattle.cost.proofs.Append.{lex-append, then_less, same_length, within_parts}
use Rattle.cost.proofs.two_step_kind.TwoStepCost.is_less_near.Goals as goal

pub is_less_near-requires : goal.is_less_near-requires
is_less_near-requires g c =
    (within_parts HALF_RAIL (g.A.Cost.meaning c.args.than.0) _ c.requires).0

pub is_equal_near-requires : goal.is_equal_near-requires
is_equal_near-requires g c =
    (within_parts HALF_RAIL (g.A.Cost.meaning c.args.than.0) _ c.requires).0

pub is_less_near-requires-2 : goal.is_less_near-requires-2
is_less_near-requires-2 g c =
    (within_parts HALF_RAIL (g.A.Cost.meaning c.args.than.0) _ c.requires).1

pub returns : goal.returns
returns g c =
    let same = same_length g.met.A.Cost.laws c.args.self.0 c.args.than.0 in
    ap₂ ◌||◌ c.is_less_near.ensures (ap₂ ◌&&◌ c.is_equal_near.ensures c.is_less_near-2.ensures)
    ∙ sym (ap is_lt (lex-append _ _ (g.B.Cost.meaning c.args.self.1)
    (g.B.Cost.meaning c.args.than.1) same) ∙ then_less _ _)
