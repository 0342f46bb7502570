-- Two lists of columns are the same where both of their parts are.
-- Where all columns of the second value are near, so are those of each of its steps.
use Rattle.std.proofs.Common.{sym, ap, ◌∙◌}
use Rattle.std.specs.Cmp.{both_tied}
use Rattle.std.specs.Ordering.{is_eq}
use Rattle.cost.specs.declared.TheConstants.{HALF_RAIL}
use Rattle.cost.specs.Columns.{lex}
use Rattle.cost.proofs.Append.{lex-append, same_length, within_parts}
use Rattle.cost.proofs.two_step_kind.TwoStepCost.is_equal_near.Goals as goal

pub is_equal_near-requires : goal.is_equal_near-requires
is_equal_near-requires g c =
    (within_parts HALF_RAIL (g.A.Cost.meaning c.args.to.0) _ c.requires).0

pub is_equal_near-requires-2 : goal.is_equal_near-requires-2
is_equal_near-requires-2 g c =
    (within_parts HALF_RAIL (g.A.Cost.meaning c.args.to.0) _ c.requires).1

pub returns : goal.returns
returns g c =
    let first = lex (g.A.Cost.meaning c.args.self.0) (g.A.Cost.meaning c.args.to.0) in
    let second = lex (g.B.Cost.meaning c.args.self.1) (g.B.Cost.meaning c.args.to.1) in
    both_tied _ _ first second c.is_equal_near.ensures c.is_equal_near-2.ensures
    ∙ sym (ap is_eq (lex-append _ _ _ _ (same_length g.met.A.Cost.laws c.args.self.0 c.args.to.0)))
