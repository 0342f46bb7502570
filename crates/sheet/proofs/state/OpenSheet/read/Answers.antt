-- A pair that was found stands, and its cost lies at its own place; one that was not found does not
-- stand.
use Rattle.std.proofs.Common.{get_or, Some, sym, ap, ◌∙◌}
use Rattle.std.proofs.lemmas.Result.{err_from_is_err_and}
use Rattle.std.proofs.lemmas.List.{get_or_default}
use Rattle.std.proofs.lemmas.Bool.{cond-true, cond-false}
use Rattle.sheet.proofs.Pairs.{strike_absent}
use Rattle.sheet.proofs.state.OpenSheet.read.Goals as goal

pub returns-clause-cell : goal.returns-clause-cell
returns-clause-cell g c =
    let costs = c.args.costs.now in
    let found = c.in_ok-at.ensures.answers in
    cond-true _ _ _ found.0.1.1.1.0
    ∙ ap Some (ap (λ k. get_or costs k g.K.Cost.zero) (sym found.1)
    ∙ get_or_default costs _ _ _ c.in_ok-at.ensures.inside.0 ∙ sym c.index-costs-at.is)

pub returns-in_err-at-clause-no_cell : goal.returns-in_err-at-clause-no_cell
returns-in_err-at-clause-no_cell g c have hl hr =
    let absent = strike_absent g.K.Cost c.args.self.now.size c.args.costs.now c.args.standing.now
    c.args.left c.args.right c.in_err-at.field-0.0 have
    (record { left_below = hl; right_below = hr }) c.in_err-at.ensures.answers.0 in
    let p = err_from_is_err_and c.from_residual.result c.from_residual.ensures.1 in
    rw p.1 (cond-false _ _ _ absent)
