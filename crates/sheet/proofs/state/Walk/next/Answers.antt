-- The step over the tables is accepted exactly where they hold together with the list.
use Rattle.std.proofs.Common.{refl, ap, ◌∙◌, subst}
use Rattle.tables.specs.Lent.{lent}
use Rattle.sheet.specs.Walking.{next_needs, IsStep}
use Rattle.sheet.specs.Needs.{AreMet}
use Rattle.sheet.specs.Size.{size_of}
use Rattle.sheet.proofs.state.Walk.next.Goals as goal

pub returns : goal.returns
returns g c =
    let same = c.lend-tables.ensures ∙ ap (λ s. lent (size_of s) c.args.costs.now
    c.args.standing.now c.args.partners.now c.args.left.now c.args.right.now) c.self.view_is in
    let made = c.in_ok-step_fitting.ensures in
    let known = made.accepted.0 refl in
    subst (λ u. AreMet (next_needs g.K.Cost u c.args.list.now)
    × IsStep g.K.Cost u c.args.list.now c.step_fitting.new.walk c.in_ok-step_fitting.field-0) same (
      ((c.fit.ensures.0 c.if-not-fit.false, known.1.perfect.len), (known, tt)),
      record { optimum = made.optimum; follows = made.steps },
    )
