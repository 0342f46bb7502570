-- The start over the tables is accepted exactly where they hold together.
use Rattle.std.proofs.Common.{◌≡◌, length, refl, sym, ap, ◌∙◌, subst}
use Rattle.sheet.specs.Walking.{IsStarted}
use Rattle.sheet.proofs.state.SettledSheet.start.Goals as goal

pub returns-in-Ok : goal.returns-in-Ok
returns-in-Ok g c =
    let t = c.lend-tables.result in
    let same = c.lend-tables.ensures in
    let made = c.in-Ok.ensures in
    let long : length c.args.list.now ≡ t.size =
    c.if-list-n.false ∙ c.size-n.ensures.value ∙ sym (ap (λ u. u.size) same) in
    subst (λ u. IsStarted g.K.Cost u c.args.self c.args.self c.args.list.now
    c.start_fitting.new.walk) same (record {
      same = refl;
      met = ((c.fit.ensures.0 c.if-not-fit.false, long), (made.accepted.0 refl, tt));
      optimum = made.optimum;
      first = made.first;
    })
