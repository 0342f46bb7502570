-- The walk's marks are accepted exactly where the tables hold together.
use Rattle.std.proofs.Common.{◌≡◌, length, refl, sym, ap, ◌∙◌, subst}
use Rattle.pairing.specs.Places.{places_of}
use Rattle.sheet.specs.Walking.{marks_needs, AreMarks}
use Rattle.sheet.specs.Needs.{AreMet}
use Rattle.sheet.proofs.state.SettledSheet.marks.Goals as goal

pub returns : goal.returns
returns g c =
    let t = c.lend-tables.result in
    let same = c.lend-tables.ensures in
    let made = c.in_ok-mark_fitting.ensures in
    let long : length c.args.table.now ≡ places_of t.size =
    c.if-table-places.false ∙ c.places.ensures
    ∙ ap places_of (c.size-n.ensures.value ∙ sym (ap (λ u. u.size) same)) in
    subst (λ u. AreMet (marks_needs g.K.Cost u (length c.args.table.now))
    × AreMarks g.K.Cost u c.mark_fitting.new.table) same (
      ((c.fit.ensures.0 c.if-not-fit.false, long), (made.accepted.0 refl, tt)),
      record { long = c.mark_fitting.auto.table ∙ long; marks = made.marks },
    )
