-- A turn adds the cost of one pair more, and each place read is that of a pair.
use Rattle.std.proofs.Common.{◌≡◌, ℕ, ◌*◌, ◌<◌, get_or, sym, ap, ◌∙◌, subst, arith}
use Rattle.cost.specs.declared.TheConstants.{COST_LIMIT}
use Rattle.cost.specs.Columns.{AreWithin}
use Rattle.cost.proofs.Exact.{zeros_within}
use Rattle.pairing.specs.Grid.{total_of}
use Rattle.tables.specs.Lent.{lent, grid}
use Rattle.tables.specs.Together.{HoldTogether}
use Rattle.sheet.specs.Needs.{AreMet}
use Rattle.sheet.specs.Walking.{total_needs}
use Rattle.sheet.proofs.Totals.{sum_of_more, partner_below}
use Rattle.sheet.proofs.state.SettledSheet.total.Goals as goal

pub loop-l-init : goal.loop-l-init
loop-l-init g c =
    let none = ap g.K.Cost.meaning c.zero-sum.ensures ∙ g.met.K.Cost.laws.zero_columns in
    record { is = none; small = subst (AreWithin (0 * COST_LIMIT)) (sym none) (zeros_within 0 _) }

pub bounds-partners-l : goal.bounds-partners-l
bounds-partners-l g c = c.loop-l-test.true

pub overflow_cast-l : goal.overflow_cast-l
overflow_cast-l g c =
    let together = subst (HoldTogether g.K.Cost) c.lend.ensures c.in_ok-check.ensures.0.1.0 in
    omega (arith, c.loop-l-test.true, together.perfect.len, together.pair_tables.few)

pub bounds-costs-place : goal.bounds-costs-place
bounds-costs-place g c =
    let together = subst (HoldTogether g.K.Cost) (c.lend.ensures
    ∙ ap (λ n. lent n c.args.costs.now c.args.standing.now c.args.partners.now c.args.left.now
    c.args.right.now) (sym c.size-n.ensures.value)) c.in_ok-check.ensures.0.1.0 in
    let inside : c.loop-l.l < c.size-n.result =
    omega (arith, c.loop-l-test.true, together.perfect.len) in
    omega (
      arith,
      c.place.ensures,
      together.pair_tables.costs_long,
      partner_below g.K.Cost _ together c.loop-l.l inside,
    )

pub loop-l-smaller : goal.loop-l-smaller
loop-l-smaller g c = omega (arith, c.loop-l-test.true)

pub loop-l-preserved : goal.loop-l-preserved
loop-l-preserved g c =
    let t = lent c.size-n.result c.args.costs.now c.args.standing.now c.args.partners.now
    c.args.left.now c.args.right.now in
    let together = subst (HoldTogether g.K.Cost) (c.lend.ensures
    ∙ ap (λ n. lent n c.args.costs.now c.args.standing.now c.args.partners.now c.args.left.now
    c.args.right.now) (sym c.size-n.ensures.value)) c.in_ok-check.ensures.0.1.0 in
    let x = c.index-costs-place.result in
    sum_of_more g.K.Cost t together c.loop-l.l c.loop-l.sum x c.add-sum.result
    (omega (arith, c.loop-l-test.true, together.perfect.len))
    (c.index-costs-place.is ∙ ap (λ p. get_or c.args.costs.now p x) c.place.ensures)
    c.add-sum.ensures c.loop-l.invariant

pub returns : goal.returns
returns g c =
    let partners = c.args.partners.now in
    let t = λ (n : ℕ). grid g.K.Cost (lent n c.args.costs.now c.args.standing.now partners
    c.args.left.now c.args.right.now) in
    let met = subst (λ u. AreMet (total_needs g.K.Cost u)) c.lend.ensures c.in_ok-check.ensures.0 in
    let n = c.size-n.ensures.value in
    let all : c.loop-l.l ≡ c.size-n.result =
    omega (arith, c.loop-l-test.false, c.loop-l.auto.l-end, met.1.0.perfect.len, n) in (
      met,
      c.loop-l.invariant.is ∙ ap (total_of (t c.size-n.result) partners) all
          ∙ ap (λ k. total_of (t k) partners k) n,
    )
