-- A step leaves what `reduce_row` promises, and there are at most 128 of them. If there is no first
-- one, no left block is left out.
use Rattle.std.proofs.Common.{◌+◌, ◌*◌, ◌∙◌, arith, sym, ap, subst, ⊎_elim, inr}
use Rattle.std.proofs.lemmas.Bool.{both_ways}
use Rattle.cost.specs.declared.TheConstants.{COST_LIMIT}
use Rattle.cost.proofs.Exact.{within_more}
use Rattle.tables.specs.Said.{columns_at}
use Rattle.assign.specs.declared.limits.TheConstants.{REDUCED_LIMIT}
use Rattle.blockset.specs.Has.{has}
use Rattle.assign.specs.Pairs.{so_far}
use Rattle.assign.specs.Bids.{HasHadFirstTurn}
use Rattle.assign.proofs.Going.{goes_further, turn_stays, first_turn, least_of_all, none_of_all}
use Rattle.assign.proofs.reduction.reduce_rows.Goals as goal

pub reduce_row-requires-clause-near : goal.reduce_row-requires-clause-near
reduce_row-requires-clause-near g c k h =
    within_more (COST_LIMIT + c.loop-step.step * (2 * COST_LIMIT)) REDUCED_LIMIT
    (columns_at g.K.Cost c.loop-step.right k)
    (omega (arith, c.requires.lent.few, c.loop-step-test.true)) (c.loop-step.invariant.bound k h)

pub loop-step-preserved : goal.loop-step-preserved
loop-step-preserved g c =
    let kind = g.K.Cost in
    let rows = c.args.rows.now in
    let costs = c.args.costs.now in
    let first = c.args.first in
    let o = c.loop-step in
    let new = c.reduce_row.new in
    let was = so_far (has first.out) c.args.partners.now first.holders c.args.right.now in
    let now = so_far (has o.out) o.partners o.holders o.right in
    let then = so_far (has new.out) new.partners new.holders new.right in
    let l = c.in-Some.l in
    let far = COST_LIMIT + o.step * (2 * COST_LIMIT) in
    let step = c.reduce_row.ensures in
    record {
      inside = step.inside;
      paired = step.paired;
      bound = λ j m. within_more (far + 2 * COST_LIMIT)
          (COST_LIMIT + (o.step + 1) * (2 * COST_LIMIT)) (columns_at kind new.right j)
          (omega arith) (step.bound far o.invariant.bound
          (omega (arith, c.requires.lent.few, c.loop-step-test.true)) j m);
      partnered = c.reduce_row.auto.partners ∙ o.invariant.partnered;
      rights = c.reduce_row.auto.right ∙ o.invariant.rights;
      goes_on = goes_further o.invariant.goes_on step.goes_on;
      begun = inr (⊎_elim
          (λ start. let least = least_of_all o.out o.aside c.difference.result
          c.difference.ensures start.3 l c.in-Some.ensures in
          subst (λ s. HasHadFirstTurn kind rows costs first.out s then) start.2
          (subst (λ s. HasHadFirstTurn kind rows costs s now then) start.1
          (first_turn kind rows costs o.out now then l least
          (step.paired.kept.holding.all l (omega arith)
          (omega (arith, o.invariant.inside l least.1, step.paired.kept.pairs.len))) _
          c.reduce_row.result step.reduced)))
          (λ done. turn_stays kind rows costs first.out was now then done step.goes_on)
          o.invariant.begun);
    }

-- no search for pairs stops before it has had a first step
pub returns-then-len-n-clause-begun : goal.returns-then-len-n-clause-begun
returns-then-len-n-clause-begun g c = ⊎_elim
    (λ start l least. absurd (omega (arith, start.0, c.if-step-n.true)))
    (λ done. done)
    c.loop-step.invariant.begun

pub returns-in_default-clause-begun : goal.returns-in_default-clause-begun
returns-in_default-clause-begun g c = ⊎_elim
    (λ start l least. absurd (both_ways (has c.args.first.out l)
    (ap (λ s. has s l) (sym start.1)
    ∙ none_of_all c.loop-step.out c.loop-step.aside c.difference.result c.difference.ensures
    start.3 c.in_default.ensures l) least.1))
    (λ done. done)
    c.loop-step.invariant.begun

pub returns-clause-begun : goal.returns-clause-begun
returns-clause-begun g c = ⊎_elim
    (λ start l least. absurd (omega (
      arith,
      start.0,
      c.loop-step-test.false,
      c.requires.inside l least.1,
    )))
    (λ done. done)
    c.loop-step.invariant.begun
