-- One pair more has its prices; its place is inside the cost table, and its values are so small
-- that their difference is exact.
use Rattle.std.proofs.Common.{◌<◌, length, set, sym, ◌∙◌, subst, arith}
use Rattle.cost.specs.declared.TheConstants.{HALF_RAIL, COST_LIMIT}
use Rattle.cost.specs.Columns.{AreWithin}
use Rattle.pairing.specs.Grid.{at}
use Rattle.pairing.specs.Places.{place_of}
use Rattle.tables.specs.Said.{columns_at}
use Rattle.tables.proofs.Filling.{value_at}
use Rattle.assign.specs.declared.limits.TheConstants.{DISTANCE_LIMIT, LEFT_PRICE_LIMIT}
use Rattle.assign.specs.Weighed.{cost_weight}
use Rattle.assign.proofs.Entries.{put_same, put_other, read_within}
use Rattle.assign.proofs.Differences.{put_weighs, put_within}
use Rattle.assign.proofs.PairPrices.{place_inside, priced_more}
use Rattle.assign.proofs.prices.price_pairs.Goals as goal

pub exact_difference-requires-clause-second : goal.exact_difference-requires-clause-second
exact_difference-requires-clause-second g c =
    let l = c.loop-l.l in
    read_within g.K.Cost DISTANCE_LIMIT HALF_RAIL c.loop-l.left l c.index-left-l.result
    (omega arith) c.index-left-l.is (omega arith)
    (subst (AreWithin DISTANCE_LIMIT) (sym (c.loop-l.invariant.waits l (omega arith)))
    (c.requires.far l c.loop-l-test.true))

pub loop-l-preserved : goal.loop-l-preserved
loop-l-preserved g c =
    let kind = g.K.Cost in
    let rows = c.args.rows.now in
    let n = length c.args.rows.now in
    let costs = c.args.costs.now in
    let d = columns_at kind c.args.left.now in
    let left = c.loop-l.left in
    let right = c.loop-l.right in
    let l = c.loop-l.l in
    let r = at c.args.partners.now l in
    let price = c.index-left-l.result in
    let x = c.exact_difference.result in
    let lies = c.loop-l-test.true in
    let stands = c.requires.perfect.standing l lies in
    let below = c.requires.lent.inside l r lies stands in
    let in_left : c.loop-l.l < length c.loop-l.left = omega arith in
    let in_right : r < length c.loop-l.right = omega (arith, below) in
    let in-costs = place_inside kind rows costs c.requires.lent l r lies stands in
    let far = value_at kind left l price in_left c.index-left-l.is
    ∙ c.loop-l.invariant.waits l (omega arith) in
    priced_more n (cost_weight kind n costs) (at c.args.partners.now) d c.requires.perfect.once l
    (columns_at kind left) (columns_at kind right) (columns_at kind (set left l x))
    (columns_at kind (set right r price)) lies c.loop-l.invariant
    (put_same kind right r price in_right ∙ far) (λ j ne. put_other kind right r j price ne)
    (put_weighs kind left l x in_left (kind.meaning c.index-costs-l.result)
    (columns_at kind costs (place_of n l r)) (kind.meaning price) (d l)
    c.exact_difference.ensures.sum
    (value_at kind costs (place_of n l r) c.index-costs-l.result in-costs c.index-costs-l.is) far)
    (put_within kind left l x in_left LEFT_PRICE_LIMIT
    (c.exact_difference.ensures.bound COST_LIMIT DISTANCE_LIMIT
    (read_within kind COST_LIMIT COST_LIMIT costs (place_of n l r) c.index-costs-l.result
    in-costs c.index-costs-l.is (omega arith) (c.requires.lent.modest l r lies stands))
    (subst (AreWithin DISTANCE_LIMIT) (sym far) (c.requires.far l lies)) (omega arith)))
    (λ j ne. put_other kind left l j x ne)
