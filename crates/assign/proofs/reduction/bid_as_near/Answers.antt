-- The nearest free right block is taken where it is as near as the nearest of all.
use Rattle.std.proofs.Common.{arith}
use Rattle.std.proofs.lemmas.Int.{ints}
use Rattle.cost.specs.Weights.{weight}
use Rattle.blockset.specs.Has.{has}
use Rattle.assign.proofs.Entries.{read_weighs}
use Rattle.assign.proofs.Bidding.{key_near, as_near, no_bid_far}
use Rattle.assign.proofs.reduction.bid_as_near.Goals as goal

pub is_less-requires : goal.is_less-requires
is_less-requires g c =
    record { first = key_near c.requires.near; second = key_near c.in_ok-free.ensures }

pub returns-clause-bid : goal.returns-clause-bid
returns-clause-bid g c =
    let near = c.requires.near in
    let free = c.in_ok-free.ensures in
    let kept = c.is_less.ensures.not_less c.if-is_less.false in
    let price = c.index-right-block in
    as_near (has c.args.held) near.nearest free.nearest c.difference.ensures c.requires.no_held
    (omega (arith, ints, near.key, free.key)) (weight (g.K.Cost.meaning price.result))
    (read_weighs g.K.Cost c.args.right.now c.in_ok-free.free.block price.result free.inside
    price.is)

pub returns-then-is_less-clause-bid : goal.returns-then-is_less-clause-bid
returns-then-is_less-clause-bid g c =
    let near = c.requires.near in
    let free = c.in_ok-free.ensures in
    let less = c.is_less.ensures.less c.if-is_less.true in
    no_bid_far (has c.args.held) near.nearest free.nearest c.difference.ensures c.requires.no_held
    (omega (arith, ints, near.key, free.key))
