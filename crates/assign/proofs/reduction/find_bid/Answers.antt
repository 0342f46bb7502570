-- Each case is one of proofs/Bidding.antt. A price that falls is a cost less a key, which is
-- another cost less another price: so it gets at most two costs farther than prices were.
use Rattle.std.proofs.Common.{◌+◌, ◌*◌, sym, refl, ◌∙◌, arith}
use Rattle.std.proofs.lemmas.Int.{ints}
use Rattle.cost.specs.declared.TheConstants.{COST_LIMIT, HALF_RAIL}
use Rattle.cost.proofs.Exact.{within_more}
use Rattle.cost.specs.Weights.{weight}
use Rattle.blockset.specs.Has.{has}
use Rattle.blockset.proofs.Removing.{still_in}
use Rattle.matching.specs.Exchange.{without}
use Rattle.assign.proofs.Entries.{read_within, read_weighs}
use Rattle.assign.proofs.Bidding.{key_near, bid_free, bid_falls, no_bid_tied}
use Rattle.assign.proofs.reduction.find_bid.Goals as goal

pub returns-then-not-contains : goal.returns-then-not-contains
returns-then-not-contains g c =
    let kind = g.K.Cost in
    let near = c.in-Some.ensures.near in
    let j = c.in-Some.field-0.near.block in
    let price = c.index-right-block in
    record {
      bid = bid_free (has c.args.held) near.nearest
          (sym c.contains.ensures ∙ c.if-not-contains.true) (weight (kind.meaning price.result))
          (read_weighs kind c.args.right.now j price.result near.inside price.is);
      bound = λ b far le. read_within kind b (b + 2 * COST_LIMIT) c.args.right.now j price.result
          near.inside price.is (omega arith) (far j (c.requires.inside j near.nearest.member));
    }

pub is_less-requires : goal.is_less-requires
is_less-requires g c = record {
  first = key_near c.in-Some.ensures.near;
  second = key_near c.in-Some.ensures.next;
}

pub exact_difference-price-requires : goal.exact_difference-price-requires
exact_difference-price-requires g c =
    let near = c.in-Some.ensures.near in
    let j = c.in-Some.field-0.near.block in
    let member = near.nearest.member in
    record {
      first = read_within g.K.Cost COST_LIMIT HALF_RAIL c.args.costs.now j
          c.index-costs-block.result (c.requires.inside j member) c.index-costs-block.is
          (omega arith) (c.requires.modest j member);
      second = key_near c.in-Some.ensures.next;
    }

pub returns-then-is_less : goal.returns-then-is_less
returns-then-is_less g c =
    let kind = g.K.Cost in
    let near = c.in-Some.ensures.near in
    let next = c.in-Some.ensures.next in
    let j = c.in-Some.field-0.near.block in
    let k = c.in-Some.field-0.next.block in
    let cost = c.index-costs-block in
    let price = c.exact_difference-price in
    let less = c.is_less.ensures.less c.if-is_less.true in
    let inside = c.requires.inside j near.nearest.member in
    let weighs = read_weighs kind c.args.costs.now j cost.result inside cost.is in
    let member = (still_in (has c.args.to) (without (has c.args.to) j) j (λ _. refl) k
    next.nearest.member).0 in
    record {
      bid = bid_falls (has c.args.held) near.nearest next.nearest
          (sym c.contains.ensures ∙ c.if-not-contains.false)
          (omega (arith, ints, near.key, next.key)) (weight (kind.meaning price.result))
          (omega (arith, ints, next.key, weighs, price.ensures.sum));
      bound = λ b far le. within_more (COST_LIMIT + (COST_LIMIT + b)) (b + 2 * COST_LIMIT)
          (kind.meaning price.result) (omega arith)
          (price.ensures.bound COST_LIMIT (COST_LIMIT + b)
          (read_within kind COST_LIMIT COST_LIMIT c.args.costs.now j cost.result inside cost.is
          (omega arith) (c.requires.modest j near.nearest.member))
          (next.reach COST_LIMIT b (c.requires.modest k member)
          (far k (c.requires.inside k member)) (omega arith)) (omega arith));
    }

pub bid_as_near-requires-clause-no_held : goal.bid_as_near-requires-clause-no_held
bid_as_near-requires-clause-no_held g c =
    let near = c.in-Some.ensures.near in
    let next = c.in-Some.ensures.next in
    let kept = c.is_less.ensures.not_less c.if-is_less.false in
    no_bid_tied (has c.args.held) near.nearest next.nearest
    (omega (arith, ints, near.key, next.key))
