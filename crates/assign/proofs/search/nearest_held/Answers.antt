-- One right block more is looked at: it becomes the best where it is less far beyond its price. It
-- is as far as the left block that has it.
use Rattle.std.proofs.Common.{ℕ, ℤ, refl, arith}
use Rattle.std.proofs.lemmas.Int.{ints}
use Rattle.cost.specs.declared.TheConstants.{HALF_RAIL}
use Rattle.cost.proofs.Exact.{within_more}
use Rattle.cost.specs.Weights.{weight}
use Rattle.blockset.specs.Has.{has}
use Rattle.assign.specs.declared.limits.TheConstants.{DISTANCE_LIMIT, KEY_LIMIT, INNER_PRICE_LIMIT}
use Rattle.assign.specs.Weighed.{weight_at}
use Rattle.assign.specs.Offers.{distances}
use Rattle.assign.proofs.Nearing.{nearing_none, nearing_keep, nearing_take}
use Rattle.assign.proofs.search.nearest_held.Goals as goal

pub key_held-least-requires : goal.key_held-least-requires
key_held-least-requires g c =
    let member = c.in_ok-block.ensures.1 in
    let inside = c.requires.inside c.in_ok-block.block member in
    record {
      inside = inside;
      had = c.requires.had c.in_ok-block.block member;
      owners = c.requires.owners;
      far = c.requires.far c.in_ok-block.block member;
      priced = c.requires.priced c.in_ok-block.block inside;
    }

pub key_held-key-requires : goal.key_held-key-requires
key_held-key-requires g c =
    let member = c.loop-c.invariant.2.part c.in-Some.c c.in-Some.ensures.steps.member in
    let inside = c.requires.inside c.in-Some.c member in
    record {
      inside = inside;
      had = c.requires.had c.in-Some.c member;
      owners = c.requires.owners;
      far = c.requires.far c.in-Some.c member;
      priced = c.requires.priced c.in-Some.c inside;
    }

pub loop-c-init : goal.loop-c-init
loop-c-init g c =
    let kind = g.K.Cost in
    let i = c.in_ok-block.block in
    let member = c.in_ok-block.ensures.1 in
    let reach = c.key_held-least.ensures.reach in (
      tt,
      tt,
      rw c.into_iter-c-iterator.ensures.into_iter_gives
          (nearing_none (has c.args.set) (weight_at kind c.args.right.now)
          (λ j. weight (distances kind c.args.holders.now c.args.dist.now j)) i
          (weight (kind.meaning c.key_held-least.result)) member c.key_held-least.ensures.key),
      reach DISTANCE_LIMIT INNER_PRICE_LIMIT (c.requires.far i member)
          (c.requires.priced i (c.requires.inside i member)) (omega arith),
      reach,
    )

pub is_less-requires : goal.is_less-requires
is_less-requires g c =
    let kind = g.K.Cost in
    let i = c.in-Some.c in
    let member = c.loop-c.invariant.2.part i c.in-Some.ensures.steps.member in
    record {
      first = within_more KEY_LIMIT HALF_RAIL (kind.meaning c.key_held-key.result) (omega arith)
          (c.key_held-key.ensures.reach DISTANCE_LIMIT INNER_PRICE_LIMIT (c.requires.far i member)
          (c.requires.priced i (c.requires.inside i member)) (omega arith));
      second = within_more KEY_LIMIT HALF_RAIL (kind.meaning c.loop-c.least) (omega arith)
          c.loop-c.invariant.3;
    }

pub loop-c-preserved-then-is_less : goal.loop-c-preserved-then-is_less
loop-c-preserved-then-is_less g c =
    let kind = g.K.Cost in
    let i = c.in-Some.c in
    let member = c.loop-c.invariant.2.part i c.in-Some.ensures.steps.member in
    let d : ℕ → ℤ = λ j. weight (distances kind c.args.holders.now c.args.dist.now j) in
    let key = c.key_held-key.ensures in (
      tt,
      tt,
      nearing_take (has c.args.set) (weight_at kind c.args.right.now) d d
          (has c.loop-c.c-iterator) (has c.next.new.self) i c.in-Some.ensures.steps.others
          c.in-Some.ensures.steps.member c.loop-c.block (weight (kind.meaning c.loop-c.least))
          c.loop-c.invariant.2 (λ j ne. refl) (weight (kind.meaning c.key_held-key.result)) key.key
          (c.is_less.ensures.less c.if-is_less.true),
      key.reach DISTANCE_LIMIT INNER_PRICE_LIMIT (c.requires.far i member)
          (c.requires.priced i (c.requires.inside i member)) (omega arith),
      key.reach,
    )

pub loop-c-preserved : goal.loop-c-preserved
loop-c-preserved g c =
    let kind = g.K.Cost in
    let i = c.in-Some.c in
    let d : ℕ → ℤ = λ j. weight (distances kind c.args.holders.now c.args.dist.now j) in
    let is = c.key_held-key.ensures.key in
    let kept = c.is_less.ensures.not_less c.if-is_less.false in (
      tt,
      tt,
      nearing_keep (has c.args.set) (weight_at kind c.args.right.now) d d
          (has c.loop-c.c-iterator) (has c.next.new.self) i c.in-Some.ensures.steps.others
          c.in-Some.ensures.steps.member c.loop-c.block (weight (kind.meaning c.loop-c.least))
          c.loop-c.invariant.2 (λ j ne. refl) refl (omega (arith, ints)),
      c.loop-c.invariant.3,
      c.loop-c.invariant.4,
    )
