-- One right block more is offered its way, and becomes the best where it is less far beyond its
-- price then.
use Rattle.std.proofs.Common.{◌≡◌, ℕ, ◌+◌, ◌<◌, List, length, ℤ, ◌-ℤ◌}
use Rattle.std.proofs.Common.{◌<ℤ◌, ◌≤ℤ◌, ◌⊎◌, sym, ap, subst, ⊎_elim, arith}
use Rattle.std.proofs.lemmas.Int.{ints}
use Rattle.std.proofs.lemmas.Bool.{cases_eq}
use Rattle.cost.specs.declared.TheConstants.{COST_LIMIT, HALF_RAIL}
use Rattle.cost.specs.Columns.{AreWithin}
use Rattle.cost.proofs.Exact.{within_more}
use Rattle.cost.specs.Weights.{weight}
use Rattle.blockset.specs.Has.{has}
use Rattle.pairing.specs.Grid.{at}
use Rattle.tables.specs.Said.{columns_at}
use Rattle.assign.specs.declared.limits.TheConstants.{DISTANCE_LIMIT, KEY_LIMIT, INNER_PRICE_LIMIT}
use Rattle.assign.specs.declared.limits.TheConstants.{SHIFT_LIMIT}
use Rattle.assign.specs.Weighed.{weight_at}
use Rattle.assign.specs.Offers.{distances, HaveOwners}
use Rattle.assign.proofs.Entries.{read_within}
use Rattle.assign.proofs.Nearing.{nearing_none, nearing_keep, nearing_take}
use Rattle.assign.proofs.Looking.{looking_none, looking_one, key_weighs, key_reaches}
use Rattle.assign.proofs.search.offer_and_find.Goals as goal

pub key_held-lowest-requires : goal.key_held-lowest-requires
key_held-lowest-requires g c =
    let i = c.in_ok-block.block in
    let member = c.in_ok-block.ensures.1 in
    let inside = c.requires.inside c.in_ok-block.block member in
    record {
      inside = omega (arith, c.requires.rights);
      had = c.requires.had i member;
      owners = c.requires.owners;
      far = c.requires.far i member;
      priced = c.requires.priced i inside;
    }

pub loop-c-init : goal.loop-c-init
loop-c-init g c =
    let kind = g.K.Cost in
    let offer = c.args.offer.now in
    let d = distances kind c.args.holders.now c.args.dist.now in
    let i = c.in_ok-block.block in
    let member = c.in_ok-block.ensures.1 in
    let reach = c.key_held-lowest.ensures.reach in (
      tt,
      tt,
      rw c.into_iter-c-iterator.ensures.into_iter_gives
          (looking_none (kind.meaning offer.shift) (columns_at kind offer.costs.now) offer.from
          (has offer.to) d (at c.args.via.now)),
      rw c.into_iter-c-iterator.ensures.into_iter_gives
          (nearing_none (has offer.to) (weight_at kind c.args.right.now) (λ j. weight (d j)) i
          (weight (kind.meaning c.key_held-lowest.result)) member c.key_held-lowest.ensures.key),
      reach DISTANCE_LIMIT INNER_PRICE_LIMIT (c.requires.far i member)
          (c.requires.priced i (c.requires.inside i member)) (omega arith),
      reach,
    )

pub offer_one-far-requires : goal.offer_one-far-requires
offer_one-far-requires g c =
    let i = c.in-Some.c in
    let member = c.loop-c.invariant.3.part i c.in-Some.ensures.steps.member in
    let waits = (c.loop-c.invariant.2.waits i c.in-Some.ensures.steps.member).0 in
    let d = distances g.K.Cost c.args.holders.now c.loop-c.dist in
    record {
      modest = c.requires.modest;
      one_of = member;
      inside = c.requires.inside i member;
      had = c.requires.had i member;
      owners = subst (λ (z : ℕ). HaveOwners z c.args.holders.now) (sym c.loop-c.auto.dist)
          c.requires.owners;
      known = within_more DISTANCE_LIMIT HALF_RAIL (d i) (omega arith)
          (subst (AreWithin DISTANCE_LIMIT) (sym waits) (c.requires.far i member));
    }

pub exact_difference-key-requires : goal.exact_difference-key-requires
exact_difference-key-requires g c =
    let kind = g.K.Cost in
    let i = c.in-Some.c in
    let member = c.loop-c.invariant.3.part i c.in-Some.ensures.steps.member in
    let waits = (c.loop-c.invariant.2.waits i c.in-Some.ensures.steps.member).0 in
    let inside = c.requires.inside c.in-Some.c member in
    let d = distances kind c.args.holders.now c.loop-c.dist in
    let far = c.offer_one-far.ensures.bound SHIFT_LIMIT c.requires.modest.shift (omega arith)
    (within_more DISTANCE_LIMIT (SHIFT_LIMIT + COST_LIMIT) (d i)
    (omega arith) (subst (AreWithin DISTANCE_LIMIT) (sym waits) (c.requires.far i member))) in
    record {
      first = within_more (SHIFT_LIMIT + COST_LIMIT) HALF_RAIL (kind.meaning c.offer_one-far.result)
          (omega arith)
          (subst (AreWithin (SHIFT_LIMIT + COST_LIMIT)) (sym c.offer_one-far.ensures.answer) far);
      second = read_within kind INNER_PRICE_LIMIT HALF_RAIL c.args.right.now i
          c.index-right-c.result (omega (arith, c.requires.rights)) c.index-right-c.is
          (omega arith) (c.requires.priced i inside);
    }

pub is_less-requires : goal.is_less-requires
is_less-requires g c =
    let kind = g.K.Cost in
    let i = c.in-Some.c in
    let member = c.loop-c.invariant.3.part i c.in-Some.ensures.steps.member in
    let waits = (c.loop-c.invariant.2.waits i c.in-Some.ensures.steps.member).0 in
    let inside = c.requires.inside c.in-Some.c member in
    let one = c.offer_one-far.ensures in
    let d = distances kind c.args.holders.now c.loop-c.dist in
    let far = one.bound SHIFT_LIMIT c.requires.modest.shift (omega arith)
    (within_more DISTANCE_LIMIT (SHIFT_LIMIT + COST_LIMIT) (d i)
    (omega arith) (subst (AreWithin DISTANCE_LIMIT) (sym waits) (c.requires.far i member))) in
    let reach = key_reaches kind (distances kind c.args.holders.now c.offer_one-far.new.dist)
    c.args.right.now i c.offer_one-far.result
    c.index-right-c.result c.exact_difference-key.result (omega (arith, c.requires.rights))
    one.answer c.index-right-c.is c.exact_difference-key.ensures.bound in
    record {
      first = within_more (SHIFT_LIMIT + COST_LIMIT + INNER_PRICE_LIMIT) HALF_RAIL
          (kind.meaning c.exact_difference-key.result) (omega arith)
          (reach (SHIFT_LIMIT + COST_LIMIT) INNER_PRICE_LIMIT far (c.requires.priced i inside)
          (omega arith));
      second = within_more KEY_LIMIT HALF_RAIL (kind.meaning c.loop-c.lowest) (omega arith)
          c.loop-c.invariant.4;
    }

pub loop-c-preserved-then-is_less : goal.loop-c-preserved-then-is_less
loop-c-preserved-then-is_less g c =
    let kind = g.K.Cost in
    let offer = c.args.offer.now in
    let i = c.in-Some.c in
    let step = c.in-Some.ensures.steps in
    let member = c.loop-c.invariant.3.part i step.member in
    let waits = (c.loop-c.invariant.2.waits i step.member).0 in
    let inside = c.requires.inside c.in-Some.c member in
    let in-right : c.in-Some.c < length c.args.right.now = omega (arith, c.requires.rights) in
    let one = c.offer_one-far.ensures in
    let d = distances kind c.args.holders.now c.loop-c.dist in
    let d' = distances kind c.args.holders.now c.offer_one-far.new.dist in
    let far = one.bound SHIFT_LIMIT c.requires.modest.shift (omega arith)
    (within_more DISTANCE_LIMIT (SHIFT_LIMIT + COST_LIMIT) (d i)
    (omega arith) (subst (AreWithin DISTANCE_LIMIT) (sym waits) (c.requires.far i member))) in
    let reach = key_reaches kind d' c.args.right.now i c.offer_one-far.result
    c.index-right-c.result c.exact_difference-key.result in-right
    one.answer c.index-right-c.is c.exact_difference-key.ensures.bound in
    let is = key_weighs kind d' c.args.right.now i c.offer_one-far.result
    c.index-right-c.result c.exact_difference-key.result in-right
    one.answer c.index-right-c.is c.exact_difference-key.ensures.sum in (
      tt,
      tt,
      looking_one (kind.meaning offer.shift) (columns_at kind offer.costs.now) offer.from
          (has offer.to) (distances kind c.args.holders.now c.args.dist.now)
          (at c.args.via.now) (has c.loop-c.c-iterator) (has c.next.new.self) i step.others
          step.member member d (at c.loop-c.via) c.loop-c.invariant.2 d'
          (at c.offer_one-far.new.via) one.others one.offered one.bound,
      nearing_take (has offer.to) (weight_at kind c.args.right.now) (λ j. weight (d j))
          (λ j. weight (d' j)) (has c.loop-c.c-iterator) (has c.next.new.self) i step.others
          step.member c.loop-c.block (weight (kind.meaning c.loop-c.lowest))
          c.loop-c.invariant.3 (λ j ne. ap weight (one.others j ne).0)
          (weight (kind.meaning c.exact_difference-key.result)) is
          (c.is_less.ensures.less c.if-is_less.true),
      within_more (SHIFT_LIMIT + COST_LIMIT + INNER_PRICE_LIMIT) KEY_LIMIT
          (kind.meaning c.exact_difference-key.result) (omega arith)
          (reach (SHIFT_LIMIT + COST_LIMIT) INNER_PRICE_LIMIT far (c.requires.priced i inside)
          (omega arith)),
      reach,
    )

-- where no lesser key was found, the best so far is at the distance it had
still_there : (d d' : ℕ → List ℤ) (v : ℕ → ℤ) (block i : ℕ) (k k' : ℤ)
    → ((j : ℕ) → (j ≡ i → ⊥) → d' j ≡ d j) → (d' i ≡ d i) ⊎ (weight (d' i) <ℤ weight (d i))
    → k ≡ weight (d block) -ℤ v block → k' ≡ weight (d' i) -ℤ v i → k ≤ℤ k'
    → d' block ≡ d block
still_there d d' v block i k k' others nearer is is' le = ⊎_elim
    (λ (e : block ≡ i). ⊎_elim
    (λ (same : d' i ≡ d i). subst (λ (z : ℕ). d' z ≡ d z) (sym e) same)
    (λ (less : weight (d' i) <ℤ weight (d i)).
    let x : weight (d block) ≡ weight (d i) = ap (λ z. weight (d z)) e in
    let y : v block ≡ v i = ap v e in
    absurd (omega (arith, ints)))
    nearer)
    (λ (ne : block ≡ i → ⊥). others block ne)
    (cases_eq block i)

pub loop-c-preserved : goal.loop-c-preserved
loop-c-preserved g c =
    let kind = g.K.Cost in
    let offer = c.args.offer.now in
    let v = weight_at kind c.args.right.now in
    let i = c.in-Some.c in
    let step = c.in-Some.ensures.steps in
    let member = c.loop-c.invariant.3.part i step.member in
    let inside = c.requires.inside c.in-Some.c member in
    let one = c.offer_one-far.ensures in
    let d = distances kind c.args.holders.now c.loop-c.dist in
    let d' = distances kind c.args.holders.now c.offer_one-far.new.dist in
    let is = key_weighs kind d' c.args.right.now i c.offer_one-far.result
    c.index-right-c.result c.exact_difference-key.result (omega (arith, c.requires.rights))
    one.answer c.index-right-c.is c.exact_difference-key.ensures.sum in
    let kept = c.is_less.ensures.not_less c.if-is_less.false in
    let same = still_there d d' v c.loop-c.block i (weight (kind.meaning c.loop-c.lowest))
    (weight (kind.meaning c.exact_difference-key.result)) (λ j ne. (one.others j ne).0) one.nearer
    c.loop-c.invariant.3.is is kept in (
      tt,
      tt,
      looking_one (kind.meaning offer.shift) (columns_at kind offer.costs.now) offer.from
          (has offer.to) (distances kind c.args.holders.now c.args.dist.now)
          (at c.args.via.now) (has c.loop-c.c-iterator) (has c.next.new.self) i step.others
          step.member member d (at c.loop-c.via) c.loop-c.invariant.2 d'
          (at c.offer_one-far.new.via) one.others one.offered one.bound,
      nearing_keep (has offer.to) v (λ j. weight (d j)) (λ j. weight (d' j))
          (has c.loop-c.c-iterator) (has c.next.new.self) i step.others step.member
          c.loop-c.block (weight (kind.meaning c.loop-c.lowest)) c.loop-c.invariant.3
          (λ j ne. ap weight (one.others j ne).0) (ap weight same) (omega (arith, ints)),
      c.loop-c.invariant.4,
      λ x y far priced le. c.loop-c.invariant.5 x y (subst (AreWithin x) same far) priced le,
    )

pub returns : goal.returns
returns g c =
    let looking = c.loop-c.invariant.2 in
    let nearing = c.loop-c.invariant.3 in
    record {
      offered = λ j. looking.done j (c.in-None.ensures.steps j);
      others = looking.outside;
      bound = λ b j s le old. looking.near j b s le old;
      found = record {
        inside = omega (arith, c.requires.rights, c.requires.inside c.loop-c.block nearing.member);
        nearest = record {
          member = nearing.member;
          least = λ j s. nearing.least j s (c.in-None.ensures.steps j);
        };
        key = nearing.is;
        bound = c.loop-c.invariant.4;
        reach = c.loop-c.invariant.5;
      };
    }
