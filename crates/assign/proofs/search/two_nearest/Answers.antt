-- Each turn is one step of proofs/Seconding.antt. A distance and a price are so small that no key
-- is far. Where one block alone is in the set, or none, there are no two.
use Rattle.std.proofs.Common.{◌≡◌, ℕ, ◌<◌, Bool, true, List, length}
use Rattle.std.proofs.Common.{◌≤ℤ◌, ◌⊎◌, ⊎_elim, sym, subst, ◌∙◌, arith}
use Rattle.std.proofs.lemmas.Int.{ints}
use Rattle.std.proofs.lemmas.Bool.{cases_eq, both_ways}
use Rattle.cost.specs.declared.Cost.{Ghosts}
use Rattle.cost.specs.declared.TheConstants.{HALF_RAIL}
use Rattle.cost.specs.Columns.{AreWithin}
use Rattle.cost.proofs.Exact.{within_more}
use Rattle.cost.specs.Weights.{weight}
use Rattle.blockset.specs.Has.{has}
use Rattle.blockset.proofs.Removing.{still_in, gone}
use Rattle.assign.specs.declared.limits.TheConstants.{DISTANCE_LIMIT, KEY_LIMIT, INNER_PRICE_LIMIT}
use Rattle.assign.specs.declared.tree.Nearby.{Nearby}
use Rattle.tables.specs.Said.{AreValuesWithin, columns_at}
use Rattle.assign.specs.Weighed.{weight_at, BoundedOn}
use Rattle.assign.specs.Offers.{KeyReach}
use Rattle.assign.proofs.Seconding.{Seconding, seconding_first, seconding_second, seconding_keep}
use Rattle.assign.proofs.Seconding.{seconding_next, seconding_best, seconded_best, seconded_next}
use Rattle.assign.proofs.search.two_nearest.Goals as goal

-- no key of the set is far
module _ {K : Type 0} (kind : Ghosts K) (set : ℕ → Bool) (dist right : List K)
    (inside : (c : ℕ) → set c ≡ true → c < length dist)
    (far : BoundedOn kind DISTANCE_LIMIT set dist)
    (priced : AreValuesWithin kind INNER_PRICE_LIMIT (length dist) right) where
  near_key : (i : ℕ) (key : K) → set i ≡ true → KeyReach kind right (columns_at kind dist) i key
      → AreWithin KEY_LIMIT (kind.meaning key)
  near_key i key s reach = reach DISTANCE_LIMIT INNER_PRICE_LIMIT (far i s) (priced i (inside i s))
      (omega arith)

  half_key : (i : ℕ) (key : K) → set i ≡ true → KeyReach kind right (columns_at kind dist) i key
      → AreWithin HALF_RAIL (kind.meaning key)
  half_key i key s reach = within_more KEY_LIMIT HALF_RAIL (kind.meaning key) (omega arith)
      (near_key i key s reach)

-- what holds of two right blocks in either order holds of them as they come
in_order : {K : Type 0} (P : Nearby K → Nearby K → Type 0) (a b near next : Nearby K)
    → ((near ≡ a) × (next ≡ b)) ⊎ ((near ≡ b) × (next ≡ a)) → P a b → P b a → P near next
in_order P a b near next both p q = ⊎_elim
    (λ (e : (near ≡ a) × (next ≡ b)). subst (λ z. P z next) (sym e.0)
    (subst (λ z. P a z) (sym e.1) p))
    (λ (e : (near ≡ b) × (next ≡ a)). subst (λ z. P z next) (sym e.0)
    (subst (λ z. P b z) (sym e.1) q)) both

pub key_of-requires : goal.key_of-requires
key_of-requires g c =
    let inside = c.requires.inside c.in_ok-first.first c.in_ok-first.ensures.1 in
    record {
      sized = c.requires.sized;
      inside = inside;
      far = c.requires.far c.in_ok-first.first c.in_ok-first.ensures.1;
      priced = c.requires.priced c.in_ok-first.first inside;
    }

pub key_of-requires-2 : goal.key_of-requires-2
key_of-requires-2 g c =
    let member = (still_in (has c.args.set) (has c.remove.new.self) c.in_ok-first.first
    c.remove.ensures c.in_ok-second.second c.in_ok-second.ensures.1).0 in
    let inside = c.requires.inside c.in_ok-second.second member in
    record {
      sized = c.requires.sized;
      inside = inside;
      far = c.requires.far c.in_ok-second.second member;
      priced = c.requires.priced c.in_ok-second.second inside;
    }

pub key_of-key-requires : goal.key_of-key-requires
key_of-key-requires g c =
    let member = c.loop-c.invariant.2.part c.in-Some.c c.in-Some.ensures.steps.member in
    let inside = c.requires.inside c.in-Some.c member in
    record {
      sized = c.requires.sized;
      inside = inside;
      far = c.requires.far c.in-Some.c member;
      priced = c.requires.priced c.in-Some.c inside;
    }

pub in_order-two-requires : goal.in_order-two-requires
in_order-two-requires g c =
    let kind = g.K.Cost in
    let member = (still_in (has c.args.set) (has c.remove.new.self) c.in_ok-first.first
    c.remove.ensures c.in_ok-second.second c.in_ok-second.ensures.1).0 in
    record {
      first = half_key kind (has c.args.set) c.args.dist.now c.args.right.now c.requires.inside
          c.requires.far c.requires.priced c.in_ok-first.first c.key_of.result
          c.in_ok-first.ensures.1 c.key_of.ensures.reach;
      second = half_key kind (has c.args.set) c.args.dist.now c.args.right.now c.requires.inside
          c.requires.far c.requires.priced c.in_ok-second.second c.key_of-2.result member
          c.key_of-2.ensures.reach;
    }

pub loop-c-init : goal.loop-c-init
loop-c-init g c =
    let kind = g.K.Cost in
    let set = has c.args.set in
    let v = weight_at kind c.args.right.now in
    let d = weight_at kind c.args.dist.now in
    let rest = has c.remove-2.new.self in
    let k = weight (kind.meaning c.key_of.result) in
    let k' = weight (kind.meaning c.key_of-2.result) in
    let a = c.in_ok-first.first in
    let b = c.in_ok-second.second in
    let Known : Nearby g.row.K.Denot → Nearby g.row.K.Denot → Type 0 =
    λ x y. weight (kind.meaning x.key) ≤ℤ weight (kind.meaning y.key)
    → Seconding set v d rest x.block (weight (kind.meaning x.key)) y.block
    (weight (kind.meaning y.key))
    × KeyReach kind c.args.right.now (columns_at kind c.args.dist.now) x.block x.key
    × KeyReach kind c.args.right.now (columns_at kind c.args.dist.now) y.block y.key in
    let known = in_order Known (record { block = a; key = c.key_of.result })
    (record { block = b; key = c.key_of-2.result }) c.in_order-two.result.near
    c.in_order-two.result.next c.in_order-two.ensures.both
    (λ le. (
      seconding_first set v d (has c.remove.new.self) rest a b c.remove.ensures
          c.remove-2.ensures c.in_ok-first.ensures.1 c.in_ok-second.ensures.1 k k'
          c.key_of.ensures.key c.key_of-2.ensures.key le,
      c.key_of.ensures.reach,
      c.key_of-2.ensures.reach,
    ))
    (λ le. (
      seconding_second set v d (has c.remove.new.self) rest a b c.remove.ensures
          c.remove-2.ensures c.in_ok-first.ensures.1 c.in_ok-second.ensures.1 k k'
          c.key_of.ensures.key c.key_of-2.ensures.key le,
      c.key_of-2.ensures.reach,
      c.key_of.ensures.reach,
    ))
    c.in_order-two.ensures.order in (
      tt,
      tt,
      rw c.into_iter-c-iterator.ensures.into_iter_gives known.0,
      known.1,
      known.2,
    )

pub is_less-requires : goal.is_less-requires
is_less-requires g c =
    let kind = g.K.Cost in
    let seen = c.loop-c.invariant.2 in
    record {
      first = half_key kind (has c.args.set) c.args.dist.now c.args.right.now c.requires.inside
          c.requires.far c.requires.priced c.in-Some.c c.key_of-key.result
          (seen.part c.in-Some.c c.in-Some.ensures.steps.member) c.key_of-key.ensures.reach;
      second = half_key kind (has c.args.set) c.args.dist.now c.args.right.now c.requires.inside
          c.requires.far c.requires.priced c.loop-c.next c.loop-c.next_key seen.member'
          c.loop-c.invariant.4;
    }

pub is_less-requires-then-is_less : goal.is_less-requires-then-is_less
is_less-requires-then-is_less g c =
    let kind = g.K.Cost in
    let seen = c.loop-c.invariant.2 in
    record {
      first = half_key kind (has c.args.set) c.args.dist.now c.args.right.now c.requires.inside
          c.requires.far c.requires.priced c.in-Some.c c.key_of-key.result
          (seen.part c.in-Some.c c.in-Some.ensures.steps.member) c.key_of-key.ensures.reach;
      second = half_key kind (has c.args.set) c.args.dist.now c.args.right.now c.requires.inside
          c.requires.far c.requires.priced c.loop-c.near c.loop-c.near_key seen.member
          c.loop-c.invariant.3;
    }

pub loop-c-preserved : goal.loop-c-preserved
loop-c-preserved g c =
    let kind = g.K.Cost in
    let kept = c.is_less.ensures.not_less c.if-is_less.false in (
      tt,
      tt,
      seconding_keep (has c.args.set) (weight_at kind c.args.right.now)
          (weight_at kind c.args.dist.now) (has c.loop-c.c-iterator) (has c.next.new.self)
          c.in-Some.c c.in-Some.ensures.steps.others c.in-Some.ensures.steps.member
          c.loop-c.near (weight (kind.meaning c.loop-c.near_key)) c.loop-c.next
          (weight (kind.meaning c.loop-c.next_key)) c.loop-c.invariant.2
          (omega (arith, ints, c.key_of-key.ensures.key)),
      c.loop-c.invariant.3,
      c.loop-c.invariant.4,
    )

pub loop-c-preserved-then-is_less-2 : goal.loop-c-preserved-then-is_less-2
loop-c-preserved-then-is_less-2 g c =
    let kind = g.K.Cost in
    let less = c.is_less-then-is_less.ensures.less c.if-is_less-2.true in (
      tt,
      tt,
      seconding_best (has c.args.set) (weight_at kind c.args.right.now)
          (weight_at kind c.args.dist.now) (has c.loop-c.c-iterator) (has c.next.new.self)
          c.in-Some.c c.in-Some.ensures.steps.others c.in-Some.ensures.steps.member
          c.loop-c.near (weight (kind.meaning c.loop-c.near_key)) c.loop-c.next
          (weight (kind.meaning c.loop-c.next_key)) c.loop-c.invariant.2
          (weight (kind.meaning c.key_of-key.result)) c.key_of-key.ensures.key
          (omega (arith, ints)),
      c.key_of-key.ensures.reach,
      c.loop-c.invariant.3,
    )

pub loop-c-preserved-else-is_less-2 : goal.loop-c-preserved-else-is_less-2
loop-c-preserved-else-is_less-2 g c =
    let kind = g.K.Cost in
    let less = c.is_less.ensures.less c.if-is_less.true in
    let kept = c.is_less-then-is_less.ensures.not_less c.if-is_less-2.false in (
      tt,
      tt,
      seconding_next (has c.args.set) (weight_at kind c.args.right.now)
          (weight_at kind c.args.dist.now) (has c.loop-c.c-iterator) (has c.next.new.self)
          c.in-Some.c c.in-Some.ensures.steps.others c.in-Some.ensures.steps.member
          c.loop-c.near (weight (kind.meaning c.loop-c.near_key)) c.loop-c.next
          (weight (kind.meaning c.loop-c.next_key)) c.loop-c.invariant.2
          (weight (kind.meaning c.key_of-key.result)) c.key_of-key.ensures.key
          less kept,
      c.loop-c.invariant.3,
      c.key_of-key.ensures.reach,
    )

pub returns-in_err-first : goal.returns-in_err-first
returns-in_err-first g c =
    rw c.from_residual.ensures
    (λ a b s t. absurd (both_ways (has c.args.set a) (c.in_err-first.ensures a) s))

pub returns-in_err-second : goal.returns-in_err-second
returns-in_err-second g c =
    let a = c.in_ok-first.first in
    let only : (x : ℕ) → has c.args.set x ≡ true → x ≡ a =
    λ x s. ⊎_elim (λ (e : x ≡ a). e)
    (λ (ne : x ≡ a → ⊥). absurd (both_ways (has c.args.set x)
    (gone (has c.args.set) (has c.remove.new.self) a c.remove.ensures x
    (c.in_err-second.ensures x) ne) s)) (cases_eq x a) in
    rw c.from_residual-in_err-second.ensures (λ x y s t. only x s ∙ sym (only y t))

pub returns : goal.returns
returns g c =
    let kind = g.K.Cost in
    let set = has c.args.set in
    let v = weight_at kind c.args.right.now in
    let d = weight_at kind c.args.dist.now in
    let seen = c.loop-c.invariant.2 in
    let k = weight (kind.meaning c.loop-c.near_key) in
    let k' = weight (kind.meaning c.loop-c.next_key) in
    record {
      near = rw c.of.ensures.near (record {
        inside = omega (arith, c.requires.sized, c.requires.inside c.loop-c.near seen.member);
        nearest = seconded_best set v d (has c.loop-c.c-iterator) c.in-None.ensures.steps
            c.loop-c.near k c.loop-c.next k' seen;
        key = seen.is;
        bound = near_key kind set c.args.dist.now c.args.right.now c.requires.inside
            c.requires.far c.requires.priced c.loop-c.near c.loop-c.near_key seen.member
            c.loop-c.invariant.3;
        reach = c.loop-c.invariant.3;
      });
      next = rw (c.of.ensures.near, c.of.ensures.next) (record {
        inside = omega (arith, c.requires.sized, c.requires.inside c.loop-c.next seen.member');
        nearest = seconded_next set v d (has c.loop-c.c-iterator) c.in-None.ensures.steps
            c.loop-c.near k c.loop-c.next k' seen;
        key = seen.is';
        bound = near_key kind set c.args.dist.now c.args.right.now c.requires.inside
            c.requires.far c.requires.priced c.loop-c.next c.loop-c.next_key seen.member'
            c.loop-c.invariant.4;
        reach = c.loop-c.invariant.4;
      });
    }
