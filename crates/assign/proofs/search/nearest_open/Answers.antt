-- What is noted first is the nearest as long as it is vacant; what is noted next is the nearest
-- once that is not. No cost and no price is so large that a key is far.
use Rattle.std.proofs.Common.{◌≡◌, ℕ, ◌<◌, Bool, true, List, length}
use Rattle.std.proofs.Common.{◌-ℤ◌, sym, ◌∙◌, subst, arith}
use Rattle.std.proofs.lemmas.Bool.{both_ways}
use Rattle.cost.specs.declared.Cost.{Ghosts}
use Rattle.cost.specs.declared.TheConstants.{COST_LIMIT}
use Rattle.cost.specs.Weights.{weight}
use Rattle.cost.proofs.Exact.{within_more}
use Rattle.blockset.specs.Has.{has}
use Rattle.pairing.specs.Grid.{at}
use Rattle.tables.specs.Said.{columns_at, AreValuesWithin}
use Rattle.assign.specs.declared.limits.TheConstants.{DISTANCE_LIMIT, INNER_PRICE_LIMIT}
use Rattle.assign.specs.declared.search.Offer.{Offer}
use Rattle.assign.specs.declared.tree.Nearby.{Nearby}
use Rattle.assign.specs.Weighed.{weight_at, BoundedOn}
use Rattle.assign.specs.Offers.{NearestWithKey, Nearest, KeyReach, IsModest}
use Rattle.assign.proofs.search.nearest_open.Goals as goal

-- a cost that the offer goes to is no farther than a distance can be
costs_far : {K : Type 0} (kind : Ghosts K) (offer : Offer K) (vacant : ℕ → Bool)
    → IsModest kind offer → ((c : ℕ) → vacant c ≡ true → has offer.to c ≡ true)
    → BoundedOn kind DISTANCE_LIMIT vacant offer.costs.now
costs_far kind offer vacant modest among k t = within_more COST_LIMIT DISTANCE_LIMIT
    (columns_at kind offer.costs.now k) (omega arith) (modest.costs k (among k t))

-- the nearest one with its key, which is not far
with_key : {K : Type 0} (kind : Ghosts K) (offer : Offer K) (vacant : ℕ → Bool) (right : List K)
    → IsModest kind offer → length right ≡ length offer.costs.now
    → ((c : ℕ) → vacant c ≡ true → has offer.to c ≡ true)
    → ((c : ℕ) → vacant c ≡ true → c < length offer.costs.now)
    → AreValuesWithin kind INNER_PRICE_LIMIT (length offer.costs.now) right
    → (near : Nearby K)
    → Nearest vacant (weight_at kind right) (weight_at kind offer.costs.now) near.block
    → weight (kind.meaning near.key) ≡ weight_at kind offer.costs.now near.block
    -ℤ weight_at kind right near.block
    → KeyReach kind right (columns_at kind offer.costs.now) near.block near.key
    → NearestWithKey kind vacant right (columns_at kind offer.costs.now) near
with_key kind offer vacant right modest rights among inside priced near nearest key reach =
    let below = inside near.block nearest.member in
    record {
      inside = omega (arith, rights, below);
      nearest = nearest;
      key = key;
      bound = reach DISTANCE_LIMIT INNER_PRICE_LIMIT
          (costs_far kind offer vacant modest among near.block nearest.member)
          (priced near.block below) (omega arith);
      reach = reach;
    }

pub returns-then-contains-clause-found : goal.returns-then-contains-clause-found
returns-then-contains-clause-found g c =
    let near = at c.args.noted.now.near c.args.offer.now.from in
    let member = sym c.contains.ensures ∙ c.if-contains.true in
    with_key g.K.Cost c.args.offer.now (has c.args.vacant) c.args.right.now c.requires.modest
    c.requires.rights c.requires.among c.requires.inside c.requires.priced
    (record { block = near; key = c.key_of-key.result })
    (record { member = member; least = c.requires.noted.first member })
    c.key_of-key.ensures.key c.key_of-key.ensures.reach

pub key_of-key-requires-then-contains-2-clause-far :
    goal.key_of-key-requires-then-contains-2-clause-far
key_of-key-requires-then-contains-2-clause-far g c =
    costs_far g.K.Cost c.args.offer.now (has c.args.vacant) c.requires.modest c.requires.among
    (at c.args.noted.now.next c.args.offer.now.from)
    (sym c.contains-2.ensures ∙ c.if-contains-2.true)

pub returns-then-contains-2-clause-found : goal.returns-then-contains-2-clause-found
returns-then-contains-2-clause-found g c =
    let near = at c.args.noted.now.near c.args.offer.now.from in
    let next = at c.args.noted.now.next c.args.offer.now.from in
    let out = sym c.contains.ensures ∙ c.if-contains.false in
    let member = sym c.contains-2.ensures ∙ c.if-contains-2.true in
    let key = c.key_of-key-then-contains-2 in
    with_key g.K.Cost c.args.offer.now (has c.args.vacant) c.args.right.now c.requires.modest
    c.requires.rights c.requires.among c.requires.inside c.requires.priced
    (record { block = next; key = key.result })
    (record {
      member = member;
      least = λ j s. c.requires.noted.second member j s (λ e. both_ways (has c.args.vacant near)
          out (subst (λ (z : ℕ). has c.args.vacant z ≡ true) e s));
    })
    key.ensures.key key.ensures.reach

pub two_nearest-requires-clause-far : goal.two_nearest-requires-clause-far
two_nearest-requires-clause-far g c = costs_far g.K.Cost c.args.offer.now (has c.args.vacant)
    c.requires.modest c.requires.among

pub nearest-requires-clause-far : goal.nearest-requires-clause-far
nearest-requires-clause-far g c = costs_far g.K.Cost c.args.offer.now (has c.args.vacant)
    c.requires.modest c.requires.among
