-- Each right block is offered its way once: where it is reached for the first time, or with those
-- that were reached before. All of `rest` have a distance once the first are done, and the nearest
-- of them is the nearest of those reached before that the offer goes to, or of the others.
use Rattle.std.proofs.Common.{◌≡◌, ℕ, ◌+◌, true, not, sym, ◌∙◌, subst, ⊎_elim, arith}
use Rattle.std.proofs.lemmas.Bool.{not-false, not-true, and_parts}
use Rattle.cost.specs.declared.TheConstants.{COST_LIMIT}
use Rattle.cost.specs.Columns.{AreWithin}
use Rattle.cost.proofs.Exact.{within_more}
use Rattle.blockset.specs.Has.{has}
use Rattle.assign.specs.declared.limits.TheConstants.{DISTANCE_LIMIT, SHIFT_LIMIT}
use Rattle.assign.specs.Offers.{distances, HaveOwners}
use Rattle.assign.proofs.Nearer.{nearest_parts}
use Rattle.assign.proofs.Parts.{of_part, out_of_part, offered_parts}
use Rattle.assign.proofs.search.offer_held.Goals as goal
use Rattle.assign.proofs.search.offer_held.Goals.{After-offer_first}
use Rattle.assign.proofs.search.offer_held.Given as given

pub offer_first-requires : goal.offer_first-requires
offer_first-requires g c =
    let part = λ (j : ℕ) (r : has c.difference.result j ≡ true).
    of_part _ (c.intersection-to.ensures j) (c.difference.ensures j) r in
    record {
      modest = record {
        few = c.requires.modest.few;
        block = c.requires.modest.block;
        costs = λ j r. c.requires.modest.costs j (part j r).0;
        shift = c.requires.modest.shift;
      };
      inside = λ j r. c.requires.inside j (c.requires.waiting j (part j r).0 (part j r).1);
      had = λ j r. (part j r).1;
      owners = c.requires.owners;
    }

-- all of `rest` have a distance once the first are done
far_enough : (g : given.Over) (c : After-offer_first g) (j : ℕ) → has c.args.rest j ≡ true
    → AreWithin DISTANCE_LIMIT (distances g.K.Cost c.args.holders.now c.offer_first.new.dist j)
far_enough g c j r =
    let d = distances g.K.Cost c.args.holders.now c.args.dist.now in
    let d' = distances g.K.Cost c.args.holders.now c.offer_first.new.dist in
    within_more (SHIFT_LIMIT + COST_LIMIT) DISTANCE_LIMIT (d' j) (omega arith)
    (c.offer_first.ensures.bound SHIFT_LIMIT j c.requires.modest.shift (omega arith)
    (λ f. within_more DISTANCE_LIMIT (SHIFT_LIMIT + COST_LIMIT) (d j) (omega arith)
    (c.requires.known j r (⊎_elim (c.requires.come_to j r)
    (not-false (has c.args.reached j))
    (out_of_part _ (c.intersection-to.ensures j) (c.difference.ensures j)
    (c.requires.had j r) f)))))

pub offer_and_find-near-requires : goal.offer_and_find-near-requires
offer_and_find-near-requires g c =
    let part = λ (j : ℕ) (r : has c.intersection.result j ≡ true).
    of_part _ (c.intersection-to.ensures j) (c.intersection.ensures j) r in
    record {
      modest = record {
        few = c.requires.modest.few;
        block = c.requires.modest.block;
        costs = λ j r. c.requires.modest.costs j (part j r).0;
        shift = c.requires.modest.shift;
      };
      rights = c.requires.rights;
      inside = λ j r. c.requires.inside j (c.requires.waiting j (part j r).0 (part j r).1);
      had = λ j r. (part j r).1;
      owners = subst (λ (z : ℕ). HaveOwners z c.args.holders.now) (sym c.offer_first.auto.dist)
          c.requires.owners;
      far = λ j r. far_enough g
          (goal.at.offer_and_find-near-requires g c).After-offer_first j
          (c.requires.waiting j (part j r).0 (part j r).1);
      priced = c.requires.priced;
    }

pub nearest_held-other-requires : goal.nearest_held-other-requires
nearest_held-other-requires g c =
    let among = λ (j : ℕ) (r : has c.difference-others.result j ≡ true). and_parts
    (has c.args.rest j) (not (has c.intersection.result j)) (sym (c.difference-others.ensures j)
    ∙ r) in
    record {
      inside = λ j r. let s = c.requires.inside j (among j r).0 in omega (arith, c.requires.rights);
      had = λ j r. c.requires.had j (among j r).0;
      owners = subst (λ (z : ℕ). HaveOwners z c.args.holders.now)
          (sym (c.offer_and_find-near.auto.dist ∙ c.offer_first.auto.dist)) c.requires.owners;
      far = λ j r. subst (AreWithin DISTANCE_LIMIT)
          (sym (c.offer_and_find-near.ensures.others j
          (not-true (has c.intersection.result j) (among j r).1)))
          (far_enough g (goal.at.nearest_held-other-requires g c).After-offer_first j
          (among j r).0);
      priced = λ j s. c.requires.priced j (omega (arith, c.requires.rights));
    }

pub returns : goal.returns
returns g c =
    let kind = g.K.Cost in
    let offer = c.args.offer.now in
    let rest = has c.args.rest in
    let known = has c.intersection.result in
    let d = distances kind c.args.holders.now c.offer_and_find-near.new.dist in
    let in_rest = λ (j : ℕ) (t : known j ≡ true).
    let p = of_part _ (c.intersection-to.ensures j) (c.intersection.ensures j) t in
    c.requires.waiting j p.0 p.1 in
    record {
      offered = λ j. offered_parts (has offer.to) (has c.args.holders.now.held)
          (has c.args.reached) (has c.intersection-to.result) (has c.difference.result) known
          c.intersection-to.ensures c.difference.ensures c.intersection.ensures j
          (c.offer_first.ensures.offered j) (c.offer_and_find-near.ensures.offered j);
      bound = λ b j s le away reach had. c.offer_and_find-near.ensures.bound b j s le
          (c.offer_first.ensures.bound b j s le
          (λ f. ⊎_elim away (λ z. reach (not-false (has c.args.reached j) z))
          (out_of_part _ (c.intersection-to.ensures j) (c.difference.ensures j) had f)));
      found = nearest_parts kind rest known (has c.difference-others.result) in_rest
          c.difference-others.ensures c.args.right.now d c.offer_and_find-near.result
          c.nearest_held-other.result c.nearer.result c.offer_and_find-near.ensures.found
          c.nearest_held-other.ensures c.nearer.ensures;
    }
