-- One right block more takes the way that it is offered.
use Rattle.std.proofs.Common.{◌+◌, false, set, ◌+ℤ◌, sym, refl, ap, ◌∙◌, subst, arith}
use Rattle.std.proofs.lemmas.Bool.{both_ways}
use Rattle.std.proofs.lemmas.List.{get_or-set_same, get_or-set_other}
use Rattle.cost.specs.declared.TheConstants.{COST_LIMIT}
use Rattle.cost.specs.Columns.{AreWithin}
use Rattle.cost.specs.Weights.{weight}
use Rattle.blockset.specs.Has.{has}
use Rattle.pairing.specs.Grid.{at}
use Rattle.tables.specs.Said.{columns_at}
use Rattle.assign.specs.Offers.{distances}
use Rattle.assign.proofs.Entries.{entry_is}
use Rattle.assign.proofs.Offering.{offering_take}
use Rattle.assign.proofs.Owners.{store_same, store_other}
use Rattle.assign.proofs.search.offer_first.Goals as goal

pub loop-c-preserved : goal.loop-c-preserved
loop-c-preserved g c =
    let kind = g.K.Cost in
    let offer = c.args.offer.now in
    let holders = c.args.holders.now in
    let owners = c.requires.owners in
    let dist = c.loop-c.dist in
    let i = c.in-Some.c in
    let x = c.exact_sum.result in
    let step = c.in-Some.ensures.steps in
    let member = c.loop-c.invariant.2.part i step.member in
    let had = c.requires.had i member in
    let long = c.loop-c.auto.dist in
    let here = store_same kind owners dist long i had x in
    let cost-is = entry_is kind offer.costs.now i c.index-offer-c.result
    (c.requires.inside i member) c.index-offer-c.is in (
      tt,
      tt,
      offering_take (kind.meaning offer.shift) (columns_at kind offer.costs.now) offer.from
          (has offer.to) (λ _. false) (distances kind holders c.args.dist.now)
          (at c.args.via.now) (has c.loop-c.c-iterator) (has c.next.new.self) i step.others
          step.member (distances kind holders dist) (at c.loop-c.via) c.loop-c.invariant.2
          (distances kind holders (set dist (at holders.owner i) x))
          (at (set c.loop-c.via i offer.from))
          (λ j ne. (
            store_other kind owners dist long i had x j ne,
            get_or-set_other c.loop-c.via i j offer.from 0 ne,
          ))
          (ap weight here ∙ c.exact_sum.ensures.sum
          ∙ ap (λ z. weight (kind.meaning offer.shift) +ℤ weight z) cost-is)
          (get_or-set_same c.loop-c.via i offer.from 0 (omega arith))
          (λ r. absurd (both_ways false refl r))
          (λ b s le. subst (AreWithin (b + COST_LIMIT)) (sym here)
          (c.exact_sum.ensures.bound b COST_LIMIT s
          (subst (AreWithin COST_LIMIT) (sym cost-is) (c.requires.modest.costs i member))
          (omega arith))),
    )
