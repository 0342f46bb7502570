-- The right block takes the way that it is offered only where that is less than the one it has.
use Rattle.std.proofs.Common.{◌≡◌, ◌+◌, set, ◌+ℤ◌, sym, ap, ◌∙◌, refl, subst, inr, arith}
use Rattle.std.proofs.lemmas.List.{get_or-set_same, get_or-set_other}
use Rattle.std.proofs.lemmas.Int.{ints}
use Rattle.std.proofs.lemmas.Bool.{both_ways}
use Rattle.cost.specs.declared.TheConstants.{COST_LIMIT, HALF_RAIL}
use Rattle.cost.specs.Columns.{AreWithin}
use Rattle.cost.proofs.Exact.{within_more}
use Rattle.cost.specs.Weights.{weight}
use Rattle.blockset.specs.Has.{has}
use Rattle.pairing.specs.Grid.{at}
use Rattle.assign.specs.declared.limits.TheConstants.{SHIFT_LIMIT}
use Rattle.assign.specs.Weighed.{weight_at}
use Rattle.assign.specs.Offers.{distances}
use Rattle.assign.proofs.Entries.{entry_is}
use Rattle.assign.proofs.Owners.{known_at, store_same, store_other}
use Rattle.assign.proofs.search.offer_one.Goals as goal

pub is_less-requires : goal.is_less-requires
is_less-requires g c =
    let kind = g.K.Cost in
    let offer = c.args.offer.now in
    let i = c.args.c in
    let cost-is = entry_is kind offer.costs.now i c.index-offer-c.result c.requires.inside
    c.index-offer-c.is in
    record {
      first = within_more (SHIFT_LIMIT + COST_LIMIT) HALF_RAIL (kind.meaning c.exact_sum-way.result)
          (omega arith)
          (c.exact_sum-way.ensures.bound SHIFT_LIMIT COST_LIMIT c.requires.modest.shift
          (subst (AreWithin COST_LIMIT) (sym cost-is) (c.requires.modest.costs i c.requires.one_of))
          (omega arith));
      second = subst (AreWithin HALF_RAIL)
          (sym (known_at kind c.requires.owners c.args.dist.now refl i c.requires.had
          c.index-dist-l.result c.index-dist-l.is)) c.requires.known;
    }

pub returns : goal.returns
returns g c =
    let kind = g.K.Cost in
    let i = c.args.c in
    let x = c.exact_sum-way.result in
    let here = store_same kind c.requires.owners c.args.dist.now refl i c.requires.had x in
    let offer = c.args.offer.now in
    let cost-is = entry_is kind offer.costs.now i c.index-offer-c.result c.requires.inside
    c.index-offer-c.is in
    let old = ap weight
    (known_at kind c.requires.owners c.args.dist.now refl i c.requires.had c.index-dist-l.result
    c.index-dist-l.is) in
    let new = ap weight here in
    let less = c.is_less.ensures.less c.if-not-is_less.false in
    let w-here : weight (distances kind c.args.holders.now
    (set c.args.dist.now (at c.args.holders.now.owner i) x) i) ≡ weight (kind.meaning offer.shift)
    +ℤ weight_at kind offer.costs.now i = new ∙ c.exact_sum-way.ensures.sum
    ∙ ap (λ z. weight (kind.meaning offer.shift) +ℤ weight z) cost-is in
    record {
      offered = record {
        others = λ f. absurd (both_ways (has offer.to i) f c.requires.one_of);
        change = λ _. inr (w-here, get_or-set_same c.args.via.now i offer.from 0 (omega arith));
        most = λ _. omega (arith, ints, w-here);
        less = λ _ _. omega (arith, ints);
      };
      others = λ j ne. (
        store_other kind c.requires.owners c.args.dist.now refl i c.requires.had x j ne,
        get_or-set_other c.args.via.now i j offer.from 0 ne,
      );
      answer = sym here;
      nearer = inr (omega (arith, ints));
      bound = λ b s le _. subst (AreWithin (b + COST_LIMIT)) (sym here)
          (c.exact_sum-way.ensures.bound b COST_LIMIT s
          (subst (AreWithin COST_LIMIT) (sym cost-is) (c.requires.modest.costs i c.requires.one_of))
          (omega arith));
    }
