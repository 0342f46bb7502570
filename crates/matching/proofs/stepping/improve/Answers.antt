-- The state of the loop is that of proofs/Trying.antt, and each way out is one of its conclusions.
use Rattle.std.proofs.Common.{◌≡◌, ◌<◌, true, length, sym, refl}
use Rattle.std.proofs.Common.{◌∙◌, ap, subst, arith}
use Rattle.std.proofs.lemmas.Bool.Decides.{nat_tests}
use Rattle.blockset.specs.declared.TheConstants.{SET_WIDTH}
use Rattle.blockset.proofs.Holding.{has_block}
use Rattle.pairing.specs.Grid.{at}
use Rattle.pairing.specs.Rows.{holds}
use Rattle.matching.specs.Search.{HasEnded}
use Rattle.matching.specs.Improving.{IsImproved, IsUnimproved}
use Rattle.matching.proofs.Alone.{IsAlone, one_is}
use Rattle.matching.proofs.Trying.{trying_start, trying_more, fewer, sending, sending_ways}
use Rattle.matching.proofs.Trying.{along_inside, own_free, pairs_distinct, improved, unimproved}
use Rattle.matching.proofs.Trying.{sent_pairs, sent_improved, sent_holders}
use Rattle.matching.proofs.stepping.improve.Goals as goal

pub loop-r-init : goal.loop-r-init
loop-r-init c =
    let goals : IsAlone c.of-goals.result (at c.args.p.now c.args.l) = record {
      small = omega (arith, c.requires.small, c.requires.pairs.below c.args.l c.requires.inside);
      is = c.of-goals.ensures;
    } in
    record {
      same = refl;
      alone = record {
        small = omega (arith, c.requires.small, c.requires.inside);
        is = c.of-alone.ensures;
      };
      goals = goals;
      trying = trying_start c.requires.small c.requires.pairs c.requires.inside c.requires.held
          goals c.union-live.ensures
          (λ j. let low : holds c.args.rows.now c.args.l j ≡ true → j < SET_WIDTH = has_block _ j in
          let e₁ = c.intersection.ensures j in
          let e₂ = c.all.ensures j in
          let e₃ = c.difference-candidates.ensures j in
          grind (arith, nat_tests));
    }

pub returns-then-r-own-clause-improved : goal.returns-then-r-own-clause-improved
returns-then-r-own-clause-improved c =
    let i = c.loop-r.invariant in
    let own : c.in-Some.r ≡ at c.args.p.now c.args.l = c.if-r-own.true in
    subst (λ p. IsImproved c.args.rows.now c.args.l c.args.floor p c.loop-r.p) i.same
    (improved i.trying c.in-Some.ensures i.trying.pairs (λ m j. refl)
    (ap (λ p. at p c.args.l) i.same ∙ sym own))

pub search-reach-requires : goal.search-reach-requires
search-reach-requires c =
    let i = c.loop-r.invariant in
    let f = sending i.trying c.in-Some.ensures i.alone i.goals c.of.ensures in
    record {
      small = c.requires.small;
      roots = λ m x. subst (λ y. y < length c.args.rows.now) (sym (one_is f.roots m x))
          c.requires.inside;
      inside = along_inside f i.trying;
      held = λ j t. omega (arith, i.trying.holders.high j t, i.trying.pairs.len);
    }

pub exchange-requires : goal.exchange-requires
exchange-requires c =
    let i = c.loop-r.invariant in
    let f = sending i.trying c.in-Some.ensures i.alone i.goals c.of.ensures in
    let found = subst (HasEnded c.args.rows.now _ c.loop-r.holders c.search-reach.result)
    c.in-Some-goal.is c.search-reach.ensures.goal in
    record {
      small = omega (arith, c.requires.small, i.trying.pairs.len);
      distinct = pairs_distinct c.args.rows.now i.trying.pairs _;
      ways = sending_ways f i.trying c.search-reach.ensures.reached;
      reached = found.0;
      free = own_free f i.trying found.1;
    }

pub returns-in-Some-goal-clause-improved : goal.returns-in-Some-goal-clause-improved
returns-in-Some-goal-clause-improved c =
    let i = c.loop-r.invariant in
    let f = sending i.trying c.in-Some.ensures i.alone i.goals c.of.ensures in
    subst (λ p. IsImproved c.args.rows.now c.args.l c.args.floor p c.exchange.new.p) i.same
    (sent_improved f i.trying c.search-reach.ensures.reached c.exchange.ensures.exchanged
    c.in-Some.ensures)

pub take_out-requires : goal.take_out-requires
take_out-requires c =
    let i = c.loop-r.invariant in
    let f = sending i.trying c.in-Some.ensures i.alone i.goals c.of.ensures in
    let w = c.search-reach.ensures.reached in
    let e = c.exchange.ensures in
    let pairs = sent_pairs f i.trying w e.exchanged in
    record {
      inside = omega (arith, pairs.len, c.requires.inside);
      once = λ m j o. pairs.once m c.args.l (omega (arith, pairs.len)) c.requires.inside o;
      first = sent_holders f i.trying w e.exchanged e.told;
    }

pub loop-r-smaller : goal.loop-r-smaller
loop-r-smaller c =
    let i = c.loop-r.invariant in
    let f = sending i.trying c.in-Some.ensures i.alone i.goals c.of.ensures in
    let vain = subst (HasEnded c.args.rows.now _ c.loop-r.holders c.search-reach.result)
    c.in_default-goal.is c.search-reach.ensures.goal in
    fewer f i.trying c.search-reach.ensures.reached vain _ _ c.difference-live.ensures
    c.intersection-candidates.ensures c.in-Some.ensures

pub loop-r-preserved : goal.loop-r-preserved
loop-r-preserved c =
    let i = c.loop-r.invariant in
    let f = sending i.trying c.in-Some.ensures i.alone i.goals c.of.ensures in
    let vain = subst (HasEnded c.args.rows.now _ c.loop-r.holders c.search-reach.result)
    c.in_default-goal.is c.search-reach.ensures.goal in
    record {
      same = i.same;
      alone = i.alone;
      goals = i.goals;
      trying = trying_more f i.trying c.search-reach.ensures.reached vain _ _
          c.difference-live.ensures c.intersection-candidates.ensures;
    }

pub returns-clause-improved : goal.returns-clause-improved
returns-clause-improved c =
    let i = c.loop-r.invariant in
    subst (λ p. IsUnimproved c.args.rows.now c.args.l c.args.floor p c.loop-r.p) i.same
    (unimproved i.trying c.in_default.ensures)
