-- Each round is one of proofs/Most.antt.
use Rattle.std.proofs.Common.{◌≡◌, ℕ, true, false, length, ◌∙◌, subst, arith}
use Rattle.std.proofs.lemmas.Bool.Decides.{nat_tests}
use Rattle.std.proofs.lemmas.Bool.{both_ways}
use Rattle.blockset.specs.Has.{has}
use Rattle.blockset.proofs.Removing.{still_in, fewer}
use Rattle.matching.specs.Search.{HasEnded}
use Rattle.matching.proofs.Held.{ways_from}
use Rattle.matching.proofs.Most.{IsWide, distinct, paired_more, most, unpaired}
use Rattle.matching.proofs.augmenting.pair_most.Goals as goal

pub exchange-l-requires : goal.exchange-l-requires
exchange-l-requires c =
    let s = c.rounds.invariant.pairing in
    let w = c.search-reach.ensures.reached in
    let held = has c.rounds.holders.held c.in-Some.goal in
    let found = subst (HasEnded c.args.rows.now _ c.rounds.holders c.search-reach.result)
    c.in-Some.is c.search-reach.ensures.goal in
    let free : held ≡ false = (let e = c.difference-goals.ensures c.in-Some.goal in
    let goal = found.1 in grind arith) in
    record {
      distinct = distinct w s;
      small = omega (arith, s.part.len, c.requires.small);
      ways = ways_from s.part.len w s.holders;
      reached = found.0;
      free = λ l i f e. both_ways held free
          (subst (λ y. has c.rounds.holders.held y ≡ true) e (s.holders.all l (omega arith) i f));
    }

pub rounds-smaller : goal.rounds-smaller
rounds-smaller c =
    let e = c.exchange-l.ensures.exchanged in
    fewer (has c.rounds.out) (has c.remove.new.self) c.exchange-l.result c.remove.ensures
    (omega (arith, e.inside, c.rounds.invariant.pairing.part.len, c.requires.small)) e.was_out

pub rounds-preserved : goal.rounds-preserved
rounds-preserved c =
    let i = c.rounds.invariant in
    let e = c.exchange-l.ensures in
    record {
      pairing = paired_more c.search-reach.ensures.reached i.pairing e.exchanged c.remove.ensures
          (e.told 0 (λ j t. omega arith) i.pairing.holders);
      kept = λ j b t.
          let was = still_in (has c.rounds.out) (has c.remove.new.self) c.exchange-l.result
          c.remove.ensures j t in
          e.exchanged.kept j (omega (arith, i.pairing.part.len)) was.0 was.1 ∙ i.kept j b was.0;
    }

pub returns-else-is_empty : goal.returns-else-is_empty
returns-else-is_empty c =
    let s = c.rounds.invariant.pairing in
    let w = c.search-reach.ensures.reached in
    let vain = subst (HasEnded c.args.rows.now _ c.rounds.holders c.search-reach.result)
    c.in_default.is c.search-reach.ensures.goal in
    let wide : IsWide (length c.args.rows.now) _ =
    record { offer = c.all-all.ensures; live = c.all-all.ensures } in
    let taken = λ (j : ℕ) (t : has c.search-reach.result.reached j ≡ true).
    let some : has c.rounds.holders.held j ≡ true = (let low = w.small j t in
    let few = c.requires.small in let all = c.all-all.ensures j in
    let goal = c.difference-goals.ensures j in let none = vain.no_goal j t in
    grind (arith, nat_tests)) in some in
    record {
      largest = most w s vain wide taken;
      inside = s.inside;
      kept = c.rounds.invariant.kept;
      unpaired = unpaired w s vain wide taken (has c.crowd_of.result) c.crowd_of.ensures
          c.bits-crowd.result c.len-short.result c.bits-crowd.ensures c.len-short.ensures
          (λ none. both_ways c.is_empty.result c.if-is_empty.false (c.is_empty.ensures.1 none));
    }
