-- Each way through a turn is a step of proofs/Searching.antt; the measure falls by what is counted
-- there.
use Rattle.std.proofs.Common.{◌≡◌, ◌<◌, true, length, sym, ◌∙◌, subst, inl, inr, arith}
use Rattle.std.proofs.lemmas.Bool.{cases_eq, both_ways}
use Rattle.blockset.specs.declared.TheConstants.{SET_WIDTH}
use Rattle.blockset.specs.Has.{has}
use Rattle.blockset.proofs.Members.{members-le, members-insert}
use Rattle.blockset.proofs.Removing.{fewer}
use Rattle.pairing.specs.Grid.{at}
use Rattle.matching.proofs.Inserting.{inserted, new_in, old_in, old_from}
use Rattle.matching.proofs.Searching.{reaching, search_ways, search_grown, search_least}
use Rattle.matching.proofs.Searching.{search_more, search_retired}
use Rattle.matching.proofs.chains.search.Goals as goal

pub overflow_cast-rank : goal.overflow_cast-rank
overflow_cast-rank c = omega (arith, members-le SET_WIDTH (has c.loop-l.reached))

pub returns-then-contains : goal.returns-then-contains
returns-then-contains c =
    let r = reaching c.requires.small c.requires.inside c.in-Some.ensures
    c.in-Some-fresh.ensures.new c.insert.ensures in
    simp c.len.ensures (record {
      reached = search_ways c.loop-l.invariant r _;
      goal = (
        new_in (has c.loop-l.reached) (has c.insert.new.self) c.in-Some-fresh.c r.is,
        sym c.contains.ensures ∙ c.if-contains.true,
      );
    })

pub loop-l-smaller-then-contains-2 : goal.loop-l-smaller-then-contains-2
loop-l-smaller-then-contains-2 c =
    let r = reaching c.requires.small c.requires.inside c.in-Some.ensures
    c.in-Some-fresh.ensures.new c.insert.ensures in
    let l = at c.args.holders.now.owner c.in-Some-fresh.c in
    let low : l < SET_WIDTH =
    omega (arith, c.requires.small, c.requires.held c.in-Some-fresh.c (sym c.if-contains-2.ensures))
    in
    omega (
      arith,
      search_grown c.loop-l.invariant r,
      search_least c.loop-l.invariant r,
      members-insert SET_WIDTH (has c.loop-l.pending) (has c.insert-then-contains-2.new.self) l low
          (inserted (has c.loop-l.pending) (has c.insert-then-contains-2.new.self) l low
          c.insert-then-contains-2.ensures),
    )

pub loop-l-preserved-then-contains-2 : goal.loop-l-preserved-then-contains-2
loop-l-preserved-then-contains-2 c =
    let r = reaching c.requires.small c.requires.inside c.in-Some.ensures
    c.in-Some-fresh.ensures.new c.insert.ensures in
    let P = has c.loop-l.pending in
    let P' = has c.insert-then-contains-2.new.self in
    let l = at c.args.holders.now.owner c.in-Some-fresh.c in
    let held : has c.args.holders.now.held c.in-Some-fresh.c ≡ true =
    sym c.if-contains-2.ensures in
    let inside : l < length c.args.rows.now = c.requires.held c.in-Some-fresh.c held in
    let put = inserted P P' l (omega (arith, c.requires.small)) c.insert-then-contains-2.ensures in
    simp c.len.ensures
    (search_more c.loop-l.invariant r (sym c.if-contains.ensures) (old_in P P' l put)
    (λ _. new_in P P' l put)
    (λ j t. elim (cases_eq j l) [
      | inl e ↦ inr (held, e, subst (λ y. y < length c.args.rows.now) (sym e) inside)
      | inr ne ↦ inl (old_from P P' l put j t ne)
    ]))

pub loop-l-smaller-else-contains-2 : goal.loop-l-smaller-else-contains-2
loop-l-smaller-else-contains-2 c =
    let r = reaching c.requires.small c.requires.inside c.in-Some.ensures
    c.in-Some-fresh.ensures.new c.insert.ensures in
    omega (arith, search_grown c.loop-l.invariant r, search_least c.loop-l.invariant r)

pub loop-l-preserved-else-contains-2 : goal.loop-l-preserved-else-contains-2
loop-l-preserved-else-contains-2 c =
    let r = reaching c.requires.small c.requires.inside c.in-Some.ensures
    c.in-Some-fresh.ensures.new c.insert.ensures in
    simp c.len.ensures
    (search_more c.loop-l.invariant r (sym c.if-contains.ensures) (λ j t. t)
    (λ t. absurd (both_ways (has c.args.holders.now.held c.in-Some-fresh.c)
    (sym c.if-contains-2.ensures) t))
    (λ j t. inl t))

pub loop-l-smaller : goal.loop-l-smaller
loop-l-smaller c = omega (
  arith,
  fewer (has c.loop-l.pending) (has c.remove.new.self) c.in-Some.l c.remove.ensures
      c.in-Some.ensures.0 c.in-Some.ensures.1,
)

pub loop-l-preserved : goal.loop-l-preserved
loop-l-preserved c = search_retired c.loop-l.invariant c.in-Some.l c.remove.new.self
    c.in_default-fresh.ensures.none c.remove.ensures
