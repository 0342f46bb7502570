-- Where a left block cannot have more, no pairing that agrees before it comes later; where it can,
-- the next pairing is made. Both tell the place in the list.
use Rattle.std.proofs.Common.{◌≡◌, ◌+◌, ◌-◌, sym, refl, ◌∙◌, subst, arith}
use Rattle.blockset.specs.Has.{has}
use Rattle.pairing.specs.Optima.{IsBefore}
use Rattle.pairing.specs.Rows.{IsPerfectOver}
use Rattle.matching.specs.Improving.{HasWantedFrom}
use Rattle.matching.proofs.Held.{held_start}
use Rattle.matching.proofs.Order.{IsNext, IsExhausted, exhausted_start, exhausted_more, next_is}
use Rattle.matching.proofs.Order.{wanted_more}
use Rattle.matching.proofs.Places.{placed, next_place, last_place}
use Rattle.matching.proofs.stepping.advance.Goals as goal

pub loop-l-init : goal.loop-l-init
loop-l-init c = record {
  same = refl;
  exhausted = exhausted_start c.args.rows.now c.args.p.now c.requires.pairs;
  holders = held_start (omega (arith, c.requires.pairs.len)) c.new-holders.ensures;
  wanted = λ m r i j. absurd (omega arith);
}

pub returns-then-raise : goal.returns-then-raise
returns-then-raise c =
    let rows = c.args.rows.now in
    let i = c.loop-l.invariant in
    let l = c.loop-l.l - 1 in
    let up : c.loop-l.l ≡ l + 1 = omega arith in
    let pairs : IsPerfectOver rows c.loop-l.p = subst (IsPerfectOver rows) (sym i.same)
    c.requires.pairs in
    let next : IsNext rows c.args.p.now c.make_first_from.new.p =
    subst (λ x. IsNext rows x c.make_first_from.new.p) i.same
    (next_is rows c.loop-l.p pairs l (omega arith)
    (subst (λ m. IsExhausted rows m c.loop-l.p) up i.exhausted)
    c.if-raise.ensures.improved c.make_first_from.ensures) in
    let w = placed rows c.args.p.now c.requires.pairs in
    (w.0, w.1, next_place rows w.0 c.args.p.now w.1 c.make_first_from.new.p next)

pub loop-l-preserved : goal.loop-l-preserved
loop-l-preserved c =
    let rows = c.args.rows.now in
    let i = c.loop-l.invariant in
    let l = c.loop-l.l - 1 in
    let up : c.loop-l.l ≡ l + 1 = omega arith in
    let pairs : IsPerfectOver rows c.loop-l.p = subst (IsPerfectOver rows) (sym i.same)
    c.requires.pairs in
    let stuck = c.if-raise.ensures.improved in
    record {
      same = stuck.same ∙ i.same;
      exhausted = subst (IsExhausted rows l) (sym stuck.same)
          (exhausted_more rows c.loop-l.p pairs l (omega arith)
          (subst (λ m. IsExhausted rows m c.loop-l.p) up i.exhausted) stuck);
      holders = c.put_in.ensures;
      wanted = wanted_more rows l (has c.loop-l.wanted) (has c.union-wanted.result)
          (subst (λ m. HasWantedFrom m rows (has c.loop-l.wanted)) up i.wanted)
          c.union-wanted.ensures;
    }

pub returns : goal.returns
returns c =
    let rows = c.args.rows.now in
    let p = c.args.p.now in
    let i = c.loop-l.invariant in
    let w = placed rows p c.requires.pairs in (
      w.0,
      w.1,
      last_place rows w.0 p w.1 (λ q g b. i.exhausted q g (λ _ h. absurd (omega arith))
          (subst (λ x. IsBefore x q) (sym i.same) b)),
      i.same,
    )
