-- Each step is one of proofs/Choosing.antt.
use Rattle.std.proofs.lemmas.Bool.{cases_Bool}
use Rattle.std.proofs.Common.{◌≡◌, true, false, ⊎_elim, ◌<◌, length, set, sym, refl, ◌∙◌, arith}
use Rattle.std.proofs.Common.{replicate}
use Rattle.std.proofs.lemmas.List.{get_or-set_same, get_or-set_other, length-set}
use Rattle.blockset.specs.declared.TheConstants.{SET_WIDTH}
use Rattle.blockset.specs.Has.{has}
use Rattle.pairing.specs.Grid.{at}
use Rattle.matching.specs.declared.chains.Holders.{Holders}
use Rattle.matching.proofs.Inserting.{inserted}
use Rattle.assign.proofs.Choosing.{choosing_none, cheapest_inside, choosing_skip, choosing_take}
use Rattle.assign.proofs.pairs.pair_cheapest.Goals as goal

pub loop-c-init : goal.loop-c-init
loop-c-init c = record {
  can_next = tt;
  is_finite = tt;
  choosing = rw c.into_iter-c-iterator.ensures.into_iter_gives
      (choosing_none c.args.n (has c.args.cheapest.now.priced) (at c.args.cheapest.now.owner)
      c.requires.inside (has c.all-out.result) c.args.partners.now
      (record { held = c.empty-held.result; owner = replicate SET_WIDTH 0 }) c.requires.sized
      c.requires.few c.all-out.ensures c.empty-held.ensures);
  wide = refl;
}

pub loop-c-preserved-then-contains : goal.loop-c-preserved-then-contains
loop-c-preserved-then-contains c =
    let priced = has c.args.cheapest.now.priced in
    let row = at c.args.cheapest.now.owner in
    let rest = has c.loop-c.c-iterator in
    let out = has c.loop-c.out in
    let held = has c.loop-c.held in
    let p = c.loop-c.partners in
    let who = c.loop-c.owner in
    let o : Holders = record { held = c.loop-c.held; owner = who } in
    let r = c.in-Some.c in
    let l = row r in
    let steps = c.in-Some.ensures.steps in
    let rest' = has c.next.new.self in
    let lies = cheapest_inside c.args.n priced row c.requires.inside rest out p o
    c.loop-c.invariant.choosing r rest' steps.others steps.member steps.least in
    let in-partners : at c.args.cheapest.now.owner c.in-Some.c < length c.loop-c.partners =
    omega (arith, c.requires.sized) in
    let in-who : c.in-Some.c < length c.loop-c.owner =
    omega (arith, steps.is_block, c.loop-c.invariant.wide) in
    record {
      can_next = tt;
      is_finite = tt;
      choosing = choosing_take c.args.n priced row c.requires.inside rest out p o
          c.loop-c.invariant.choosing r rest' steps.others steps.member steps.least
          (has c.remove.new.self) (set p l r)
          (record { held = c.insert.new.self; owner = set who r l }) (length-set p l r)
          c.remove.ensures
          (get_or-set_same p l r 0 in-partners) (λ j ne. get_or-set_other p l j r 0 ne)
          (inserted held (has c.insert.new.self) r steps.is_block c.insert.ensures)
          (get_or-set_same who r l 0 in-who) (λ j ne. get_or-set_other who r j l 0 ne)
          (sym {b = out l} c.if-contains.ensures);
      wide = length-set who r l ∙ c.loop-c.invariant.wide;
    }

pub loop-c-preserved : goal.loop-c-preserved
loop-c-preserved c =
    let row = at c.args.cheapest.now.owner in
    let out = has c.loop-c.out in
    let r = c.in-Some.c in
    let steps = c.in-Some.ensures.steps in
    record {
      can_next = tt;
      is_finite = tt;
      choosing = choosing_skip c.args.n (has c.args.cheapest.now.priced) row c.requires.inside
          (has c.loop-c.c-iterator) out c.loop-c.partners
          (record { held = c.loop-c.held; owner = c.loop-c.owner })
          c.loop-c.invariant.choosing r (has c.next.new.self) steps.others steps.member steps.least
          (sym {b = out (row r)} c.if-contains.ensures);
      wide = c.loop-c.invariant.wide;
    }

pub returns : goal.returns
returns c =
    let done = c.loop-c.invariant.choosing in
    record {
      inside = done.inside;
      left_out = λ l h. (
        λ t k m. done.none l h t k m (c.in-None.ensures.steps k),
        λ none. ⊎_elim (λ (t : has c.loop-c.out l ≡ true). t)
            (λ (f : has c.loop-c.out l ≡ false). let w = done.cheap l h f in
            absurd (none (at c.loop-c.partners l) w.0 w.1))
            (cases_Bool (has c.loop-c.out l)),
      );
      cheap = done.cheap;
      first = done.first;
      holding = done.holding;
    }
