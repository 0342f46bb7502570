-- The new holders are those of proofs/Seating.antt, where another left block had the right block.
use Rattle.std.proofs.Common.{◌≡◌, ◌||◌, eqb, length, set, sym, ap, ◌∙◌, arith, rules}
use Rattle.std.proofs.lemmas.List.{get_or-set_same, get_or-set_other, length-set}
use Rattle.blockset.specs.declared.TheConstants.{SET_WIDTH}
use Rattle.blockset.specs.Has.{has}
use Rattle.pairing.specs.Grid.{at}
use Rattle.matching.proofs.Inserting.{inserted}
use Rattle.assign.proofs.Seating.{seated_told}
use Rattle.assign.proofs.reduction.seat.Goals as goal

pub returns-then-was_held-clause-told : goal.returns-then-was_held-clause-told
returns-then-was_held-clause-told c =
    let p = c.args.partners.now in
    let held = has c.args.holders.now.held in
    let row = c.args.holders.now.owner in
    let l = c.args.l in
    let r = c.args.c in
    let told = c.requires.told in
    let mine = sym c.contains-was_held.ensures ∙ c.if-was_held.true in
    let few = c.requires.few in
    let wide : length c.args.holders.now.owner ≡ SET_WIDTH = search rules in
    let new = has c.insert-then-was_held.new.self in
    seated_told told l r c.requires.room c.requires.left_out mine new
    (λ j. inserted (has c.remove.new.self) new (at row r)
    (omega (arith, few, told.high r mine)) c.insert-then-was_held.ensures j
    ∙ ap (λ b. eqb j (at row r) || b) (c.remove.ensures j))
    (set p l r) (length-set p l r) (get_or-set_same p l r 0 c.requires.room)
    (λ m ne. get_or-set_other p l m r 0 ne)
    (record { held = c.insert.new.self; owner = set row r l })
    (inserted held (has c.insert.new.self) r (omega (arith, few, c.requires.below))
    c.insert.ensures)
    (get_or-set_same row r l 0 (omega (arith, few, c.requires.below, wide)))
    (λ j ne. get_or-set_other row r j l 0 ne)
