-- A row goes behind the rows before it, and there is room for it since it is a part of the whole.
use Rattle.std.proofs.Common.{◌≡◌, ◌+◌, length, take, drop, ap, sym, ◌∙◌, subst, zero-add}
use Rattle.std.proofs.Common.{append_assoc, arith}
use Rattle.pairing.specs.Places.{place_of, places_of}
use Rattle.orderfile.specs.declared.format.TheConstants.{SIZE_FIELD}
use Rattle.orderfile.proofs.Buffer.{HasWritten, bytes_of, writes_none, room_next, writes_next}
use Rattle.orderfile.proofs.Buffer.{row_inside}
use Rattle.orderfile.proofs.saving.write_pairs.Goals as goal

pub loop-left-init : goal.loop-left-init
loop-left-init c =
    let none : 0 ≡ place_of c.args.n 0 0 = omega arith in
    subst (λ m. HasWritten c.args.n c.args.costs.now c.args.standing.now c.args.out.now SIZE_FIELD 0
    m SIZE_FIELD c.args.out.now) none
    (writes_none c.args.n c.args.costs.now c.args.standing.now c.args.out.now SIZE_FIELD 0)

pub write_row-at-requires : goal.write_row-at-requires
write_row-at-requires c =
    let n = c.args.n in
    let first = place_of n c.loop-left.left 0 in
    let room = room_next n c.args.costs.now c.args.standing.now c.args.out.now SIZE_FIELD 0 first
    c.loop-left.at c.loop-left.out c.loop-left.invariant n (places_of n)
    (row_inside n c.loop-left.left (omega arith)) c.requires.room in
    let there = zero-add first in
    record {
      few = c.requires.few;
      inside = omega arith;
      places = c.requires.places;
      room = omega (
        arith,
        room,
        ap (λ k. length (bytes_of n c.args.costs.now
            c.args.standing.now k n)) there,
        c.loop-left.auto.out,
      );
    }

pub loop-left-preserved : goal.loop-left-preserved
loop-left-preserved c =
    let n = c.args.n in
    let first = place_of n c.loop-left.left 0 in
    let next : first + n ≡ place_of n (c.loop-left.left + 1) 0 = omega arith in
    let row = bytes_of n c.args.costs.now c.args.standing.now first n in
    subst (λ m. HasWritten n c.args.costs.now c.args.standing.now c.args.out.now SIZE_FIELD 0 m
    c.write_row-at.result c.write_row-at.new.out) next
    (writes_next n c.args.costs.now c.args.standing.now c.args.out.now SIZE_FIELD 0 first
    c.loop-left.at c.loop-left.out c.loop-left.invariant n (omega (arith, c.requires.room)) row
    (ap (λ k. bytes_of n c.args.costs.now c.args.standing.now k n) (sym (zero-add first)))
    c.write_row-at.result c.write_row-at.new.out c.write_row-at.ensures.behind
    (c.write_row-at.ensures.writes
    ∙ append_assoc (take c.loop-left.at c.loop-left.out) row (drop c.write_row-at.result
    c.loop-left.out)))

pub returns : goal.returns
returns c =
    let all : place_of c.args.n c.loop-left.left 0 ≡ places_of c.args.n =
    let last : c.loop-left.left ≡ c.args.n = omega arith in
    ap (λ l. place_of c.args.n l 0) last ∙ omega arith in
    let w = subst (λ m. HasWritten c.args.n c.args.costs.now c.args.standing.now c.args.out.now
    SIZE_FIELD 0 m c.loop-left.at c.loop-left.out) all c.loop-left.invariant in
    record { behind = w.behind; writes = w.writes }
