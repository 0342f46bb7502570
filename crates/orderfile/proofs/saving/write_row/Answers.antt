-- Each standing pair's field goes behind what was written, and there is room for it since it is a
-- part of the row.
use Rattle.std.proofs.Common.{◌≡◌, ◌+◌, Bool, true, false, [], ◌++◌, length, take, drop}
use Rattle.std.proofs.Common.{slice_index, ap, sym, ◌∙◌, take-append-drop, arith}
use Rattle.pairing.specs.Places.{place_of}
use Rattle.tables.specs.PairTables.{says_stands}
use Rattle.orderfile.specs.Format.{pair_field}
use Rattle.orderfile.specs.Saving.{pair_at}
use Rattle.orderfile.specs.declared.format.TheConstants.{PAIR_FIELD}
use Rattle.orderfile.proofs.Buffer.{bytes_of_one, bytes_of_none, writes_none, room_next}
use Rattle.orderfile.proofs.Buffer.{writes_next}
use Rattle.orderfile.proofs.saving.write_row.Goals as goal
use Rattle.orderfile.proofs.saving.write_row.Goals.{then-stands, else-stands}

pub loop-right-init : goal.loop-right-init
loop-right-init c =
    writes_none c.args.n c.args.costs.now c.args.standing.now c.args.out.now c.args.start
    (place_of c.args.n c.args.left 0)

pub put_pair-requires : goal.put_pair-requires
put_pair-requires c =
    let first = place_of c.args.n c.args.left 0 in
    let here : first + c.loop-right.right ≡ c.place.result = omega (arith, c.place.ensures) in
    let one = bytes_of_one c.args.n c.args.costs.now c.args.standing.now
    (first + c.loop-right.right) (ap (λ j. says_stands (slice_index c.args.standing.now j)) here
    ∙ sym c.if-stands.ensures) in
    let room = room_next c.args.n c.args.costs.now c.args.standing.now c.args.out.now c.args.start
    first c.loop-right.right c.loop-right.at c.loop-right.out c.loop-right.invariant 1 c.args.n
    (omega arith) c.requires.room in
    omega (arith, ap length one, room, c.loop-right.auto.out)

pub loop-right-preserved : goal.loop-right-preserved
loop-right-preserved c =
    let n = c.args.n in
    let costs = c.args.costs.now in
    let standing = c.args.standing.now in
    let at = c.loop-right.at in
    let out = c.loop-right.out in
    let first = place_of n c.args.left 0 in
    let k = first + c.loop-right.right in
    let here : k ≡ c.place.result = omega (arith, c.place.ensures) in
    let byte : (b : Bool) → b ≡ says_stands (slice_index standing c.place.result)
    → says_stands (slice_index standing k) ≡ b =
    λ b e. ap (λ j. says_stands (slice_index standing j)) here ∙ sym e in
    let next = writes_next n costs standing c.args.out.now c.args.start first c.loop-right.right at
    out c.loop-right.invariant 1 (omega (arith, c.requires.room)) in
    elim c.if-stands.branch [
      | then-stands w ↦
          simp (w.out-is, w.at-is)
          (next (pair_field (pair_at n costs k))
          (sym (bytes_of_one n costs standing k (byte true w.if-stands.ensures)))
          (at + PAIR_FIELD) w.put_pair.new.out (omega arith)
          (w.put_pair.ensures ∙ ap (λ p. take at out ++ (pair_field p
          ++ drop (at + PAIR_FIELD) out))
          (w.pair_at.ensures ∙ ap (pair_at n costs) (sym c.place.ensures ∙ sym here))))
      | else-stands w ↦
          simp (w.out-is, w.at-is)
          (next [] (sym (bytes_of_none n costs standing k (byte false w.if-stands.ensures))) at out
          (omega arith) (sym (take-append-drop at out)))
    ]

pub returns : goal.returns
returns c =
    let all : c.loop-right.right ≡ c.args.n = omega arith in
    let w = rw all at c.loop-right.invariant in
    record { behind = w.behind; writes = w.writes }
