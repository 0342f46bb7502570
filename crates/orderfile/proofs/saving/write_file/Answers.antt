-- The three writes make the file, and the length of its parts is the saved length, so that there is
-- room.
use Rattle.std.proofs.Common.{◌≡◌, ◌+◌, ◌++◌, take, drop, ap, ◌∙◌, append_assoc, arith}
use Rattle.std.proofs.lemmas.List.{length-append}
use Rattle.std.specs.List.{flat_map}
use Rattle.pairing.specs.Places.{places_of}
use Rattle.orderfile.specs.declared.format.TheConstants.{SIZE_FIELD, END_FIELD}
use Rattle.orderfile.specs.Format.{pair_field, size_field, end_field}
use Rattle.orderfile.specs.Saving.{saved_length, pairs_listed}
use Rattle.orderfile.proofs.Buffer.{put_next}
use Rattle.orderfile.proofs.Saves.{listed_length}
use Rattle.orderfile.proofs.saving.write_file.Goals as goal

pub write_pairs-at-requires : goal.write_pairs-at-requires
write_pairs-at-requires c =
    let long = listed_length c.args.n c.args.costs.now c.args.standing.now
    c.requires.places.standing in
    record {
      some = c.requires.some;
      few = c.requires.few;
      places = c.requires.places;
      room = omega (arith, long, c.requires.room, c.put.auto.out);
    }

pub put-requires-2 : goal.put-requires-2
put-requires-2 c =
    let long = listed_length c.args.n c.args.costs.now c.args.standing.now
    c.requires.places.standing in
    omega (
      arith,
      long,
      c.requires.room,
      c.put.auto.out,
      c.write_pairs-at.ensures.behind,
      c.write_pairs-at.auto.out,
    )

pub returns : goal.returns
returns c =
    let n = c.args.n in
    let out = c.args.out.now in
    let at = c.write_pairs-at.result in
    let size = size_field n in
    let pairs =
    flat_map pair_field (pairs_listed n c.args.costs.now c.args.standing.now 0 (places_of n)) in
    let two = put_next size pairs out c.put.new.out c.write_pairs-at.new.out 0 SIZE_FIELD at
    (omega arith) c.put.ensures (omega arith)
    (c.write_pairs-at.ensures.writes
    ∙ append_assoc (take SIZE_FIELD c.put.new.out) pairs (drop at c.put.new.out))
    c.write_pairs-at.ensures.behind in
    let three = put_next (size ++ pairs) end_field out c.write_pairs-at.new.out c.put-2.new.out 0 at
    (at + END_FIELD) (omega arith) two
    (omega (arith, length-append size pairs, c.write_pairs-at.ensures.behind)) c.put-2.ensures
    (omega arith) in
    let long : at + END_FIELD ≡ saved_length c.args.standing.now =
    omega (
      arith,
      c.write_pairs-at.ensures.behind,
      listed_length n c.args.costs.now c.args.standing.now c.requires.places.standing,
    ) in
    three ∙ ap (λ t. t ++ drop (at + END_FIELD) out) (append_assoc size pairs end_field)
    ∙ ap (λ k. (size ++ (pairs ++ end_field)) ++ drop k out) long
