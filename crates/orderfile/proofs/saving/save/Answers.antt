-- Each refusal is the first check that holds; past them the file of the listed pairs is written.
use Rattle.std.proofs.Common.{◌≡◌, ℕ, Bool, true, false, not, ◌++◌, length, drop, Ok}
use Rattle.std.proofs.Common.{Err, sym, refl, ap, ◌∙◌, lt-ltb, le-ltb, arith}
use Rattle.orderfile.specs.Format.{file_of}
use Rattle.tables.specs.PairTables.{have_places}
use Rattle.pairing.specs.Places.{places_of}
use Rattle.tables.proofs.Lengths.{places_told}
use Rattle.orderfile.specs.Saving.{saved_length, HoldsFile, pairs_listed}
use Rattle.orderfile.proofs.Listed.{names_all}
use Rattle.orderfile.proofs.Saves.{file_length, listed_length, saved, not_saved, refusal_is}
use Rattle.orderfile.proofs.saving.save.Goals as goal

-- the test was made at the size that the sheet has
fit_is : (m n costs bytes : ℕ) (b : Bool) → m ≡ n → b ≡ have_places m costs bytes
    → have_places n costs bytes ≡ b
fit_is m n costs bytes b e t = ap (λ k. have_places k costs bytes) (sym e) ∙ sym t

pub returns-then-not-have_places : goal.returns-then-not-have_places
returns-then-not-have_places c =
    not_saved c.args.sheet.now.size c.size-n.ensures.range.some c.size-n.ensures.range.few
    c.args.costs.now c.args.standing.now c.args.out.now _ _ _
    (refusal_is _ _ _ _ true _ _
    (ap not (fit_is _ _ _ _ _ c.size-n.ensures.value c.if-not-have_places.ensures)) refl refl)
    (ap Err c.at.ensures) refl

pub returns-then-not-in_order : goal.returns-then-not-in_order
returns-then-not-in_order c =
    not_saved c.args.sheet.now.size c.size-n.ensures.range.some c.size-n.ensures.range.few
    c.args.costs.now c.args.standing.now c.args.out.now _ _ _
    (refusal_is _ _ _ _ false true _
    (ap not (fit_is _ _ _ _ _ c.size-n.ensures.value c.if-not-have_places.ensures))
    (ap not (sym c.if-not-in_order.ensures)) refl)
    (ap Err c.at-then-not-in_order.ensures) refl

pub returns-then-out-length : goal.returns-then-out-length
returns-then-out-length c =
    not_saved c.args.sheet.now.size c.size-n.ensures.range.some c.size-n.ensures.range.few
    c.args.costs.now c.args.standing.now c.args.out.now _ _ _
    (refusal_is _ _ _ _ false false true
    (ap not (fit_is _ _ _ _ _ c.size-n.ensures.value c.if-not-have_places.ensures))
    (ap not (sym c.if-not-in_order.ensures))
    (lt-ltb _ _ (omega (arith, c.if-out-length.true, c.standing_pairs.ensures.value))))
    (ap Err c.at-then-out-length.ensures) refl

pub returns : goal.returns
returns c =
    let n = c.args.sheet.now.size in
    let costs = c.args.costs.now in
    let standing = c.args.standing.now in
    let out = c.args.out.now in
    let some = c.size-n.ensures.range.some in
    let fit = fit_is _ _ _ _ _ c.size-n.ensures.value c.if-not-have_places.ensures in
    let long = places_told n (length costs) (length standing) fit in
    let good = sym c.if-not-in_order.ensures in
    let pairs = pairs_listed n costs standing 0 (places_of n) in
    let wrote : HoldsFile n costs standing out c.write_file.new.out = record {
      pairs = pairs;
      names = names_all n some costs standing long.costs long.standing good;
      long = file_length n pairs
          ∙ omega (arith, listed_length n costs standing long.standing);
      file = c.write_file.ensures
          ∙ ap (λ k. file_of
          (record { size = k; pairs = pairs_listed k costs standing 0 (places_of k) })
          ++ drop (saved_length standing) out) c.size-n.ensures.value;
    } in
    let length_is = c.standing_pairs.ensures.value in
    saved n some c.size-n.ensures.range.few costs standing out _ _
    (refusal_is n costs standing (length out) false false false (ap not fit) (ap not good)
    (le-ltb _ _ (omega (arith, c.if-out-length.false, length_is))))
    (ap Ok (omega (arith, length_is))) wrote
