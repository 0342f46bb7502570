-- One place more; at the end all places that both tables have are passed.
use Rattle.std.specs.Prelude.{◌≡◌, ◌<◌, not, ◌&&◌, slice_index, slice_index_or, zip}
use Rattle.std.specs.List.{list_all}
use Rattle.std.proofs.Common.{sym, ap, ap₂, ◌∙◌, arith}
use Rattle.std.proofs.lemmas.List.{get_or-take, length-take, take_all}
use Rattle.std.proofs.lemmas.List.Folds.{list_all_more}
use Rattle.std.proofs.lemmas.Slice.Zip.{get_or-zip, length-zip}
use mir.Val.{bool_byte}
use lib.Bits.{bit_and, bit_or}
use Rattle.cost.specs.declared.TheConstants.{COST_LIMIT}
use Rattle.cost.specs.Columns.{within}
use Rattle.tables.specs.PairTables.{is_place_in_order}
use Rattle.tables.proofs.Gathering.{faultless, gathered}
use Rattle.tables.proofs.pair_tables.in_order.Goals as goal

pub loop-k-preserved : goal.loop-k-preserved
loop-k-preserved g c =
    let meaning = g.K.Cost.meaning in
    let costs = c.args.costs.now in
    let standing = c.args.standing.now in
    let shared = c.min-shared.result in
    let k = c.loop-k.k in
    let in_shared : k < shared = omega (arith, length-take shared standing) in
    let byte = slice_index standing k in
    let cost = c.index-costs-k.result in
    let fine = within COST_LIMIT (meaning (slice_index_or costs k cost)) in
    let read : c.from-byte.result ≡ byte =
    c.from-byte.ensures ∙ get_or-take shared standing k 0 in_shared in
    let fault : c.from.result ≡ bool_byte (not fine) =
    c.from.ensures ∙ ap (λ b. bool_byte (not b))
    (c.within.ensures ∙ ap (λ x. within COST_LIMIT (meaning x)) c.index-costs-k.is) in
    ap₂ (λ b x. faultless (bit_or c.loop-k.seen b) (bit_or c.loop-k.faults (bit_and b x))) read
    fault
    ∙ gathered c.loop-k.seen c.loop-k.faults byte fine
    ∙ ap₂ (λ x y. x && y) c.loop-k.invariant
    (sym (ap (λ place. is_place_in_order (meaning place.0) place.1)
    (get_or-zip costs standing k (cost, 0) (omega arith) (omega arith))))
    ∙ sym (list_all_more (λ place. is_place_in_order (meaning place.0) place.1)
    (zip costs standing) k (cost, 0) (omega (arith, length-zip costs standing)))

pub returns : goal.returns
returns g c = c.loop-k.invariant
    ∙ ap (list_all (λ place. is_place_in_order (g.K.Cost.meaning place.0) place.1))
    (take_all c.loop-k.k (zip c.args.costs.now c.args.standing.now)
    (omega (
      arith,
      length-zip c.args.costs.now c.args.standing.now,
      length-take c.min-shared.result c.args.standing.now,
    )))
