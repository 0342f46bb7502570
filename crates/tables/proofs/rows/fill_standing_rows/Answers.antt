-- One row more, made from its part of the table.
use Rattle.std.proofs.Common.{◌≡◌, ◌<◌, ap, ◌∙◌, subst, arith, length, slice_index}
use Rattle.pairing.specs.Places.{rights_of}
use Rattle.tables.specs.PairTables.{byte_of, says_stands}
use Rattle.tables.specs.PairRows.{HoldsPassing}
use Rattle.tables.proofs.Filling.{row_made, passing_like, part_at, length-part_of}
use Rattle.tables.proofs.rows.fill_standing_rows.Goals as goal

pub loop-l-preserved : goal.loop-l-preserved
loop-l-preserved c =
    let n = c.args.n in
    let l = c.loop-l.l in
    let table = c.args.standing.now in
    let part = c.part_of.result.now in
    let inside : l < n = omega arith in
    let in_rows : l < length c.loop-l.rows = omega arith in
    let long : length part ≡ rights_of n =
    ap length c.part_of.ensures ∙ length-part_of n l table inside c.requires.long in
    row_made (rights_of n) l (λ k r. says_stands (byte_of n table k r)) c.loop-l.rows
    c.standing_row.result in_rows c.loop-l.invariant
    (passing_like (rights_of n) (λ r. says_stands (slice_index part r))
    (λ r. says_stands (byte_of n table l r)) c.standing_row.result
    (λ r i. ap says_stands (ap (λ xs. slice_index xs r) c.part_of.ensures
    ∙ part_at n l table inside c.requires.long r 0 i))
    (subst (λ k. HoldsPassing k (λ r. says_stands (slice_index part r)) c.standing_row.result) long
    c.standing_row.ensures))
