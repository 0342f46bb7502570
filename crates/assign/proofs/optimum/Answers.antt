-- Usable tables make a sane grid, and what the search leaves in them is told by the grid.
use Rattle.std.proofs.Common.{sym, ◌∙◌, rules}
use Rattle.tables.specs.Lent.{lent}
use Rattle.assign.proofs.Solving.{HasRows, search_tables_of, answered}
use Rattle.assign.proofs.optimum.Goals as goal

pub solve-requires : goal.solve-requires
solve-requires g c =
    let t = lent c.args.n c.args.costs.now c.args.standing.now c.args.partners.now c.args.left.now
    c.args.right.now in
    let long = c.standing-rows.ensures.long in
    let given : HasRows g.K.Cost t c.standing-rows.result =
    record { usable = search rules; made = c.standing-rows.ensures.rows } in
    let lengths = given.usable.lengths in
    rw c.as_slice.ensures.rows (record {
      lent = search_tables_of long given;
      partnered = lengths.partners_long ∙ sym long;
      lefts = lengths.room.left_long ∙ sym long;
      rights = lengths.room.right_long ∙ sym long;
    })

pub returns : goal.returns
returns g c =
    let t = lent c.args.n c.args.costs.now c.args.standing.now c.args.partners.now c.args.left.now
    c.args.right.now in
    let given : HasRows g.K.Cost t c.standing-rows.result =
    record { usable = search rules; made = c.standing-rows.ensures.rows } in
    let new = c.solve.new in
    answered g.K.Cost t c.standing-rows.result c.standing-rows.ensures.long given
    g.met.K.Cost.laws.column_count new.partners new.left new.right c.solve.auto.partners
    c.solve.auto.left c.solve.auto.right c.solve.result
    (rw c.as_slice.ensures.rows at c.solve.ensures)
