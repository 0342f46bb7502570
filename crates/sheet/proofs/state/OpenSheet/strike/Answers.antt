-- A pair that was found lies at its own place, and both tables are written there.
use Rattle.tables.proofs.Cells.{written}
use Rattle.sheet.proofs.state.OpenSheet.strike.Goals as goal

pub returns-clause-cells : goal.returns-clause-cells
returns-clause-cells g c =
    let found = c.in_ok-at.ensures.answers in
    let are = found.0.1.0 in
    rw c.zero.ensures (written g.K.Cost.zero c.args.self.now.size c.args.costs.now
    c.args.standing.now c.args.left c.args.right found.0.0 are.left_below are.right_below 0
    g.K.Cost.zero _ found.1)
