-- What is told of a loaded sheet is told of the order that the file states, and a refusal of the
-- file's first fault.
use Rattle.orderfile.proofs.Verdicts.{verdict_order, verdict_fault}
use Rattle.report.proofs.Described.{tells_loaded, tells_fault}
use Rattle.report.proofs.describe_file.describe.Goals as goal

pub returns-in-Ok : goal.returns-in-Ok
returns-in-Ok c =
    let loaded = rw c.in-Ok.is at c.in_ok-loaded.ensures in
    tells_loaded (verdict_order c.args.file.now loaded.order loaded.states) c.tell.result loaded
    c.tell.ensures

pub returns-in-Err : goal.returns-in-Err
returns-in-Err c =
    let first = rw c.in-Err.is at c.in_ok-loaded.ensures in
    tells_fault (verdict_fault c.args.file.now c.in-Err.fault first) c.refusal_line.result
    c.in-Err.fault first c.refusal_line.ensures
