-- What is told of a loaded sheet is told of the order that the text states, and a refusal of the
-- text's first fault.
use Rattle.report.proofs.Described.{tells_loaded, tells_fault}
use Rattle.report.proofs.assignment_text.describe_text.Goals as goal

pub returns-in-Ok : goal.returns-in-Ok
returns-in-Ok c =
    tells_loaded c.import_afresh.ensures.verdict c.tell.result
    (rw c.in-Ok.is at c.in_ok-loaded.ensures.loaded) c.tell.ensures

pub returns-in-Err : goal.returns-in-Err
returns-in-Err c =
    tells_fault c.import_afresh.ensures.verdict c.refusal_line.result c.in-Err.fault
    (rw c.in-Err.is at c.in_ok-loaded.ensures.loaded) c.refusal_line.ensures
