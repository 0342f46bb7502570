-- What is told of a loaded sheet is told of the order that the file states, and a refusal of the
-- file's first fault.
use Rattle.std.proofs.Common.{◌≡◌, string_bytes, ◌∙◌}
use Rattle.orderfile.specs.Loading.{plain_grid, stated_grid}
use Rattle.orderfile.proofs.Verdicts.{verdict_order, verdict_fault}
use Rattle.report.specs.Listing.{cause_line, listing_text}
use Rattle.report.proofs.Described.{reports_loaded, reports_fault}
use Rattle.report.proofs.Listed.{listing_loaded}
use Rattle.report.proofs.list_file.list.Goals as goal

pub returns-in-Ok : goal.returns-in-Ok
returns-in-Ok c =
    let sheet = c.in-Ok.loaded in
    let costs = sheet.costs.items in
    let standing = sheet.standing.items in
    let loaded = rw c.in-Ok.is at c.in_ok-loaded.ensures in
    reports_loaded (verdict_order c.args.file.now loaded.order loaded.states)
    (λ order text. text ≡ listing_text (stated_grid order)) (λ f. cause_line f.cause) string_bytes
    c.list_sheet.result loaded
    (λ text. text ≡ listing_text (plain_grid sheet.sheet.size costs standing))
    (λ text e. e ∙ listing_loaded loaded) c.list_sheet.ensures

pub returns-in-Err : goal.returns-in-Err
returns-in-Err c =
    let first = rw c.in-Err.is at c.in_ok-loaded.ensures in
    reports_fault (verdict_fault c.args.file.now c.in-Err.fault first)
    (λ order text. text ≡ listing_text (stated_grid order)) (λ f. cause_line f.cause) string_bytes
    c.cause_line.result c.in-Err.fault first c.cause_line.ensures
