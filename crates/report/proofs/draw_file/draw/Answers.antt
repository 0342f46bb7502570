-- What is told of a loaded sheet is told of the order that the file states, and a refusal of the
-- file's first fault.
use Rattle.std.proofs.Common.{string_bytes}
use Rattle.orderfile.specs.Loading.{plain_grid, stated_cost, stated_grid}
use Rattle.orderfile.proofs.Verdicts.{verdict_order, verdict_fault}
use Rattle.refusal_words.specs.Words.{explanation}
use Rattle.report.specs.Text.{pair_cost}
use Rattle.report.specs.Drawing.{IsMap}
use Rattle.report.proofs.Described.{reports_loaded, reports_fault}
use Rattle.report.proofs.Drawn.{map_loaded}
use Rattle.report.proofs.draw_file.draw.Goals as goal

pub returns-in-Ok : goal.returns-in-Ok
returns-in-Ok c =
    let sheet = c.in-Ok.loaded in
    let costs = sheet.costs.items in
    let standing = sheet.standing.items in
    let loaded = rw c.in-Ok.is at c.in_ok-loaded.ensures in
    reports_loaded (verdict_order c.args.file.now loaded.order loaded.states)
    (λ order. IsMap (stated_cost order.pairs) (stated_grid order)) explanation string_bytes
    c.draw_sheet.result loaded
    (IsMap (pair_cost sheet.sheet.size costs standing)
    (plain_grid sheet.sheet.size costs standing))
    (map_loaded loaded) c.draw_sheet.ensures

pub returns-in-Err : goal.returns-in-Err
returns-in-Err c =
    let first = rw c.in-Err.is at c.in_ok-loaded.ensures in
    reports_fault (verdict_fault c.args.file.now c.in-Err.fault first)
    (λ order. IsMap (stated_cost order.pairs) (stated_grid order)) explanation string_bytes
    c.explain.result c.in-Err.fault first c.explain.ensures
