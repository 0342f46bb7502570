-- A fault that `check` finds is the first of the text; `open` then refuses tables of the wrong
-- length only; and the pairs go into the blank tables.
use Rattle.std.proofs.Common.{Err, ap, ◌∙◌}
use Rattle.std.proofs.lemmas.Result.{err_from_is_err_and}
use Rattle.orderfile.proofs.Ends.{checked_ok, blank_have, loaded_faulty, loaded_misfit, loaded}
use Rattle.dimacs.proofs.Runs.{stated_fits}
use Rattle.dimacs.proofs.importing.import.Goals as goal

pub returns-in_err-n : goal.returns-in_err-n
returns-in_err-n c =
    let p = err_from_is_err_and c.from_residual.result c.from_residual.ensures.1 in
    loaded_faulty c.in_err-n.ensures (p.1 ∙ ap Err p.2)

pub returns-in_err-sheet : goal.returns-in_err-sheet
returns-in_err-sheet c =
    let p = err_from_is_err_and c.from_residual-in_err-sheet.result
    c.from_residual-in_err-sheet.ensures.1 in
    loaded_misfit (stated_fits c.args.text.now) c.in_ok-n.ensures c.in_err-sheet.ensures.call
    (p.1 ∙ ap Err p.2)

pub enter_all-requires : goal.enter_all-requires
enter_all-requires c = record {
  stated = checked_ok c.in_ok-n.ensures;
  places = blank_have c.in_ok-sheet.ensures.call.1.1;
}

pub returns : goal.returns
returns c =
    loaded (stated_fits c.args.text.now) c.in_ok-n.ensures c.in_ok-sheet.ensures.call
    c.enter_all.ensures
