-- Fresh tables have the right lengths, so a refusal is the text's first fault.
use Rattle.std.proofs.Common.{refl, ◌∙◌}
use Rattle.orderfile.proofs.Ends.{checked_err}
use Rattle.report.proofs.Afresh.{sheet_loaded, fault_loaded}
use Rattle.report.proofs.fresh_tables.import_afresh.Goals as goal

pub returns-in-Err-clause-loaded : goal.returns-in-Err-clause-loaded
returns-in-Err-clause-loaded c = checked_err c.in-Err.ensures

pub returns-in-Ok-import-clause-loaded : goal.returns-in-Ok-import-clause-loaded
returns-in-Ok-import-clause-loaded c =
    sheet_loaded _ _ _ _ _ c.in-Ok-import.ensures
    (c.import.auto.costs ∙ c.as_mut_slice.ensures.len)
    (c.import.auto.standing ∙ c.as_mut_slice-2.ensures.len) refl refl

pub returns-in-Err-import-clause-loaded : goal.returns-in-Err-import-clause-loaded
returns-in-Err-import-clause-loaded c =
    fault_loaded c.in-Ok.ensures
    (record {
      costs = c.as_mut_slice.ensures.len ∙ c.in_ok-costs.ensures.len ∙ c.places.ensures;
      standing = c.as_mut_slice-2.ensures.len ∙ c.in_ok-standing.ensures.len ∙ c.places-2.ensures;
    })
    c.in-Err-import.ensures
