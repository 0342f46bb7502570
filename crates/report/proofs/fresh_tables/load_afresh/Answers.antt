-- Fresh tables have the right lengths, so a refusal is the file's first fault.
use Rattle.std.proofs.Common.{refl, ◌∙◌}
use Rattle.orderfile.proofs.Ends.{checked_err}
use Rattle.report.proofs.Afresh.{sheet_loaded, fault_loaded}
use Rattle.report.proofs.fresh_tables.load_afresh.Goals as goal

pub returns-in-Err : goal.returns-in-Err
returns-in-Err c = checked_err c.in-Err.ensures

pub returns-in-Ok-load : goal.returns-in-Ok-load
returns-in-Ok-load c =
    sheet_loaded _ _ _ _ _ c.in-Ok-load.ensures
    (c.load.auto.costs ∙ c.as_mut_slice.ensures.len)
    (c.load.auto.standing ∙ c.as_mut_slice-2.ensures.len) refl refl

pub returns-in-Err-load : goal.returns-in-Err-load
returns-in-Err-load c =
    fault_loaded c.in-Ok.ensures
    (record {
      costs = c.as_mut_slice.ensures.len ∙ c.in_ok-costs.ensures.len ∙ c.places.ensures;
      standing = c.as_mut_slice-2.ensures.len ∙ c.in_ok-standing.ensures.len ∙ c.places-2.ensures;
    })
    c.in-Err-load.ensures
