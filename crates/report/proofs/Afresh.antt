-- What loading into fresh tables comes to, in any format.
-- Idea: fresh tables have a place for each pair of the size that was checked, which is that of the
-- order that the bytes state. So loading is not refused for the tables, and a refusal is for the
-- first fault.
use Rattle.std.proofs.Common.{◌≡◌, ℕ, List, ◌++◌, length, take, Ok, Err, subst, ⊎_elim}
use Rattle.std.proofs.lemmas.List.{take_at}
use Rattle.cost.specs.declared.plain_kind.Plain.{Plain}
use Rattle.sheet.specs.declared.fault.Fault.{Fault}
use Rattle.tables.specs.PairTables.{HavePlaces}
use Rattle.orderfile.specs.Format.{StatedOrder}
use Rattle.orderfile.specs.Loading.{IsChecked, Loads}
use Rattle.orderfile.proofs.LoadedGrid.{loaded_ok, loaded_err}
use Rattle.report.specs.Afresh.{IsLoaded}
use Rattle.report.specs.declared.fresh_tables.LoadedSheet.{LoadedSheet}

module _ {S : StatedOrder → Type 0} {F : Fault → Type 0} {costs : List Plain} {standing : List ℕ}
    {costs' : List Plain} {standing' : List ℕ} where
  -- the sheet's tables are the loaded ones, whatever stands behind these
  pub sheet_loaded : (loaded : LoadedSheet) (more : List Plain) (others : List ℕ) (k m : ℕ)
      → Loads S F costs standing (Ok loaded.sheet) costs' standing'
      → length costs' ≡ k → length standing' ≡ m
      → loaded.costs.items ≡ take k (costs' ++ more)
      → loaded.standing.items ≡ take m (standing' ++ others)
      → IsLoaded S loaded
  sheet_loaded loaded more others k m h long as_long ec es =
      let o = loaded_ok h in
      record {
        order = o.0;
        states = o.1;
        size = o.3;
        accepted =
            rw (ec, es, take_at costs' more k long, take_at standing' others m as_long) o.4;
      }

  pub fault_loaded : {n : ℕ} {f : Fault} → IsChecked S F (Ok n)
      → HavePlaces n (length costs) (length standing)
      → Loads S F costs standing (Err f) costs' standing' → F f
  fault_loaded {n = n} checked have h =
      ⊎_elim (λ first. first)
      (λ misfit. absurd (misfit.2
      (let e = checked.states misfit.0 misfit.1 in
      let same : n ≡ misfit.0.size = cc in
      subst (λ (k : ℕ). HavePlaces k (length costs) (length standing)) same have)))
      (loaded_err h).0
