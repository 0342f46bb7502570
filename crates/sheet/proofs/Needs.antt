-- What is known of a call's needs.
-- Idea: by recursion over the needs, which of them is the first that is not met.
use Rattle.std.proofs.Common.{inl, inr}
use Rattle.sheet.specs.declared.fault.Fault.{Fault}
use Rattle.sheet.specs.Needs.{Needs, need, nothing, AreMet, IsFirstUnmet}

-- where all are met, none is the first that is not
pub met_or_not : (needs : Needs) (f : Fault) → AreMet needs → IsFirstUnmet needs f → ⊥
met_or_not nothing f met unmet = unmet
met_or_not (need Need cause more) f met (inl unmet) = unmet.0 met.0
met_or_not (need Need cause more) f met (inr unmet) = met_or_not more f met.1 unmet.1
