-- What a call needs, in the order in which it is tested: the first need that is not met refuses it.
use Rattle.std.specs.Prelude.{◌≡◌, ◌⊎◌, Result, MatchResult}
use Rattle.sheet.specs.declared.fault.Cause.{Cause}
use Rattle.sheet.specs.declared.fault.Fault.{Fault}
use Rattle.sheet.specs.Refusals.{fault}

-- each need with the cause of its refusal
pub data Needs : Type 1 where
  nothing : Needs
  need : Type 0 → Cause → Needs → Needs

-- all of them are met
abbrev pub AreMet : Needs → Type 0
AreMet nothing = Unit {0}
AreMet (need Need cause more) = Need × AreMet more

-- the refusal is for the first that is not met
abbrev pub IsFirstUnmet : Needs → Fault → Type 0
IsFirstUnmet nothing f = ⊥
IsFirstUnmet (need Need cause more) f =
    ((Need → ⊥) × (f ≡ fault cause 0)) ⊎ (Need × IsFirstUnmet more f)

-- the call is done, and all of its needs are met; or it is refused for the first that is not met,
-- and leaves things as they were
abbrev pub Responds : {R : Type 0} → Needs → Result R Fault → (Done : R → Type 0) → (Kept : Type 0)
    → Type 0
Responds needs answer Done Kept =
    MatchResult answer (λ x. AreMet needs × Done x) (λ f. IsFirstUnmet needs f × Kept)
