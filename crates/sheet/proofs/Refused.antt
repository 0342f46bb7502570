-- What a call answers and leaves, once it is known whether its checks refuse.
-- Idea: `answer` and `after` only look at whether there is a refusal.
use Rattle.std.proofs.Common.{◌≡◌, Bool, true, false, cond, Some, None, Ok, Err, Option, sym, refl}
use Rattle.std.proofs.Common.{ap}
use Rattle.sheet.specs.declared.fault.Fault.{Fault}
use Rattle.sheet.specs.Refusals.{answer, after}

module _ (checks : Option Fault) where
  pub refused : {R : Type 0} (f : Fault) (r : R) → checks ≡ Some f → Err f ≡ answer checks r
  refused f r e = sym (ap (λ o. answer o r) e)

  pub kept : {X : Type 0} (f : Fault) (old new : X) → checks ≡ Some f → old ≡ after checks old new
  kept f old new e = sym (ap (λ o. after o old new) e)

  pub accepted : {R : Type 0} (r : R) → checks ≡ None → Ok r ≡ answer checks r
  accepted r e = sym (ap (λ o. answer o r) e)

  pub renewed : {X : Type 0} (old new : X) → checks ≡ None → new ≡ after checks old new
  renewed old new e = sym (ap (λ o. after o old new) e)

-- what an answer tells of the checks
pub from_err : {R : Type 0} (checks : Option Fault) (r : R) (f : Fault) → Err f ≡ answer checks r
    → checks ≡ Some f
from_err None r f e = cc
from_err (Some h) r f e = cc

pub from_ok : {R : Type 0} (checks : Option Fault) (r x : R) → Ok x ≡ answer checks r
    → (checks ≡ None) × (x ≡ r)
from_ok None r x e = (refl, cc)
from_ok (Some h) r x e = cc

-- what no refusal tells of a check
pub cleared : (b : Bool) (f : Fault) (checks : Option Fault) → cond b (Some f) checks ≡ None
    → (b ≡ false) × (checks ≡ None)
cleared true f checks e = cc
cleared false f checks e = (refl, e)

pub required : (b : Bool) (f : Fault) (checks : Option Fault) → cond b checks (Some f) ≡ None
    → (b ≡ true) × (checks ≡ None)
required true f checks e = (refl, e)
required false f checks e = cc
