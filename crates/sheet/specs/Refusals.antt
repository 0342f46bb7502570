-- Refusals: the checks of a call in their order, and what a refused call answers and leaves.
use Rattle.std.specs.Prelude.{ℕ, Bool, not, List, [], ◌∷◌, ◌++◌, codes, decimal, Some, None}
use Rattle.std.specs.Prelude.{Ok, Err, Option, Result, ◌==◌, if◌then◌else◌}
use Rattle.tables.specs.declared.flaw.Flaw.{Flaw}
use Rattle.tables.specs.declared.flaw.Flaw.TheVariants.{Size as TooMany, Length, Order}
use Rattle.sheet.specs.declared.fault.Cause.{Cause}
use Rattle.sheet.specs.declared.fault.Cause.TheVariants.{Size, TableLength, Inconsistent}
use Rattle.sheet.specs.declared.fault.Fault.{Fault}
use Rattle.sheet.specs.Numbers.{cause_number, layer_number, layer_of}

-- the refusal for a cause at a place; the cause tells the layer
abbrev pub fault : Cause → ℕ → Fault
fault cause place = record { cause = cause; place = place; layer = layer_of cause }

-- the cause that a flaw of lent tables stands for
abbrev pub flaw_cause : Flaw → Cause
flaw_cause TooMany = Size
flaw_cause Length = TableLength
flaw_cause Order = Inconsistent

-- what tells a refusal: `refused NUMBER at PLACE layer LAYER`
abbrev pub refusal_text : Fault → List ℕ
refusal_text f = codes "refused "
    ++ (decimal (cause_number f.cause)
    ++ (codes " at " ++ (decimal f.place ++ (codes " layer " ++ decimal (layer_number f.layer)))))

-- the checks of a call, in order: the first that holds refuses
abbrev pub first_of : List (Bool × Fault) → Option Fault
first_of [] = None
first_of (check ∷ checks) = (if check.0 then Some check.1 else first_of checks)

-- two numbers differ
abbrev pub differ : ℕ → ℕ → Bool
differ a b = not (a == b)

-- the answer of a call: a refusal if there is one, else r
abbrev pub answer : {R : Type 0} → Option Fault → R → Result R Fault
answer None r = Ok r
answer (Some f) r = Err f

-- what a table holds after a call: as it was on a refusal, else its new contents
abbrev pub after : {X : Type 0} → Option Fault → X → X → X
after None old new = new
after (Some f) old new = old
