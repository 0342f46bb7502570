-- The numbers that the C calls answer; those of a step are crate matching's.
use Rattle.std.specs.Prelude.{ℕ, Ok, Err, Result}
use Rattle.tables.specs.declared.flaw.Flaw.{Flaw}
use Rattle.assign.specs.declared.Outcome.{Outcome}
use Rattle.assign.specs.declared.Outcome.TheVariants.{Optimal, Unmatched}
use Rattle.sheet.specs.Numbers.{cause_number}
use Rattle.sheet.specs.declared.fault.Fault.{Fault}

-- pairing by cost: 0 where the call is done, 1 where no pairing is perfect or the tables are
-- refused
abbrev pub outcome_code : Result Outcome Flaw → ℕ
outcome_code (Ok Optimal) = 0
outcome_code (Ok (Unmatched s)) = 1
outcome_code (Err flaw) = 1

-- an order file and its sheet: 0 where the call is done, else the number of the cause
abbrev pub fault_number : {A : Type 0} → Result A Fault → ℕ
fault_number (Ok done) = 0
fault_number (Err f) = cause_number f.cause
