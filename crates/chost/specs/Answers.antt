-- What the two calls for a host in C answer, and what they leave in the buffer, at every input.
use Rattle.std.specs.Prelude.{◌≡◌, ℕ, ◌≤◌, List, length, take, drop, Ok, Err, Result}
use Rattle.std.specs.Prelude.{MatchResult}
use Rattle.pairing.specs.Grid.{Grid, IsPerfectIn, IsOptimum}
use Rattle.pairing.specs.Optima.{optima}
use Rattle.pairing.specs.Places.{places_of}
use Rattle.matching.specs.Answers.{IsNth, Follows}
use Rattle.matching.specs.Numbers.{step_number}
use Rattle.matching.specs.declared.stepping.Step.{Step}
use Rattle.matching.specs.declared.stepping.Step.TheVariants.{Next}
use Rattle.sheet.specs.Needs.{Needs, need, nothing, Responds}
use Rattle.sheet.specs.Numbers.{cause_number}
use Rattle.sheet.specs.Refusals.{fault}
use Rattle.sheet.specs.declared.fault.Cause.TheVariants.{NoPerfectPairing, Inconsistent}
use Rattle.sheet.specs.declared.fault.Cause.TheVariants.{ShortBuffer}
use Rattle.sheet.specs.declared.fault.Fault.{Fault}
use Rattle.orderfile.specs.Faults.{FirstFault}
use Rattle.orderfile.specs.Format.{StatedOrder, States}
use Rattle.orderfile.specs.Loading.{HasOneVerdict, stated_grid}
use Rattle.chost.specs.declared.answering.HostCall.{HostCall}
use Rattle.chost.specs.declared.answering.HostCall.TheVariants.{First, After}

module _ (g : Grid) (out : List ℕ) where
  -- a buffer with a byte for each left block, and a perfect pairing
  abbrev pub settling_needs : Needs → Needs
  settling_needs more = need (g.size ≤ length out) ShortBuffer
      (need ((p : List ℕ) × IsPerfectIn g p) NoPerfectPairing more)

  -- and, for the pairing that follows one, an optimum pairing at the front of the buffer
  abbrev pub call_needs : HostCall → Needs
  call_needs First = settling_needs nothing
  call_needs After = settling_needs (need (IsOptimum g (take g.size out)) Inconsistent nothing)

  -- the front of the buffer is the first of all optimum pairings; or the one that follows it in
  -- dictionary order, and at the last one, where the step is the end, it stays
  abbrev pub Writes : HostCall → (out' : List ℕ) → Step → Type 0
  Writes First out' step = (step ≡ Next) × IsNth (optima g) 0 (take g.size out')
  Writes After out' step = Follows (optima g) (take g.size out) (take g.size out') step

  -- the bytes behind it stay
  pub record IsWritten (call : HostCall) (out' : List ℕ) (step : Step) : Type 0 where
    pub written : Writes call out' step
    pub behind : drop g.size out' ≡ drop g.size out
    pub long : length out' ≡ length out

-- the call for the pairing that follows one, on a sheet that is settled
abbrev pub StepsOn : Grid → (out : List ℕ) → Result Step Fault → (out' : List ℕ) → Type 0
StepsOn g out answer out' = MatchResult answer
    (λ step. IsOptimum g (take g.size out) × IsWritten g out After out' step)
    (λ f. (IsOptimum g (take g.size out) → ⊥) × (f ≡ fault Inconsistent 0) × (out' ≡ out))

-- a call is refused for the file's first fault; else, on the sheet that the file states, for the
-- first need that is not met; or it is done. On a refusal the buffer is as it was
pub record AnswersHost (call : HostCall) (file out : List ℕ) (answer : Result Step Fault)
    (out' : List ℕ) : Type 0 where
  pub verdict : HasOneVerdict (States file) (FirstFault file)
  pub faulty : (f : Fault) → FirstFault file f → (answer ≡ Err f) × (out' ≡ out)
  pub states : (order : StatedOrder) → States file order → let g = stated_grid order in
      Responds (call_needs g out call) answer (IsWritten g out call out') (out' ≡ out)

-- what a host is told: 0 where a pairing was written, 100 at the end, else the refusal's number
abbrev pub host_number : Result Step Fault → ℕ
host_number (Ok step) = step_number step
host_number (Err f) = cause_number f.cause

abbrev pub TellsHost : HostCall → (file out : List ℕ) → ℕ → (out' : List ℕ) → Type 0
TellsHost call file out number out' = (answer : Result Step Fault) × (number ≡ host_number answer)
    × AnswersHost call file out answer out'

-- tables with a place for all that a sheet of n blocks a plane and a call on it need
pub record HasRoomFor (n costs standing partners left right list out : ℕ) : Type 0 where
  pub costs_long : costs ≡ places_of n
  pub standing_long : standing ≡ places_of n
  pub partners_long : partners ≡ n
  pub left_long : left ≡ n
  pub right_long : right ≡ n
  pub list_long : list ≡ n
  pub out_room : n ≤ out
