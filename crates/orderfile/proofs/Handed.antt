-- What the field that was handed out tells of the bytes that it was cut from.
-- Idea: before the end, the fault, the record, the stage and the extent of a whole field are
-- defined by its tag and value, and those were handed out.
use Rattle.std.proofs.Common.{◌≡◌, ℕ, List, Some, refl, ap, ◌∙◌}
use Rattle.std.proofs.lemmas.Bool.{cond-false}
use Rattle.orderfile.specs.declared.record.Stage.{Stage}
use Rattle.orderfile.specs.declared.record.Stage.TheVariants.{Start, Sized, Ended}
use Rattle.orderfile.specs.Format.{tag_of, value_of, extent}
use Rattle.orderfile.specs.Faults.{IsHandedOut, record_fault, field_fault}
use Rattle.orderfile.specs.Records.{record_in, next_record, stage_after, stage_next, record_length}

-- the stage is before the end
abbrev pub IsOpen : Stage → Type 0
IsOpen stage = (n : ℕ) → stage ≡ Ended n → ⊥

module _ (rest : List ℕ) (at tag : ℕ) (value : List ℕ) (place : ℕ)
    (h : IsHandedOut rest at tag value place) where
  same_fault : (stage : Stage) → record_fault stage (tag_of rest) (value_of rest) at ≡ record_fault
      stage tag value place
  same_fault stage = rw (h.tag_is, h.value_is, h.place_is)

  same_record : record_in (tag_of rest) (value_of rest) ≡ record_in tag value
  same_record = rw (h.tag_is, h.value_is)

  pub handed_fault : (stage : Stage) → IsOpen stage → field_fault stage rest at ≡ record_fault stage
      tag value place
  handed_fault Start o = cond-false _ _ _ h.whole ∙ same_fault Start
  handed_fault (Sized n) o = cond-false _ _ _ h.whole ∙ same_fault (Sized n)
  handed_fault (Ended n) o = absurd (o n refl)

  pub handed_record : (stage : Stage) → IsOpen stage → next_record stage rest ≡ Some
      (record_in tag value)
  handed_record Start o = ap Some same_record
  handed_record (Sized n) o = ap Some same_record
  handed_record (Ended n) o = absurd (o n refl)

  pub handed_stage : (stage : Stage) → IsOpen stage → stage_next stage rest ≡ stage_after stage
      (record_in tag value)
  handed_stage Start o = ap (stage_after Start) same_record
  handed_stage (Sized n) o = ap (stage_after (Sized n)) same_record
  handed_stage (Ended n) o = absurd (o n refl)

pub open_passed : (stage : Stage) (rest : List ℕ) → IsOpen stage
    → record_length stage rest ≡ extent rest
open_passed Start rest o = refl
open_passed (Sized n) rest o = refl
open_passed (Ended n) rest o = absurd (o n refl)
