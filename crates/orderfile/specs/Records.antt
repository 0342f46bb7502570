-- What a field without a fault states, and how far the file is read behind it.
use Rattle.std.specs.Prelude.{◌≡◌, ℕ, ◌+◌, List, drop, Some, None, Option, Result}
use Rattle.std.specs.Prelude.{◌==◌, if◌then◌else◌, slice_index}
use Rattle.sheet.specs.Refusals.{answer, after}
use Rattle.sheet.specs.declared.fault.Fault.{Fault}
use Rattle.orderfile.specs.declared.format.TheConstants.{SIZE_TAG, PAIR_TAG}
use Rattle.orderfile.specs.declared.record.Record.{Record}
use Rattle.orderfile.specs.declared.record.Record.TheVariants.{Size, Pair, End}
use Rattle.orderfile.specs.declared.record.Stage.{Stage}
use Rattle.orderfile.specs.declared.record.Stage.TheVariants.{Start, Sized, Ended}
use Rattle.orderfile.specs.Faults.{field_fault}
use Rattle.orderfile.specs.Format.{tag_of, value_of, extent, pair_in}

abbrev pub size_in : List ℕ → ℕ
size_in value = slice_index value 0

-- what a field with this tag and value states
abbrev pub record_in : ℕ → List ℕ → Record
record_in tag value = (if tag == SIZE_TAG then Size (size_in value) else
    (if tag == PAIR_TAG then Pair (pair_in value) else End))

-- the record that comes next, where `rest` is left: none after the end
abbrev pub next_record : Stage → List ℕ → Option Record
next_record Start rest = Some (record_in (tag_of rest) (value_of rest))
next_record (Sized n) rest = Some (record_in (tag_of rest) (value_of rest))
next_record (Ended n) rest = None

-- the stage behind a record
abbrev pub stage_after : Stage → Record → Stage
stage_after stage (Size n) = Sized n
stage_after stage (Pair p) = stage
stage_after Start End = Start
stage_after (Sized n) End = Ended n
stage_after (Ended n) End = Ended n

-- the stage behind the next record
abbrev pub stage_next : Stage → List ℕ → Stage
stage_next Start rest = stage_after Start (record_in (tag_of rest) (value_of rest))
stage_next (Sized n) rest = stage_after (Sized n) (record_in (tag_of rest) (value_of rest))
stage_next (Ended n) rest = Ended n

-- how many bytes the next record takes up
abbrev pub record_length : Stage → List ℕ → ℕ
record_length Start rest = extent rest
record_length (Sized n) rest = extent rest
record_length (Ended n) rest = 0

-- one step of a record reader that stands at a stage, with `rest` left from the offset `at` on: it
-- answers the fault of the next field and stays, or else answers its record and stands behind it
pub record StepsFrom (stage : Stage) (rest : List ℕ) (at : ℕ) (r : Result (Option Record) Fault)
    (stage' : Stage) (rest' : List ℕ) (at' : ℕ) : Type 0 where
  pub answers : r ≡ answer (field_fault stage rest at) (next_record stage rest)
  pub stages : stage' ≡ after (field_fault stage rest at) stage (stage_next stage rest)
  pub passes : rest' ≡ after (field_fault stage rest at) rest (drop (record_length stage rest) rest)
  pub moves : at' ≡ after (field_fault stage rest at) at (at + record_length stage rest)
