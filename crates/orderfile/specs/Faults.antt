-- Why a file is refused: the first field that has a fault, and the first fault that it has.
use Rattle.std.specs.Prelude.{◌≡◌, ℕ, Bool, true, false, not, ◌||◌, List, [], ◌∷◌, ◌++◌, length}
use Rattle.std.specs.Prelude.{Some, None, Option, ◌==◌, nat_lt, if◌then◌else◌, slice_index}
use Rattle.std.specs.Prelude.{unsigned_abs}
use Rattle.std.specs.List.{flat_map}
use Rattle.cost.specs.declared.TheConstants.{COST_LIMIT}
use Rattle.blockset.specs.declared.TheConstants.{MOST_BLOCKS}
use Rattle.sheet.specs.Pairs.{are_blocks}
use Rattle.sheet.specs.Refusals.{fault, first_of, differ}
use Rattle.sheet.specs.declared.fault.Fault.{Fault}
use Rattle.sheet.specs.declared.fault.Cause.TheVariants.{Size, Block, CostRange, Overrun, Tag}
use Rattle.sheet.specs.declared.fault.Cause.TheVariants.{FieldLength}
use Rattle.orderfile.specs.declared.format.TheConstants.{SIZE_TAG, PAIR_TAG, END_TAG}
use Rattle.orderfile.specs.declared.format.TheConstants.{SIZE_LENGTH, PAIR_LENGTH, END_LENGTH}
use Rattle.orderfile.specs.declared.record.Stage.{Stage}
use Rattle.orderfile.specs.declared.record.Stage.TheVariants.{Start, Sized, Ended}
use Rattle.orderfile.specs.declared.record.StatedPair.{StatedPair}
use Rattle.orderfile.specs.Format.{FitsSheet, size_field, pair_field, file_of, tag_of, value_of}
use Rattle.orderfile.specs.Format.{overruns, pair_in}

-- the field that begins `rest`, which stands at the offset `at`, handed out as a part of the file
pub record IsHandedOut (rest : List ℕ) (at : ℕ) (tag : ℕ) (value : List ℕ)
    (place : ℕ) : Type 0 where
  pub whole : overruns rest ≡ false
  pub tag_is : tag ≡ tag_of rest
  pub value_is : value ≡ value_of rest
  pub place_is : place ≡ at

-- that field runs past the end of the file
pub record RunsPast (rest : List ℕ) (at : ℕ) (f : Fault) : Type 0 where
  pub past : overruns rest ≡ true
  pub fault_is : f ≡ fault Overrun at

-- the checks of each kind of field behind its tag; a pair field is checked in a file of size n
abbrev pub size_checks : List ℕ → ℕ → List (Bool × Fault)
size_checks value at = (differ (length value) SIZE_LENGTH, fault FieldLength at)
    ∷ (slice_index value 0 == 0 || nat_lt MOST_BLOCKS (slice_index value 0), fault Size at) ∷ []

abbrev pub pair_checks : ℕ → List ℕ → ℕ → List (Bool × Fault)
pair_checks n value at =
    (differ (length value) PAIR_LENGTH, fault FieldLength at)
    ∷ (not (are_blocks n (pair_in value).left (pair_in value).right), fault Block at)
    ∷ (nat_lt COST_LIMIT (unsigned_abs (pair_in value).cost), fault CostRange at) ∷ []

abbrev pub end_checks : List ℕ → ℕ → List (Bool × Fault)
end_checks value at = (differ (length value) END_LENGTH, fault FieldLength at) ∷ []

-- the first fault of a whole field, by what came before it: a size comes first, then pairs, then
-- the end
abbrev pub record_fault : Stage → ℕ → List ℕ → ℕ → Option Fault
record_fault Start tag value at =
    (if tag == SIZE_TAG then first_of (size_checks value at) else Some (fault Tag at))
record_fault (Sized n) tag value at =
    (if tag == PAIR_TAG then first_of (pair_checks n value at) else
    (if tag == END_TAG then first_of (end_checks value at) else Some (fault Tag at)))
record_fault (Ended n) tag value at = Some (fault Tag at)

-- the first fault of the field that begins `rest`, which stands at the offset `at`: after the end
-- any byte is one too many; else a file that stops here has its next field run past its end
abbrev pub field_fault : Stage → List ℕ → ℕ → Option Fault
field_fault Start rest at = (if overruns rest then Some (fault Overrun at) else
    record_fault Start (tag_of rest) (value_of rest) at)
field_fault (Sized n) rest at = (if overruns rest then Some (fault Overrun at) else
    record_fault (Sized n) (tag_of rest) (value_of rest) at)
field_fault (Ended n) rest at = (if length rest == 0 then None else Some (fault Tag at))

-- the bytes of a file up to a field: of the size and some pairs, or of all
abbrev pub front : Stage → List StatedPair → List ℕ
front Start pairs = []
front (Sized n) pairs = size_field n ++ flat_map pair_field pairs
front (Ended n) pairs = file_of (record { size = n; pairs = pairs })

-- the front has no fault
abbrev pub FrontFits : Stage → List StatedPair → Type 0
FrontFits Start pairs = pairs ≡ []
FrontFits (Sized n) pairs = FitsSheet (record { size = n; pairs = pairs })
FrontFits (Ended n) pairs = FitsSheet (record { size = n; pairs = pairs })

-- the first fault of a file: it begins with fields that have none, and the next field has this one
pub record FirstFault (file : List ℕ) (f : Fault) : Type 0 where
  pub stage : Stage
  pub pairs : List StatedPair
  pub rest : List ℕ
  pub splits : file ≡ front stage pairs ++ rest
  pub fits : FrontFits stage pairs
  pub faulty : field_fault stage rest (length (front stage pairs)) ≡ Some f
