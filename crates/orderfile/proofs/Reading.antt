-- The invariant of a loop over a file's records, with its step and its two ends.
-- Idea: what was read is a sound front, what is left follows it, and the place is the front's
-- length. A record without a fault makes the front grow; a fault is then the file's first one; and
-- where no record is left, the front is the whole file.
use Rattle.std.proofs.Common.{◌≡◌, ℕ, ◌+◌, ◌<◌, ◌≤◌, List, [], ◌++◌, length}
use Rattle.std.proofs.Common.{drop}
use Rattle.std.proofs.Common.{Some, None, Ok, Option, Result, sym, refl, ap, ◌∙◌, ⊎_elim}
use Rattle.std.proofs.Common.{append-nil}
use Rattle.std.proofs.Common.{arith}
use Rattle.std.proofs.lemmas.List.{get_or-append-add, length-append, length-drop, nil_from_length}
use Rattle.std.proofs.lemmas.Bool.{eqb-true}
use Rattle.sheet.specs.declared.fault.Fault.{Fault}
use Rattle.sheet.proofs.Refused.{required, from_ok, renewed}
use Rattle.orderfile.specs.declared.record.StatedPair.{StatedPair}
use Rattle.orderfile.specs.declared.record.Record.{Record}
use Rattle.orderfile.specs.declared.record.Record.TheVariants.{Size, Pair, End}
use Rattle.orderfile.specs.declared.record.Stage.{Stage}
use Rattle.orderfile.specs.declared.record.Stage.TheVariants.{Start, Sized, Ended}
use Rattle.orderfile.specs.Format.{StatedOrder, States, tag_of, value_of}
use Rattle.orderfile.specs.Faults.{field_fault, front, FrontFits, FirstFault}
use Rattle.orderfile.specs.Records.{StepsFrom, record_in, next_record, stage_after, stage_next}
use Rattle.orderfile.specs.Records.{record_length}
use Rattle.orderfile.proofs.Fields.{AreBytes, extent-fits}
use Rattle.orderfile.proofs.Fronts.{grow, size_next, pair_or_end}
use Rattle.std.proofs.Common.{slice_index, ◌==◌}

pub record IsReadTo (file : List ℕ) (stage : Stage) (rest : List ℕ) (at : ℕ) : Type 0 where
  pub pairs : List StatedPair
  pub splits : file ≡ front stage pairs ++ rest
  pub fits : FrontFits stage pairs
  pub placed : at ≡ length (front stage pairs)

-- the size that is known at a stage
abbrev pub IsKnownSize : Stage → ℕ → Type 0
IsKnownSize Start size = size ≡ 0
IsKnownSize (Sized n) size = size ≡ n
IsKnownSize (Ended n) size = size ≡ n

-- a record that has no fault lies within what is left
pub passed-fits : (stage : Stage) (rest : List ℕ) (at : ℕ) → field_fault stage rest at ≡ None
    → record_length stage rest ≤ length rest
passed-fits Start rest at e = extent-fits rest (size_next rest at e).whole
passed-fits (Sized n) rest at e = ⊎_elim (λ h. extent-fits rest h.whole)
    (λ h. extent-fits rest h.whole) (pair_or_end n rest at e)
passed-fits (Ended n) rest at e = omega arith

bytes_left : (file front' rest : List ℕ) → file ≡ front' ++ rest → AreBytes file → AreBytes rest
bytes_left file front' rest e bytes i =
    let same : slice_index file (length front' + i) ≡ slice_index rest i =
    ap (λ t. slice_index t (length front' + i)) e ∙ get_or-append-add front' rest i 0 in
    omega (arith, same, bytes (length front' + i))

module _ (file : List ℕ) (stage : Stage) (rest : List ℕ) (at : ℕ)
    (reading : IsReadTo file stage rest at) where
  pub reading_more : AreBytes file → field_fault stage rest at ≡ None
      → IsReadTo file (stage_next stage rest) (drop (record_length stage rest) rest)
      (at + record_length stage rest)
  reading_more bytes e =
      let grown =
      grow stage reading.pairs rest
      at (bytes_left file (front stage reading.pairs) rest reading.splits bytes) reading.fits e
      in
      let whole : length (front stage reading.pairs) + length rest ≡ length
      (front (stage_next stage rest) grown.0) + length (drop (record_length stage rest) rest) =
      sym (length-append (front stage reading.pairs) rest) ∙ ap length grown.1
      ∙ length-append (front (stage_next stage rest) grown.0) (drop (record_length stage rest) rest)
      in
      record {
        pairs = grown.0;
        splits = reading.splits ∙ grown.1;
        fits = grown.2;
        placed =
            omega (
              arith,
              whole,
              length-drop (record_length stage rest) rest,
              passed-fits stage rest at e,
              reading.placed,
            );
      }

  pub reading_fault : (f : Fault) → field_fault stage rest at ≡ Some f → FirstFault file f
  reading_fault f e = record {
    stage = stage;
    pairs = reading.pairs;
    rest = rest;
    splits = reading.splits;
    fits = reading.fits;
    faulty = ap (field_fault stage rest) (sym reading.placed) ∙ e;
  }

-- where no record is left, the whole file was read
pub reading_done : (file : List ℕ) (stage : Stage) (rest : List ℕ) (at size : ℕ)
    → IsReadTo file stage rest at → IsKnownSize stage size → field_fault stage rest at ≡ None
    → next_record stage rest ≡ None
    → (order : StatedOrder) × States file order × (size ≡ order.size)
reading_done file Start rest at size h known e none = cc
reading_done file (Sized n) rest at size h known e none = cc
reading_done file (Ended n) rest at size h known e none =
    let empty : rest ≡ [] =
    nil_from_length rest (eqb-true _ _ (required (length rest == 0) _ None e).0) in (
      record { size = n; pairs = h.pairs },
      record {
        is_file = h.splits ∙ ap (λ t. front (Ended n) h.pairs ++ t) empty ∙ append-nil _;
        fits = h.fits;
      },
      known,
    )

-- the stage behind a record
pub stage_is : (stage : Stage) (rest : List ℕ) (next : Record) → next_record stage rest ≡ Some next
    → stage_next stage rest ≡ stage_after stage next
stage_is Start rest next e = let same : record_in (tag_of rest) (value_of rest) ≡ next = cc in
    ap (stage_after Start) same
stage_is (Sized n) rest next e = let same : record_in (tag_of rest) (value_of rest) ≡ next = cc in
    ap (stage_after (Sized n)) same
stage_is (Ended n) rest next e = cc

pub known_still : (stage : Stage) (next : Record) (size : ℕ) → ((n : ℕ) → next ≡ Size n → ⊥)
    → IsKnownSize stage size → IsKnownSize (stage_after stage next) size
known_still stage (Size n) size other known = absurd (other n refl)
known_still stage (Pair p) size other known = known
known_still Start End size other known = known
known_still (Sized n) End size other known = known
known_still (Ended n) End size other known = known

-- a record takes up some bytes
record_long : (stage : Stage) (rest : List ℕ) (next : Record) → next_record stage rest ≡ Some next
    → 3 ≤ record_length stage rest
record_long Start rest next e = omega arith
record_long (Sized n) rest next e = omega arith
record_long (Ended n) rest next e = cc

-- a call of `next` on a record reader answered a record or none, and the reader stands behind it
pub record HasPassed (stage : Stage) (rest : List ℕ) (at : ℕ) (answered : Option Record)
    (stage' : Stage) (rest' : List ℕ) (at' : ℕ) : Type 0 where
  pub clear : field_fault stage rest at ≡ None
  pub next : answered ≡ next_record stage rest
  pub stages : stage' ≡ stage_next stage rest
  pub passes : rest' ≡ drop (record_length stage rest) rest
  pub moves : at' ≡ at + record_length stage rest

pub passed : {stage : Stage} {rest : List ℕ} {at : ℕ} {r : Result (Option Record) Fault}
    {stage' : Stage} {rest' : List ℕ} {at' : ℕ} → StepsFrom stage rest at r stage' rest' at'
    → (answered : Option Record) → r ≡ Ok answered
    → HasPassed stage rest at answered stage' rest' at'
passed {stage = stage} {rest = rest} {at = at} s answered e =
    let found = from_ok (field_fault stage rest at) (next_record stage rest) answered
    (sym e ∙ s.answers) in
    record {
      clear = found.0;
      next = found.1;
      stages = s.stages ∙ sym (renewed _ _ _ found.0);
      passes = s.passes ∙ sym (renewed _ _ _ found.0);
      moves = s.moves ∙ sym (renewed _ _ _ found.0);
    }

pub next_reads : {stage : Stage} {rest : List ℕ} {at : ℕ} {o : Option Record} {stage' : Stage}
    {rest' : List ℕ} {at' : ℕ} (file : List ℕ) → HasPassed stage rest at o stage' rest' at'
    → IsReadTo file stage rest at → AreBytes file → IsReadTo file stage' rest' at'
next_reads file p reading bytes =
    rw (p.stages, p.passes, p.moves) (reading_more file _ _ _ reading bytes p.clear)

module _ {stage : Stage} {rest : List ℕ} {at : ℕ} {next : Record} {stage' : Stage}
    {rest' : List ℕ} {at' : ℕ} (p : HasPassed stage rest at (Some next) stage' rest' at') where
  pub next_stage : stage' ≡ stage_after stage next
  next_stage = p.stages ∙ stage_is stage rest next (sym p.next)

  pub next_shorter : length rest' < length rest
  next_shorter = omega (
    arith,
    ap length p.passes,
    length-drop (record_length stage rest) rest,
    passed-fits stage rest at p.clear,
    record_long stage rest next (sym p.next),
  )
