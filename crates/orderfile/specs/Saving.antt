-- What `save` answers, and what it leaves in the buffer, at every input.
use Rattle.std.specs.Prelude.{◌≡◌, ℕ, zero, suc, ◌+◌, ◌*◌, ◌/◌, ◌%◌, ◌<◌, Bool, not}
use Rattle.std.specs.Prelude.{List, [], ◌∷◌, ◌++◌, length, take, drop, pos, Some, None, Ok, Option}
use Rattle.std.specs.Prelude.{Result, nat_lt, count_by, if◌then◌else◌, slice_index}
use Rattle.std.specs.Prelude.{slice_index_or}
use Rattle.std.specs.List.{AllByRecursion}
use Rattle.cost.specs.declared.plain_kind.Plain.{Plain}
use Rattle.pairing.specs.Inside.{AreSameInside}
use Rattle.tables.specs.PairTables.{HavePlaces, have_places, says_stands, byte_of}
use Rattle.tables.specs.PairTables.{in_order}
use Rattle.sheet.specs.Size.{Sheet, sheet_of}
use Rattle.sheet.specs.Refusals.{fault, first_of, answer}
use Rattle.sheet.specs.declared.fault.Cause.TheVariants.{TableLength, Inconsistent, ShortBuffer}
use Rattle.sheet.specs.declared.fault.Fault.{Fault}
use Rattle.orderfile.specs.declared.format.TheConstants.{HEADER_LENGTH, SIZE_TAG, PAIR_TAG, END_TAG}
use Rattle.orderfile.specs.declared.format.TheConstants.{SIZE_LENGTH, PAIR_LENGTH, END_LENGTH}
use Rattle.orderfile.specs.declared.format.TheConstants.{SIZE_FIELD, PAIR_FIELD, END_FIELD}
use Rattle.orderfile.specs.declared.record.StatedPair.{StatedPair}
use Rattle.orderfile.specs.Faults.{FirstFault}
use Rattle.orderfile.specs.Format.{PairFits, States, file_of}
use Rattle.orderfile.specs.Loading.{plain, plain_kind, plain_cell, plain_grid, names_blocks}
use Rattle.orderfile.specs.Loading.{Loads}

-- the length of a saved file: a size field, a field for each standing pair, an end field
abbrev pub saved_length : List ℕ → ℕ
saved_length standing = SIZE_FIELD + PAIR_FIELD * count_by says_stands standing + END_FIELD

-- the numbers of the format, and what they make of the length of a file
pub record HasFormatNumbers : Type 0 where
  -- a header is a tag and two bytes for the length
  pub header : HEADER_LENGTH ≡ 3
  pub size_tag : SIZE_TAG ≡ 1
  pub pair_tag : PAIR_TAG ≡ 2
  pub end_tag : END_TAG ≡ 3
  -- the lengths of the values: a size; two blocks and a cost; nothing
  pub size_length : SIZE_LENGTH ≡ 1
  pub pair_length : PAIR_LENGTH ≡ 10
  pub end_length : END_LENGTH ≡ 0
  pub saved : (standing : List ℕ) → saved_length standing ≡ 7 + 13 * count_by says_stands standing

-- the tables are in order: no byte is above 1, and each standing cost is within 10^9
abbrev pub plain_in_order : List Plain → List ℕ → Bool
plain_in_order costs standing = in_order plain_kind.meaning costs standing

-- room is the length of the buffer
unfoldable pub save_refusal : ℕ → List Plain → List ℕ → ℕ → Option Fault
save_refusal n costs standing room = first_of (
    (not (have_places n (length costs) (length standing)), fault TableLength 0) ∷
    (not (plain_in_order costs standing), fault Inconsistent 0) ∷
    (nat_lt room (saved_length standing), fault ShortBuffer 0) ∷ [])

-- how often pairs name left block l with right block r
abbrev pub times : ℕ → ℕ → List StatedPair → ℕ
times l r pairs = count_by (names_blocks l r) pairs

-- a pair that stands in the tables at this cost
pub record StandsAtCost (n : ℕ) (costs : List Plain) (standing : List ℕ)
    (p : StatedPair) : Type 0 where
  pub fits : PairFits n p
  pub stands : plain_cell n costs standing p.left p.right ≡ Some (plain p.cost)

-- the pairs are the standing ones, each named once and with its cost; their order is free
pub record AreStandingPairs (n : ℕ) (costs : List Plain) (standing : List ℕ)
    (pairs : List StatedPair) : Type 0 where
  pub once : (l r : ℕ) → l < n → r < n → times l r pairs
      ≡ (if says_stands (byte_of n standing l r) then 1 else 0)
  pub only : AllByRecursion (StandsAtCost n costs standing) pairs

-- the buffer begins with the file of such pairs, and is as it was behind it
pub record HoldsFile (n : ℕ) (costs : List Plain) (standing out out' : List ℕ) : Type 0 where
  pub pairs : List StatedPair
  pub names : AreStandingPairs n costs standing pairs
  pub long : length (file_of (record { size = n; pairs = pairs })) ≡ saved_length standing
  pub file : out' ≡ file_of (record { size = n; pairs = pairs }) ++ drop (saved_length standing) out

-- whatever tables of the right lengths the file is loaded into, the sheet there is the same one:
-- its size, its standing pairs and their costs, and so all that is told of its grid
abbrev pub Reloads : ℕ → List Plain → List ℕ → List ℕ → Type 0
Reloads n costs standing file =
    (costs₀ : List Plain) (standing₀ : List ℕ) (r : Result Sheet Fault) (costs' : List Plain)
    (standing' : List ℕ)
    → HavePlaces n (length costs₀) (length standing₀)
    → Loads (States file) (FirstFault file) costs₀ standing₀ r costs' standing'
    → (r ≡ Ok (sheet_of n))
    × ((l r : ℕ) → l < n → r < n
    → plain_cell n costs' standing' l r ≡ plain_cell n costs standing l r)
    × AreSameInside (plain_grid n costs' standing') (plain_grid n costs standing)

pub record IsSaved (n : ℕ) (costs : List Plain) (standing out : List ℕ) (r : Result ℕ Fault)
    (out' : List ℕ) : Type 0 where
  pub answers : r ≡ answer (save_refusal n costs standing (length out)) (saved_length standing)
  pub stays : (f : Fault) → save_refusal n costs standing (length out) ≡ Some f → out' ≡ out
  pub writes : save_refusal n costs standing (length out) ≡ None
      → HoldsFile n costs standing out out'
  pub reloads : save_refusal n costs standing (length out) ≡ None
      → Reloads n costs standing
      (take (saved_length standing) out')

-- how the pairs come to stand in the file: place by place. A place tells its two blocks
abbrev pub pair_at : ℕ → List Plain → ℕ → StatedPair
pair_at n costs k =
    record { left = k / n; right = k % n; cost = (slice_index_or costs k (plain (pos 0))).0 }

-- the pair at a place, if it stands
abbrev pub pairs_at : ℕ → List Plain → List ℕ → ℕ → List StatedPair
pairs_at n costs standing k =
    (if says_stands (slice_index standing k) then pair_at n costs k ∷ [] else [])

-- those at m places from place k on
abbrev pub pairs_listed : ℕ → List Plain → List ℕ → ℕ → ℕ → List StatedPair
pairs_listed n costs standing k zero = []
pairs_listed n costs standing k (suc m) =
    pairs_at n costs standing k ++ pairs_listed n costs standing (k + 1) m
