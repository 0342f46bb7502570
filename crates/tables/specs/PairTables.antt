-- The pair tables: how long they are, what a standing byte says, the cell of a pair, what a call
-- makes of the cells, and when the tables are in order.
use Rattle.std.specs.Prelude.{◌≡◌, ℕ, ◌<◌, Bool, not, ◌&&◌, ◌||◌, List, replicate, ℤ, Some, None}
use Rattle.std.specs.Prelude.{Option, ◌==◌, ◌*◌, nat_lt, if◌then◌else◌, slice_index_or}
use Rattle.std.specs.Prelude.{slice_set, zip, take, drop}
use Rattle.std.specs.List.{list_all}
use Rattle.cost.specs.declared.Cost.{Ghosts}
use Rattle.cost.specs.declared.TheConstants.{COST_LIMIT}
use Rattle.cost.specs.Columns.{within}
use Rattle.cost.specs.Readings.{worse}
use Rattle.pairing.specs.Places.{place_of, places_of, rights_of}
pub use Rattle.pairing.specs.Stated.{says_stands, byte_of}

-- a standing byte says neither that its pair stands nor that it is absent
abbrev pub says_disturbed : ℕ → Bool
says_disturbed byte = nat_lt 1 byte

-- pair tables of these lengths have a place for each pair of n left blocks and their right blocks
pub record HavePlaces (n costs_length standing_length : ℕ) : Type 0 where
  pub costs : costs_length ≡ places_of n
  pub standing : standing_length ≡ places_of n

-- the test for it
abbrev pub have_places : ℕ → ℕ → ℕ → Bool
have_places n costs_length standing_length = costs_length == places_of n
    && standing_length == places_of n

-- the part of a pair table that belongs to left block l
abbrev pub part_of : {X : Type 0} → ℕ → ℕ → List X → List X
part_of n l table = take (rights_of n) (drop (l * rights_of n) table)

-- the cell of a pair: its cost where it stands, nothing where it does not
abbrev pub cell : {K : Type 0} → K → ℕ → List K → List ℕ → ℕ → ℕ → Option K
cell nought n costs standing l r = (if says_stands (byte_of n standing l r) then Some
    (slice_index_or costs (place_of n l r) nought) else None)

-- the cells before and after one pair of n left blocks and their right blocks was given a new
-- cell: it has the new one, and every other pair has what it had
pub record ChangesCell {K : Type 0} (n l r : ℕ) (new : Option K)
    (before after : ℕ → ℕ → Option K) : Type 0 where
  pub changed : after l r ≡ new
  pub others : (i j : ℕ) → i < n → j < rights_of n → ((i ≡ l) × (j ≡ r) → ⊥)
      → after i j ≡ before i j

-- every pair of n left blocks and their right blocks is absent
abbrev pub AreAllAbsent : {K : Type 0} → ℕ → (ℕ → ℕ → Option K) → Type 0
AreAllAbsent n cells = (l r : ℕ) → l < n → r < rights_of n → cells l r ≡ None

-- the tables of a sheet of n blocks that was just opened: every pair is absent, at cost zero
abbrev pub costs_opened : {K : Type 0} → K → ℕ → List K
costs_opened nought n = replicate (places_of n) nought

abbrev pub standing_opened : ℕ → List ℕ
standing_opened n = replicate (places_of n) 0

-- the tables after a reading of a pair was entered
abbrev pub costs_entered : {K : Type 0} → Ghosts K → ℕ → ℕ → ℕ → K → List K → List ℕ → List K
costs_entered kind n l r reading costs standing = slice_set costs (place_of n l r)
    (worse kind (cell kind.zero n costs standing l r) reading)

abbrev pub standing_entered : ℕ → ℕ → ℕ → List ℕ → List ℕ
standing_entered n l r standing = slice_set standing (place_of n l r) 1

-- the tables after a pair was struck
abbrev pub costs_struck : {K : Type 0} → K → ℕ → ℕ → ℕ → List K → List K
costs_struck nought n l r costs = slice_set costs (place_of n l r) nought

abbrev pub standing_struck : ℕ → ℕ → ℕ → List ℕ → List ℕ
standing_struck n l r standing = slice_set standing (place_of n l r) 0

-- a place of the tables is in order: its byte is not disturbed, and where it stands its cost is
-- within 10^9 in each column
abbrev pub is_place_in_order : List ℤ → ℕ → Bool
is_place_in_order columns byte = not (says_disturbed byte) &&
    (not (says_stands byte) || within COST_LIMIT columns)

-- the tables are in order, at every place that both have
abbrev pub in_order : {K : Type 0} → (K → List ℤ) → List K → List ℕ → Bool
in_order meaning costs standing =
    list_all (λ place. is_place_in_order (meaning place.0) place.1) (zip costs standing)
