-- What `enter`, `strike` and `read` answer, and what they leave in the tables, at every input.
use Rattle.std.specs.Prelude.{◌≡◌, ℕ, ◌<◌, Bool, true, false, ◌&&◌, List, length, Result, ⊤}
use Rattle.std.specs.Prelude.{nat_lt, slice_index_or}
use Rattle.cost.specs.declared.Cost.{Ghosts}
use Rattle.cost.specs.declared.TheConstants.{COST_LIMIT}
use Rattle.cost.specs.Columns.{AreWithin}
use Rattle.pairing.specs.Places.{place_of, rights_of}
use Rattle.tables.specs.PairTables.{HavePlaces, says_stands, says_disturbed, byte_of}
use Rattle.tables.specs.PairTables.{costs_entered, standing_entered, costs_struck, standing_struck}
use Rattle.sheet.specs.Needs.{Needs, need, nothing, Responds}
use Rattle.sheet.specs.declared.fault.Fault.{Fault}
use Rattle.sheet.specs.declared.fault.Cause.TheVariants.{TableLength, Block, CostRange, Absent}
use Rattle.sheet.specs.declared.fault.Cause.TheVariants.{Inconsistent}

-- there are a left block l of n, and a right block r of those that face them
pub record AreBlocks (n l r : ℕ) : Type 0 where
  pub left_below : l < n
  pub right_below : r < rights_of n

-- the test for it
abbrev pub are_blocks : (n l r : ℕ) → Bool
are_blocks n l r = nat_lt l n && nat_lt r (rights_of n)

-- the two pair tables hold this
pub record PairTablesAre {K : Type 0} (costs : List K) (standing : List ℕ) (costs' : List K)
    (standing' : List ℕ) : Type 0 where
  pub costs_are : costs' ≡ costs
  pub standing_are : standing' ≡ standing

-- a place for each pair, two blocks, and more; costs and bytes are the lengths of the two pair
-- tables
abbrev pub place_needs : (n costs bytes l r : ℕ) → Needs → Needs
place_needs n costs bytes l r more =
    need (HavePlaces n costs bytes) TableLength (need (AreBlocks n l r) Block more)

module _ {K : Type 0} (kind : Ghosts K) (n : ℕ) (costs : List K) (standing : List ℕ) (l r : ℕ) where
  -- and a reading within 10^9 in each column, and a standing byte of 0 or 1
  abbrev pub enter_needs : K → Needs
  enter_needs reading = place_needs n (length costs) (length standing) l r
      (need (AreWithin COST_LIMIT (kind.meaning reading)) CostRange
      (need (says_disturbed (byte_of n standing l r) ≡ false) Inconsistent nothing))

  -- the pair stands, at the worse of this reading and of what stood there, and the rest of the
  -- tables stays
  abbrev pub Enters : (reading : K) → Result (Unit {0}) Fault → (costs' : List K)
      (standing' : List ℕ) → Type 0
  Enters reading answer costs' standing' = Responds (enter_needs reading) answer
      (λ _. PairTablesAre (costs_entered kind n l r reading costs standing)
      (standing_entered n l r standing) costs' standing')
      (PairTablesAre costs standing costs' standing')

  -- and a standing byte of 0 or 1, that says that the pair stands: so for `strike` and for `read`
  abbrev pub strike_needs : Needs
  strike_needs = place_needs n (length costs) (length standing) l r
      (need (says_disturbed (byte_of n standing l r) ≡ false) Inconsistent
      (need (says_stands (byte_of n standing l r) ≡ true) Absent nothing))

  -- the pair is absent and its cost zero, and the rest of the tables stays
  abbrev pub Strikes : Result (Unit {0}) Fault → (costs' : List K) (standing' : List ℕ) → Type 0
  Strikes answer costs' standing' = Responds strike_needs answer
      (λ _. PairTablesAre (costs_struck kind.zero n l r costs) (standing_struck n l r standing)
      costs' standing')
      (PairTablesAre costs standing costs' standing')

  -- what stands at the pair's place among the costs
  abbrev pub Reads : Result K Fault → Type 0
  Reads answer = Responds strike_needs answer
      (λ cost. cost ≡ slice_index_or costs (place_of n l r) kind.zero) ⊤
