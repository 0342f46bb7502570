-- What checking and loading bytes answer, and what loading leaves in the tables, at every input and
-- in any format.
use Rattle.std.specs.Prelude.{◌≡◌, ℕ, ◌<◌, Bool, true, false, ◌&&◌, ◌⊎◌, List, [], ◌∷◌, length}
use Rattle.std.specs.Prelude.{ℤ, pos, ◌≤ℤ◌, Contains}
use Rattle.std.specs.Prelude.{Some, None, Ok, Err, Option, Result, ◌==◌, if◌then◌else◌}
use Rattle.std.specs.Int.{int_max}
use Rattle.std.specs.Option.{option_map, is_some}
use Rattle.cost.specs.Columns.{rail_of}
use Rattle.cost.specs.declared.Cost.{Ghosts}
use Rattle.cost.specs.declared.plain_kind.Plain.{Plain}
use Rattle.pairing.specs.Grid.{Grid}
use Rattle.pairing.specs.Inside.{AreSameInside}
use Rattle.tables.specs.PairTables.{HavePlaces, cell, costs_opened, standing_opened, costs_entered}
use Rattle.tables.specs.PairTables.{standing_entered}
use Rattle.tables.specs.Said.{grid_of}
use Rattle.tables.specs.Together.{ArePairTables}
use Rattle.sheet.specs.Size.{Sheet, sheet_of}
use Rattle.sheet.specs.Refusals.{fault}
use Rattle.sheet.specs.declared.fault.Cause.TheVariants.{TableLength}
use Rattle.sheet.specs.declared.fault.Fault.{Fault}
use Rattle.orderfile.specs.declared.record.StatedPair.{StatedPair}
use Rattle.orderfile.specs.Format.{StatedOrder}

-- ---- Tables

-- a number as a plain cost
abbrev pub plain : ℤ → Plain
plain z = record { 0 = z }

-- the plain kind as contracts see a kind; a clause of a function also calls it
-- `⟦<Plain as Cost>⟧`
abbrev pub plain_kind : Ghosts Plain
plain_kind = record { columns = 1; meaning = λ p. rail_of p.0 ∷ []; zero = plain (pos 0) }

-- the cell of a pair in tables of plain costs
abbrev pub plain_cell : ℕ → List Plain → List ℕ → ℕ → ℕ → Option Plain
plain_cell n costs standing = cell (plain (pos 0)) n costs standing

-- the grid that tables of plain costs state
abbrev pub plain_grid : ℕ → List Plain → List ℕ → Grid
plain_grid n costs standing = grid_of plain_kind n costs standing

-- the tables of a sheet of n blocks after pairs were entered in turn
abbrev pub standing_after : ℕ → List StatedPair → List ℕ → List ℕ
standing_after n [] standing = standing
standing_after n (p ∷ ps) standing =
    standing_after n ps (standing_entered n p.left p.right standing)

abbrev pub costs_after : ℕ → List StatedPair → List Plain → List ℕ → List Plain
costs_after n [] costs standing = costs
costs_after n (p ∷ ps) costs standing =
    costs_after n ps (costs_entered plain_kind n p.left p.right (plain p.cost) costs standing)
    (standing_entered n p.left p.right standing)

-- a stated pair is of left block l and right block r
abbrev pub names_blocks : (l r : ℕ) → StatedPair → Bool
names_blocks l r p = p.left == l && p.right == r

-- the greater of two costs, of which each may be missing
abbrev pub greater : Option ℤ → Option ℤ → Option ℤ
greater None other = other
greater (Some x) None = Some x
greater (Some x) (Some y) = Some (int_max x y)

-- what pairs state of left block l and right block r: the greatest cost that they name for it
abbrev pub stated_cost : List StatedPair → ℕ → ℕ → Option ℤ
stated_cost [] l r = None
stated_cost (p ∷ ps) l r =
    greater (if names_blocks l r p then Some p.cost else None) (stated_cost ps l r)

-- this is the greatest cost that pairs name for left block l and right block r: there is none if
-- they name none; else one of them names it, and none a greater
abbrev pub IsGreatestNamed : (l r : ℕ) → List StatedPair → Option ℤ → Type 0
IsGreatestNamed l r ps None = (p : StatedPair) → Contains ps p → names_blocks l r p ≡ false
IsGreatestNamed l r ps (Some cost) =
    ((p : StatedPair) × Contains ps p × (names_blocks l r p ≡ true) × (p.cost ≡ cost))
    × ((p : StatedPair) → Contains ps p → names_blocks l r p ≡ true → p.cost ≤ℤ cost)

-- such is what they state, of every two blocks
abbrev pub StateGreatest : Type 0
StateGreatest = (ps : List StatedPair) (l r : ℕ) → IsGreatestNamed l r ps (stated_cost ps l r)

-- the columns of a stated cost: itself as the only one
abbrev pub stated_columns : Option ℤ → List ℤ
stated_columns None = []
stated_columns (Some cost) = cost ∷ []

-- the grid that an order states: a pair stands if a cost is stated for it, and has that cost
abbrev pub stated_grid : StatedOrder → Grid
stated_grid order = record {
  size = order.size;
  columns = 1;
  stands = λ l r. is_some (stated_cost order.pairs l r);
  cost = λ l r. stated_columns (stated_cost order.pairs l r);
}

-- the tables say of each pair what the order states
abbrev pub ShowsOrder : StatedOrder → List Plain → List ℕ → Type 0
ShowsOrder order costs standing = (l r : ℕ) → l < order.size → r < order.size
    → plain_cell order.size costs standing l r ≡ option_map plain (stated_cost order.pairs l r)

pub record RefusesLoad (f : Fault) (costs : List Plain) (standing : List ℕ) (r : Result Sheet Fault)
    (costs' : List Plain) (standing' : List ℕ) : Type 0 where
  pub answers : r ≡ Err f
  pub costs_stay : costs' ≡ costs
  pub standing_stays : standing' ≡ standing

pub record LoadsOrder (order : StatedOrder) (r : Result Sheet Fault) (costs' : List Plain)
    (standing' : List ℕ) : Type 0 where
  pub answers : r ≡ Ok (sheet_of order.size)
  -- exactly the tables that opening a sheet and entering the pairs in turn leave
  pub enters_costs : costs' ≡ costs_after order.size order.pairs
      (costs_opened (plain (pos 0)) order.size) (standing_opened order.size)
  pub enters_standing : standing' ≡ standing_after order.size order.pairs
      (standing_opened order.size)
  -- which is the sheet that is stated
  pub shows : ShowsOrder order costs' standing'
  -- so all that is told of the grid in them is told of the stated grid
  pub grid : AreSameInside (plain_grid order.size costs' standing') (stated_grid order)
  -- and they are pair tables in order, at which no call on a sheet takes offence
  pub pair_tables : ArePairTables plain_kind order.size costs' standing'

-- ---- One format

-- what some bytes state in a format, and their first faults in it: of an order file these are
-- `States file` and `FirstFault file`
module _ (IsStated : StatedOrder → Type 0) (IsFirstFault : Fault → Type 0) where
  -- the bytes state one order or have one first fault, and never both
  pub record HasOneVerdict : Type 0 where
    pub some : ((order : StatedOrder) × IsStated order) ⊎ ((f : Fault) × IsFirstFault f)
    pub one_order : (o p : StatedOrder) → IsStated o → IsStated p → o ≡ p
    pub one_fault : (f g : Fault) → IsFirstFault f → IsFirstFault g → f ≡ g
    pub not_both : (o : StatedOrder) (f : Fault) → IsStated o → IsFirstFault f → ⊥

  -- checking them answers the size that they state or their first fault
  pub record IsChecked (r : Result ℕ Fault) : Type 0 where
    pub verdict : HasOneVerdict
    pub states : (order : StatedOrder) → IsStated order → r ≡ Ok order.size
    pub faulty : (f : Fault) → IsFirstFault f → r ≡ Err f

  -- loading them: their first fault, else tables of the wrong length, else the sheet that they
  -- state
  pub record Loads (costs : List Plain) (standing : List ℕ) (r : Result Sheet Fault)
      (costs' : List Plain) (standing' : List ℕ) : Type 0 where
    pub verdict : HasOneVerdict
    pub faulty : (f : Fault) → IsFirstFault f → RefusesLoad f costs standing r costs' standing'
    pub misfits : (order : StatedOrder) → IsStated order
        → (HavePlaces order.size (length costs) (length standing) → ⊥)
        → RefusesLoad (fault TableLength 0) costs standing r costs' standing'
    pub loads : (order : StatedOrder) → IsStated order
        → HavePlaces order.size (length costs) (length standing)
        → LoadsOrder order r costs' standing'

-- ---- Two formats

-- two loads came to the same answer and the same tables
pub record EndAlike (r : Result Sheet Fault) (costs : List Plain) (standing : List ℕ)
    (r₁ : Result Sheet Fault) (costs₁ : List Plain) (standing₁ : List ℕ) : Type 0 where
  pub answers : r ≡ r₁
  pub same_costs : costs ≡ costs₁
  pub same_standing : standing ≡ standing₁

-- two formats load alike: bytes of the one and bytes of the other that state the same order are
-- loaded to the same tables, with the same answer, into whatever tables with a place for each pair,
-- and from the same tables always
pub record LoadAlike (IsStated : StatedOrder → Type 0) (IsFirstFault : Fault → Type 0)
    (IsStated₁ : StatedOrder → Type 0) (IsFirstFault₁ : Fault → Type 0) : Type 0 where
  pub places : (order : StatedOrder) → IsStated order → IsStated₁ order
      → (costs costs₁ : List Plain) (standing standing₁ : List ℕ)
      → HavePlaces order.size (length costs) (length standing)
      → HavePlaces order.size (length costs₁) (length standing₁)
      → (r r₁ : Result Sheet Fault) (costs' costs₁' : List Plain) (standing' standing₁' : List ℕ)
      → Loads IsStated IsFirstFault costs standing r costs' standing'
      → Loads IsStated₁ IsFirstFault₁ costs₁ standing₁ r₁ costs₁' standing₁'
      → EndAlike r costs' standing' r₁ costs₁' standing₁'
  pub always : (order : StatedOrder) → IsStated order → IsStated₁ order
      → (costs : List Plain) (standing : List ℕ)
      → (r r₁ : Result Sheet Fault) (costs' costs₁' : List Plain) (standing' standing₁' : List ℕ)
      → Loads IsStated IsFirstFault costs standing r costs' standing'
      → Loads IsStated₁ IsFirstFault₁ costs standing r₁ costs₁' standing₁'
      → EndAlike r costs' standing' r₁ costs₁' standing₁'
