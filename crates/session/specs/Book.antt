-- The plain book: what a sheet of n blocks a plane comes to, told from the calls alone. It never
-- looks at a table.
use Rattle.std.specs.Prelude.{ℕ, Bool, true, false, not, ◌&&◌, List, [], ◌∷◌, length, map, ℤ, Some}
use Rattle.std.specs.Prelude.{None, Option, ◌==◌, nat_lt, if◌then◌else◌, is_some}
use Rattle.cost.specs.declared.Cost.{Ghosts}
use Rattle.cost.specs.declared.TheConstants.{COST_LIMIT}
use Rattle.cost.specs.Columns.{within}
use Rattle.cost.specs.Readings.{worse}
use Rattle.pairing.specs.Grid.{Grid}
use Rattle.pairing.specs.Optima.{perfects}
use Rattle.pairing.specs.Places.{places_of, rights_of}
use Rattle.sheet.specs.declared.fault.Cause.{Cause}
use Rattle.sheet.specs.declared.fault.Cause.TheVariants.{TableLength, Block, CostRange, Absent}
use Rattle.sheet.specs.declared.fault.Cause.TheVariants.{NoPerfectPairing}
use Rattle.sheet.specs.declared.fault.Fault.{Fault}
use Rattle.sheet.specs.Pairs.{are_blocks}
use Rattle.sheet.specs.Refusals.{fault, first_of}
use Rattle.session.specs.declared.call.Act.{Act}
use Rattle.session.specs.declared.call.Act.TheVariants.{Enter, Strike, Read, Settle, Quote, Total}
use Rattle.session.specs.declared.call.Act.TheVariants.{Marks, Start, Next, Close, Reopen}
use Rattle.session.specs.declared.call.Lengths.{Lengths}
use Rattle.session.specs.declared.call.Call.{Call}

pub data Phase : Type 0 where
  opened : Phase
  settled : Phase
  walking : Phase

-- the test that two states are one
abbrev pub same_phase : Phase → Phase → Bool
same_phase opened opened = true
same_phase settled settled = true
same_phase walking walking = true
same_phase _ _ = false

-- what a call comes to: the state has no such call; it is refused, by this fault; it is accepted
pub data Verdict : Type 0 where
  not_allowed : Verdict
  refused : Fault → Verdict
  accepted : Verdict

-- the state of the sheet, and each pair's cost or absence
pub record Book (K : Type 0) : Type 0 where
  pub phase : Phase
  pub cells : ℕ → ℕ → Option K

-- the tables that a call is handed have the lengths that n blocks a plane ask for: the two pair
-- tables; and the partners and both prices too
abbrev pub pair_tables_fit : ℕ → Lengths → Bool
pair_tables_fit n h = h.costs == places_of n && h.standing == places_of n

abbrev pub tables_fit : ℕ → Lengths → Bool
tables_fit n h = pair_tables_fit n h && h.partners == n && h.left == n && h.right == rights_of n

-- what a call needs, in the order in which it is tested, each with the cause of its refusal: the
-- first that does not hold refuses
abbrev pub refusal_by : List (Bool × Cause) → Option Fault
refusal_by needs = first_of (map (λ need. (not need.0, fault need.1 0)) needs)

-- some pairing is perfect
abbrev pub has_perfect : ℕ → (ℕ → ℕ → Bool) → Bool
has_perfect n stands = nat_lt 0 (length (perfects n stands))

module _ {K : Type 0} where
  -- a sheet that was just opened
  abbrev pub blank : Book K
  blank = record { phase = opened; cells = λ l r. None }

  abbrev pub stands_in : (ℕ → ℕ → Option K) → ℕ → ℕ → Bool
  stands_in cells l r = is_some (cells l r)

  -- the cells, with another one for the pair of l and r
  abbrev pub with_cell : (ℕ → ℕ → Option K) → (l r : ℕ) → Option K → ℕ → ℕ → Option K
  with_cell cells l r cell i j = (if i == l && j == r then cell else cells i j)

  -- the state that has a call
  abbrev pub made_in : Act K → Phase
  made_in (Enter l r c) = opened
  made_in (Strike l r) = opened
  made_in (Read l r) = opened
  made_in Settle = opened
  made_in (Quote l r) = settled
  made_in Total = settled
  made_in Marks = settled
  made_in Start = settled
  made_in Next = walking
  made_in Close = walking
  made_in Reopen = settled

  abbrev pub allows : Phase → Act K → Bool
  allows phase act = same_phase phase (made_in act)

module _ {K : Type 0} (kind : Ghosts K) where
  -- the book after an accepted call: a reading leaves the worse of itself and of what stood there
  abbrev pub book_with : Book K → Act K → Book K
  book_with b (Enter l r reading) =
      record b { cells = with_cell b.cells l r (Some (worse kind (b.cells l r) reading)) }
  book_with b (Strike l r) = record b { cells = with_cell b.cells l r None }
  book_with b (Read l r) = b
  book_with b Settle = record b { phase = settled }
  book_with b (Quote l r) = b
  book_with b Total = b
  book_with b Marks = b
  book_with b Start = record b { phase = walking }
  book_with b Next = b
  book_with b Close = record b { phase = settled }
  book_with b Reopen = record b { phase = opened }

  abbrev pub book_by : Verdict → Book K → Act K → Book K
  book_by accepted b act = book_with b act
  book_by (refused f) b act = b
  book_by not_allowed b act = b

abbrev pub verdict_after : Option Fault → Verdict
verdict_after None = accepted
verdict_after (Some f) = refused f

module _ {K : Type 0} (kind : Ghosts K) (n : ℕ) where
  -- what a call needs of the cells and of the lengths of the tables that it is handed
  abbrev pub needs : (ℕ → ℕ → Option K) → Lengths → Act K → List (Bool × Cause)
  needs cells h (Enter l r c) = (pair_tables_fit n h, TableLength) ∷ (are_blocks n l r, Block)
      ∷ (within COST_LIMIT (kind.meaning c), CostRange) ∷ []
  needs cells h (Strike l r) = (pair_tables_fit n h, TableLength) ∷ (are_blocks n l r, Block)
      ∷ (stands_in cells l r, Absent) ∷ []
  needs cells h (Read l r) = (pair_tables_fit n h, TableLength) ∷ (are_blocks n l r, Block)
      ∷ (stands_in cells l r, Absent) ∷ []
  needs cells h Settle = (tables_fit n h, TableLength)
      ∷ (has_perfect n (stands_in cells), NoPerfectPairing) ∷ []
  needs cells h (Quote l r) = (tables_fit n h, TableLength) ∷ (are_blocks n l r, Block)
      ∷ (stands_in cells l r, Absent) ∷ []
  needs cells h Total = (tables_fit n h, TableLength) ∷ []
  needs cells h Marks = (tables_fit n h && h.marks == places_of n, TableLength) ∷ []
  needs cells h Start = (tables_fit n h && h.walk == n, TableLength) ∷ []
  needs cells h Next = (tables_fit n h && h.walk == n, TableLength) ∷ []
  needs cells h Close = []
  needs cells h Reopen = []

  -- what a call comes to by the book
  abbrev pub verdict : Book K → Call K → Verdict
  verdict b call = (if allows b.phase call.act
      then verdict_after (refusal_by (needs b.cells call.handed call.act)) else not_allowed)

  -- the book after a call
  abbrev pub step : Book K → Call K → Book K
  step b call = book_by kind (verdict b call) b call.act

  abbrev pub columns_in : Option K → List ℤ
  columns_in None = []
  columns_in (Some c) = kind.meaning c

  -- the pairs and costs of the book, as a grid
  abbrev pub grid_in : Book K → Grid
  grid_in b = record {
    size = n;
    columns = kind.columns;
    stands = stands_in b.cells;
    cost = λ l r. columns_in (b.cells l r);
  }
