-- One call over the sheet's tables, and what it is handed of those that the state rests on.
-- Idea: a table of the right length is the sheet's own, so from a settle on the tables hold
-- together and state the book's grid inside.
use Rattle.std.proofs.Common.{◌≡◌, ℕ, Bool, true, not, length, refl, sym, ap, ◌∙◌, subst}
use Rattle.std.proofs.lemmas.Bool.{or_left}
use Rattle.cost.specs.declared.Cost.{Ghosts}
use Rattle.pairing.specs.Grid.{Grid}
use Rattle.matching.specs.Answers.{IsNth}
use Rattle.pairing.specs.Optima.{optima}
use Rattle.tables.specs.Lent.{Lent, grid, HasLengths}
use Rattle.tables.specs.PairTables.{HavePlaces}
use Rattle.tables.specs.Together.{HoldTogether}
use Rattle.sheet.specs.Size.{Sheet, size_of}
use Rattle.session.specs.declared.call.Act.{Act}
use Rattle.session.specs.Book.{Book, Phase, settled, walking, allows, grid_in}
use Rattle.session.specs.Lists.{Table, TableLists, list_in, lent_of, places_in, rests_on}
use Rattle.session.specs.Lists.{the_costs, the_standing, the_partners, the_left, the_right}
use Rattle.session.specs.Lists.{the_walk, the_marks}
use Rattle.session.specs.Promise.{Settling}
use Rattle.session.specs.Program.{SheetAt, state_at, HandsAll}
use Rattle.session.proofs.Cells.{alike}
use Rattle.session.proofs.Held.{SameIn, Shows, IsReady, Keeps, keeps_same, lent_is, shows_same}

-- a call on a sheet that keeps the book: the sheet's own tables before it, what it is handed and
-- what it leaves there, and the sheet's own tables after it
pub record OneCall {K : Type 0} (kind : Ghosts K) (swaps : Bool) (p : Phase) (b : Book K)
    (s : Settling K) : Type 0 where
  pub sheet : Sheet
  pub own : TableLists K
  pub x : TableLists K
  pub x' : TableLists K
  pub own' : TableLists K
  pub keeps : Keeps kind (size_of sheet) b s (state_at p sheet) own
  pub hands : HandsAll swaps (state_at p sheet) own x x' own'

module _ {K : Type 0} {kind : Ghosts K} {swaps : Bool} {p : Phase} {b : Book K} {s : Settling K}
    (m : OneCall kind swaps p b s) where
  abbrev pub n : ℕ
  n = size_of m.sheet

  abbrev pub here : SheetAt
  here = state_at p m.sheet

  abbrev pub book : Grid
  book = grid_in kind n b

  -- the tables that it is handed, as one value
  abbrev pub lent_to : Lent K
  lent_to = lent_of n m.x

  pub allowed : (act : Act K) → allows p act ≡ true → allows b.phase act ≡ true
  allowed act e = subst (λ q. allows q act ≡ true) m.keeps.phase_is e

  -- a table of the right length that the state rests on is the sheet's own
  pub is_own : (table : Table) → rests_on p table ≡ true
      → length (list_in m.x table) ≡ places_in n table → list_in m.x table ≡ list_in m.own table
  is_own table rests long =
      (m.hands table).handed (or_left (rests_on p table) (not swaps) rests) long

  pub own_shows : HavePlaces n (length m.x.costs) (length m.x.standing)
      → Shows kind n b.cells m.x.costs m.x.standing
  own_shows have = shows_same kind n m.own m.x b.cells (is_own the_costs refl have.costs)
      (is_own the_standing refl have.standing) m.keeps.shows

  -- what the state rests on stays where the call leaves it
  pub stay : SameIn (rests_on p) m.x' m.x → SameIn (rests_on p) m.own' m.own
  stay same table rests =
      (m.hands table).stays (or_left (rests_on p table) (not swaps) rests) (same table rests)

  pub still : SameIn (rests_on p) m.x' m.x → Keeps kind n b s here m.own'
  still same = keeps_same kind n m.own m.own' b s here (stay same) m.keeps

-- a walk rests on all that a settled sheet does
pub on_walk : (table : Table) → rests_on settled table ≡ true → rests_on walking table ≡ true
on_walk the_marks e = e
on_walk _ e = refl

-- a call that writes the walk list alone, or the marks alone
pub walk_alone : {K : Type 0} (x x' : TableLists K) → x' ≡ record x { walk = x'.walk }
    → SameIn (rests_on settled) x' x
walk_alone x x' e the_walk rests = cc
walk_alone x x' e the_marks rests = cc
walk_alone x x' e table rests = ap (λ y. list_in y table) e

pub marks_alone : {K : Type 0} (x x' : TableLists K) → x' ≡ record x { marks = x'.marks }
    → SameIn (rests_on settled) x' x
marks_alone x x' e the_walk rests = cc
marks_alone x x' e the_marks rests = cc
marks_alone x x' e table rests = ap (λ y. list_in y table) e

-- ---- From a settle on

module _ {K : Type 0} {kind : Ghosts K} {swaps : Bool} {p : Phase} {b : Book K} {s : Settling K}
    (m : OneCall kind swaps p b s)
    (rests : (table : Table) → rests_on settled table ≡ true → rests_on p table ≡ true)
    (same : SameIn (rests_on settled) m.x' m.x) where
  own_stays : SameIn (rests_on settled) m.own' m.own
  own_stays table e =
      (m.hands table).stays (or_left (rests_on p table) (not swaps) (rests table e)) (same table e)

  pub still_shows : Shows kind (n m) b.cells m.own'.costs m.own'.standing
  still_shows = shows_same kind (n m) m.own m.own' b.cells (own_stays the_costs refl)
      (own_stays the_standing refl) m.keeps.shows

  -- the tables that a call does not write stay ready, also where more was told since
  pub still_ready : IsReady kind (n m) (book m) s m.own → (s' : Settling K) → s'.grid ≡ s.grid
      → s'.settlement ≡ s.settlement → IsReady kind (n m) (book m) s' m.own'
  still_ready ready s' eg ew =
      let e = lent_is (n m) m.own m.own' (own_stays the_costs refl) (own_stays the_standing refl)
      (own_stays the_partners refl) (own_stays the_left refl) (own_stays the_right refl) in
      record {
        grid_is = eg ∙ ready.grid_is;
        left_is = ap (λ l. l.left) e ∙ ready.left_is ∙ ap (λ w. w.left) (sym ew);
        right_is = ap (λ l. l.right) e ∙ ready.right_is ∙ ap (λ w. w.right) (sym ew);
        first = subst (IsNth (optima (book m)) 0) (sym (ap (λ l. l.partners) e)) ready.first;
        together = subst (HoldTogether kind) (sym e) ready.together;
      }

module _ {K : Type 0} {kind : Ghosts K} {swaps : Bool} {p : Phase} {b : Book K} {s : Settling K}
    (m : OneCall kind swaps p b s)
    (rests : (table : Table) → rests_on settled table ≡ true → rests_on p table ≡ true)
    (ready : IsReady kind (n m) (book m) s m.own) where
  -- where the lengths are right, the call is handed the sheet's own tables
  module _ (h : HasLengths (lent_to m)) where
    pub own_lent : lent_to m ≡ lent_of (n m) m.own
    own_lent = lent_is (n m) m.own m.x
        (is_own m the_costs (rests the_costs refl) h.room.costs_long)
        (is_own m the_standing (rests the_standing refl) h.room.standing_long)
        (is_own m the_partners (rests the_partners refl) h.partners_long)
        (is_own m the_left (rests the_left refl) h.room.left_long)
        (is_own m the_right (rests the_right refl) h.room.right_long)

    pub together : HoldTogether kind (lent_to m)
    together = subst (HoldTogether kind) (sym own_lent) ready.together

    pub optima_are : optima (grid kind (lent_to m)) ≡ optima (book m)
    optima_are = ap (λ t. optima (grid kind t)) own_lent
        ∙ (alike kind (n m) b m.own.costs m.own.standing m.keeps.shows).optima
