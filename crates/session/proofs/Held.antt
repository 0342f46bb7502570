-- What ties the sheet's own tables to the book between two calls.
-- Idea: the pair tables hold the book's cells and are in order; from a settle on, the partners and
-- prices are those that it wrote, and all tables hold together; and on a walk, the walk list is the
-- pairing that was handed out last. What was told since the settle is right by the grid that was
-- settled, which is the book's until the sheet is reopened.
use Rattle.std.proofs.Common.{◌≡◌, ℕ, ◌+◌, ◌<◌, min, cond, Bool, true, List, ◌∷◌, length, get_or}
use Rattle.std.proofs.Common.{Option, Some, None, sym, ap, ◌∙◌, subst, refl}
use Rattle.std.specs.List.{AllByRecursion}
use Rattle.cost.specs.declared.Cost.{Ghosts}
use Rattle.pairing.specs.Grid.{Grid}
use Rattle.pairing.specs.Optima.{optima}
use Rattle.matching.specs.Answers.{IsNth, AreMarksOf}
use Rattle.pairing.specs.Places.{place_of}
use Rattle.tables.specs.PairTables.{cell, byte_of, says_stands}
use Rattle.tables.specs.Together.{ArePairTables, HoldTogether}
use Rattle.sheet.specs.Size.{size_of}
use Rattle.session.specs.declared.call.Act.{Act}
use Rattle.session.specs.declared.call.Lengths.{Lengths}
use Rattle.session.specs.Book.{Book, Phase, opened, settled, walking, step, grid_in}
use Rattle.session.specs.Exchange.{ValueOf, Reply}
use Rattle.session.specs.Lists.{Table, TableLists, list_in, lent_of, rests_on, the_costs}
use Rattle.session.specs.Lists.{the_standing, the_partners, the_left, the_right, the_walk}
use Rattle.session.specs.Promise.{Settling, settling_by, IsRight}
use Rattle.session.specs.Program.{SheetAt, cost_in, byte_in}
use Rattle.session.proofs.Walks.{InTurn}

-- the same list in each of these tables
abbrev pub SameIn : {K : Type 0} → (Table → Bool) → (x y : TableLists K) → Type 0
SameIn these x y = (table : Table) → these table ≡ true → list_in x table ≡ list_in y table

-- the walk list is the pairing that the walk handed out last
pub record AtPlace (pairings : List (List ℕ)) (list : List ℕ) (walk : List (Option (List ℕ)))
    : Type 0 where
  pub place : ℕ
  pub is : IsNth pairings place list
  pub as_far : place + 1 ≡ min (length walk) (length pairings)

module _ {K : Type 0} (kind : Ghosts K) (n : ℕ) where
  -- the pair tables are in order and hold the cells, and zero for the absent pairs
  pub record Shows (cells : ℕ → ℕ → Option K) (costs : List K) (standing : List ℕ) : Type 0 where
    pub pair_tables : ArePairTables kind n costs standing
    pub costs_are : (l r : ℕ) → l < n → r < n
        → get_or costs (place_of n l r) kind.zero ≡ cost_in kind.zero (cells l r)
    pub bytes_are : (l r : ℕ) → l < n → r < n → byte_of n standing l r ≡ byte_in (cells l r)

  -- what was told since a settle is right
  pub record HasWalksInTurn (s : Settling K) : Type 0 where
    pub walks : AllByRecursion (InTurn (optima s.grid)) (s.walk ∷ s.earlier)
    pub marks : AllByRecursion (AreMarksOf n (optima s.grid)) s.marks

  -- the tables are as the settle left them
  pub record IsReady (g : Grid) (s : Settling K) (t : TableLists K) : Type 0 where
    pub grid_is : s.grid ≡ g
    pub left_is : t.left ≡ s.settlement.left
    pub right_is : t.right ≡ s.settlement.right
    pub first : IsNth (optima g) 0 t.partners
    pub together : HoldTogether kind (lent_of n t)

  -- what the tables hold beyond the pairs
  abbrev pub Beyond : Phase → Grid → Settling K → TableLists K → Type 0
  Beyond opened g s t = Unit {0}
  Beyond settled g s t = IsReady g s t
  Beyond walking g s t = IsReady g s t × AtPlace (optima g) t.walk s.walk

  pub record Keeps (b : Book K) (s : Settling K) (state : SheetAt) (t : TableLists K) : Type 0 where
    pub phase_is : state.phase ≡ b.phase
    pub size_is : size_of state.sheet ≡ n
    pub shows : Shows b.cells t.costs t.standing
    pub walks : HasWalksInTurn s
    pub beyond : Beyond state.phase (grid_in kind n b) s t

  -- one call: what came of it is right, and the tables go on with the book
  pub record GoesOn (b : Book K) (s : Settling K) (act : Act K) (h : Lengths)
      (o : Reply (ValueOf K act)) (state : SheetAt) (t : TableLists K) : Type 0 where
    pub right : IsRight kind n b s (record { act = act; handed = h; reply = o })
    pub keeps : Keeps (step kind n b (record { act = act; handed = h }))
        (settling_by kind n b s act o) state t

-- a cost and a byte tell the cell
cell_told : {K : Type 0} (nought : K) (n : ℕ) (costs : List K) (standing : List ℕ) (l r : ℕ)
    (c : Option K) → get_or costs (place_of n l r) nought ≡ cost_in nought c
    → byte_of n standing l r ≡ byte_in c → cell nought n costs standing l r ≡ c
cell_told nought n costs standing l r None ec eb =
    ap (λ b. cond (says_stands b) (Some (get_or costs (place_of n l r) nought)) None) eb
cell_told nought n costs standing l r (Some c) ec eb =
    ap (λ b. cond (says_stands b) (Some (get_or costs (place_of n l r) nought)) None) eb
    ∙ ap Some ec

pub each : {K : Type 0} (kind : Ghosts K) (n : ℕ) (cells : ℕ → ℕ → Option K) (costs : List K)
    (standing : List ℕ) → Shows kind n cells costs standing → (l r : ℕ) → l < n → r < n
    → cell kind.zero n costs standing l r ≡ cells l r
each kind n cells costs standing shows l r i j =
    cell_told kind.zero n costs standing l r (cells l r) (shows.costs_are l r i j)
    (shows.bytes_are l r i j)

-- ---- Tables that hold the same

-- lent tables are one value where each is one list
pub lent_is : {K : Type 0} (n : ℕ) (t t' : TableLists K) → t'.costs ≡ t.costs
    → t'.standing ≡ t.standing → t'.partners ≡ t.partners → t'.left ≡ t.left → t'.right ≡ t.right
    → lent_of n t' ≡ lent_of n t
lent_is n t t' ec es ep el er = cc

module _ {K : Type 0} (kind : Ghosts K) (n : ℕ) (t t' : TableLists K) where
  pub shows_same : (cells : ℕ → ℕ → Option K) → t'.costs ≡ t.costs → t'.standing ≡ t.standing
      → Shows kind n cells t.costs t.standing → Shows kind n cells t'.costs t'.standing
  shows_same cells ec es shows = rw (ec, es) shows

  module _ (g : Grid) (s : Settling K) where
    ready_same : lent_of n t' ≡ lent_of n t → IsReady kind n g s t → IsReady kind n g s t'
    ready_same e ready = record {
      grid_is = ready.grid_is;
      left_is = ap (λ l. l.left) e ∙ ready.left_is;
      right_is = ap (λ l. l.right) e ∙ ready.right_is;
      first = subst (IsNth (optima g) 0) (sym (ap (λ l. l.partners) e)) ready.first;
      together = subst (HoldTogether kind) (sym e) ready.together;
    }

    -- what a state rests on stays
    beyond_same : (p : Phase) → SameIn (rests_on p) t' t → Beyond kind n p g s t
        → Beyond kind n p g s t'
    beyond_same opened same beyond = tt
    beyond_same settled same beyond =
        ready_same (lent_is n t t' (same the_costs refl) (same the_standing refl)
        (same the_partners refl) (same the_left refl) (same the_right refl)) beyond
    beyond_same walking same beyond = (
      ready_same (lent_is n t t' (same the_costs refl) (same the_standing refl)
          (same the_partners refl) (same the_left refl) (same the_right refl)) beyond.0,
      subst (λ list. AtPlace (optima g) list s.walk) (sym (same the_walk refl)) beyond.1,
    )

  pub keeps_same : (b : Book K) (s : Settling K) (state : SheetAt)
      → SameIn (rests_on state.phase) t' t → Keeps kind n b s state t → Keeps kind n b s state t'
  keeps_same b s state same keeps = record {
    phase_is = keeps.phase_is;
    size_is = keeps.size_is;
    shows = shows_same b.cells (same the_costs refl) (same the_standing refl) keeps.shows;
    walks = keeps.walks;
    beyond = beyond_same (grid_in kind n b) s state.phase same keeps.beyond;
  }
