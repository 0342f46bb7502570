-- Any program that makes the calls: each step is bound by nothing but the contract of the public
-- function that it calls.
use Rattle.std.specs.Prelude.{◌≡◌, ℕ, ◌<◌, Bool, true, false, not, ◌||◌, ◌⊎◌, List, [], ◌∷◌, ◌++◌}
use Rattle.std.specs.Prelude.{⊤, length, Ok, Err, Some, None, Option, Result, slice_index_or}
use Rattle.cost.specs.declared.Cost.{Ghosts}
use Rattle.pairing.specs.Grid.{total}
use Rattle.pairing.specs.Places.{place_of, places_of, rights_of}
use Rattle.matching.specs.declared.stepping.Step.{Step}
use Rattle.matching.specs.declared.stepping.Step.TheVariants.{Next as Onward, End}
use Rattle.tables.specs.Lent.{grid}
use Rattle.tables.specs.PairTables.{byte_of}
use Rattle.sheet.specs.declared.fault.Fault.{Fault}
use Rattle.sheet.specs.declared.fault.Refusal.{Refusal}
use Rattle.sheet.specs.Needs.{Responds}
use Rattle.sheet.specs.Opening.{OpensSheet}
use Rattle.sheet.specs.Pairs.{Enters, Strikes, Reads}
use Rattle.sheet.specs.Settling.{Settles}
use Rattle.sheet.specs.Size.{Sheet, size_of}
use Rattle.sheet.specs.Walking.{quote_needs, IsQuote, total_needs, marks_needs, AreMarks}
use Rattle.sheet.specs.Walking.{Starts, next_needs, IsStep}
use Rattle.session.specs.declared.call.Act.{Act}
use Rattle.session.specs.declared.call.Act.TheVariants.{Enter, Strike, Read, Settle, Quote, Total}
use Rattle.session.specs.declared.call.Act.TheVariants.{Marks, Start, Next, Close, Reopen}
use Rattle.session.specs.Book.{Phase, opened, settled, walking, allows, blank}
use Rattle.session.specs.Exchange.{Settlement, ValueOf, Reply, not_made, turned_down, gives}
use Rattle.session.specs.Exchange.{Exchange}
use Rattle.session.specs.Lists.{Table, TableLists, list_in, lent_of, lengths, places_in}
use Rattle.session.specs.Lists.{is_pair_table}
use Rattle.session.specs.Lists.{rests_on}
use Rattle.session.specs.Promise.{KeepsPromise, book_after}
use Rattle.session.specs.Readings.{WorstReadingsStand}

-- a sheet in one of its states
pub record SheetAt : Type 0 where
  pub phase : Phase
  pub sheet : Sheet

abbrev pub state_at : Phase → Sheet → SheetAt
state_at phase sheet = record { phase = phase; sheet = sheet }

-- ---- What calls give of tables

-- the tables with what an accepted call gives of them
abbrev pub lists_with : {K : Type 0} (act : Act K) → ValueOf K act → TableLists K → TableLists K
lists_with (Enter l r c) x t = t
lists_with (Strike l r) x t = t
lists_with (Read l r) x t = t
lists_with Settle w t = record t { partners = w.partners; left = w.left; right = w.right }
lists_with (Quote l r) x t = t
lists_with Total x t = t
lists_with Marks table t = record t { marks = table }
lists_with Start p t = record t { walk = p }
lists_with Next (Some p) t = record t { walk = p }
lists_with Next None t = t
lists_with Close x t = t
lists_with Reopen x t = t

abbrev pub lists_by : {K : Type 0} (act : Act K) → Reply (ValueOf K act) → TableLists K
    → TableLists K
lists_by act not_made t = t
lists_by act (turned_down f shortfall) t = t
lists_by act (gives x) t = lists_with act x t

-- what some calls gave last of each table but the pair tables; what it held before where they gave
-- nothing of it
abbrev pub lists_after : {K : Type 0} → TableLists K → List (Exchange K) → TableLists K
lists_after t [] = t
lists_after t (e ∷ es) = lists_after (lists_by e.act e.reply t) es

-- ---- What a program hands to a call

-- One table in one step: `own` is the sheet's before the call, x is what the call is handed, x'
-- what it leaves there, and own' the sheet's after it.
pub record Hands {X : Type 0} (size : ℕ) (fixed : Bool) (own x x' own' : List X) : Type 0 where
  -- a list of the right length is the sheet's own, as the last call left it; instead of it the call
  -- may be handed any list of a wrong length, and any at all where the table is not fixed
  pub handed : fixed ≡ true → length x ≡ size → x ≡ own
  -- a list of the right length is the sheet's own from then on, as the call leaves it
  pub kept : length x ≡ size → own' ≡ x'
  -- the sheet's own stays wherever the call leaves what it was handed
  pub stays : fixed ≡ true → x' ≡ x → own' ≡ own

-- whether no other table may be handed in place of the sheet's own: a program that swaps may hand
-- any in place of those that the state does not rest on
abbrev pub is_fixed : (swaps : Bool) → Phase → Table → Bool
is_fixed swaps phase table = rests_on phase table || not swaps

-- all tables in one step of a sheet in a state
abbrev pub HandsAll : {K : Type 0} (swaps : Bool) (s : SheetAt) (own x x' own' : TableLists K)
    → Type 0
HandsAll swaps s own x x' own' =
    (table : Table) → Hands (places_in (size_of s.sheet) table) (is_fixed swaps s.phase table)
    (list_in own table) (list_in x table) (list_in x' table) (list_in own' table)

-- the fixed tables hold this, but for the pair tables
abbrev pub HoldLast : {K : Type 0} (swaps : Bool) → Phase → (own last : TableLists K) → Type 0
HoldLast swaps phase own last = (table : Table) → is_pair_table table ≡ false
    → is_fixed swaps phase table ≡ true → list_in own table ≡ list_in last table

-- ---- What a caller sees of an answer

abbrev pub reply_by : {R T : Type 0} → (R → T) → Result R Fault → Reply T
reply_by value (Ok r) = gives (value r)
reply_by value (Err f) = turned_down f None

-- where the call leaves the state
abbrev pub reply_of : {T : Type 0} → T → Result Sheet (Refusal Sheet) → Reply T
reply_of x (Ok sheet) = gives x
reply_of x (Err r) = turned_down r.fault r.shortfall

abbrev pub state_after : (next back : Phase) → Result Sheet (Refusal Sheet) → SheetAt
state_after next back (Ok sheet) = state_at next sheet
state_after next back (Err r) = state_at back r.state

-- the partners and the prices, as a settle gives them
abbrev pub settlement_in : {K : Type 0} → TableLists K → Settlement K
settlement_in x = record { partners = x.partners; left = x.left; right = x.right }

-- the pairing that a step of a walk gives, with this in the walk list
abbrev pub pairing_by : List ℕ → Step → Option (List ℕ)
pairing_by list Onward = Some list
pairing_by list End = None

-- ---- Cells

-- what the pair tables hold at the place of a pair with this cell: its cost and 1 where it stands,
-- zero and 0 where it is absent
abbrev pub cost_in : {K : Type 0} → K → Option K → K
cost_in nought None = nought
cost_in nought (Some c) = c

abbrev pub byte_in : {K : Type 0} → Option K → ℕ
byte_in None = 0
byte_in (Some c) = 1

-- ---- Steps and programs

module _ {K : Type 0} (kind : Ghosts K) where
  -- What the contract of each public function says: the state, what is asked for, what came of it,
  -- the tables x that the call is handed and x' that it leaves, and the state after it. What an
  -- answer gives of a table is what the call left there; the tables that it does not take stay.
  abbrev pub IsAnswered : SheetAt → (act : Act K) → Reply (ValueOf K act) → (x x' : TableLists K)
      → SheetAt → Type 0
  IsAnswered s (Enter l r c) o x x' s' = (a : Result (Unit {0}) Fault) × (o ≡ reply_by (λ u. u) a)
      × Enters kind (size_of s.sheet) x.costs x.standing l r c a x'.costs x'.standing
      × (x' ≡ record x { costs = x'.costs; standing = x'.standing }) × (s' ≡ s)
  IsAnswered s (Strike l r) o x x' s' = (a : Result (Unit {0}) Fault) × (o ≡ reply_by (λ u. u) a)
      × Strikes kind (size_of s.sheet) x.costs x.standing l r a x'.costs x'.standing
      × (x' ≡ record x { costs = x'.costs; standing = x'.standing }) × (s' ≡ s)
  IsAnswered s (Read l r) o x x' s' = (a : Result K Fault) × (o ≡ reply_by (λ c. c) a)
      × Reads kind (size_of s.sheet) x.costs x.standing l r a
      × (x' ≡ x) × (s' ≡ s)
  IsAnswered s Settle o x x' s' = (a : Result Sheet (Refusal Sheet))
      × (o ≡ reply_of (settlement_in x') a)
      × Settles kind s.sheet (lent_of (size_of s.sheet) x) (lent_of (size_of s.sheet) x') a
      × (x' ≡ record x { partners = x'.partners; left = x'.left; right = x'.right })
      × (s' ≡ state_after settled opened a)
  IsAnswered s (Quote l r) o x x' s' = (a : Result (K × K) Fault) × (o ≡ reply_by (λ q. q) a)
      × Responds (quote_needs kind (lent_of (size_of s.sheet) x) l r) a
      (IsQuote kind (lent_of (size_of s.sheet) x) l r) ⊤
      × (x' ≡ x) × (s' ≡ s)
  IsAnswered s Total o x x' s' = (a : Result K Fault) × (o ≡ reply_by (λ sum. sum) a)
      × Responds (total_needs kind (lent_of (size_of s.sheet) x)) a
      (λ sum. kind.meaning sum ≡ total (grid kind (lent_of (size_of s.sheet) x)) x.partners) ⊤
      × (x' ≡ x) × (s' ≡ s)
  IsAnswered s Marks o x x' s' = (a : Result (Unit {0}) Fault) × (o ≡ reply_by (λ u. x'.marks) a)
      × Responds (marks_needs kind (lent_of (size_of s.sheet) x) (length x.marks)) a
      (λ u. AreMarks kind (lent_of (size_of s.sheet) x) x'.marks) (x'.marks ≡ x.marks)
      × (x' ≡ record x { marks = x'.marks }) × (s' ≡ s)
  IsAnswered s Start o x x' s' = (a : Result Sheet (Refusal Sheet)) × (o ≡ reply_of x'.walk a)
      × Starts kind (lent_of (size_of s.sheet) x) s.sheet x.walk x'.walk a
      × (x' ≡ record x { walk = x'.walk }) × (s' ≡ state_after walking settled a)
  IsAnswered s Next o x x' s' = (a : Result Step Fault) × (o ≡ reply_by (pairing_by x'.walk) a)
      × Responds (next_needs kind (lent_of (size_of s.sheet) x) x.walk) a
      (IsStep kind (lent_of (size_of s.sheet) x) x.walk x'.walk) (x'.walk ≡ x.walk)
      × (x' ≡ record x { walk = x'.walk }) × (s' ≡ s)
  IsAnswered s Close o x x' s' = (o ≡ gives tt) × (x' ≡ x) × (s' ≡ state_at settled s.sheet)
  IsAnswered s Reopen o x x' s' = (o ≡ gives tt) × (x' ≡ x) × (s' ≡ state_at opened s.sheet)

  -- a call that the state has is made; one that it does not have is not
  abbrev pub IsCalled : SheetAt → (act : Act K) → Reply (ValueOf K act) → (x x' : TableLists K)
      → SheetAt → Type 0
  IsCalled s act o x x' s' = ((allows s.phase act ≡ true) × IsAnswered s act o x x' s')
      ⊎ ((allows s.phase act ≡ false) × (o ≡ not_made) × (x' ≡ x) × (s' ≡ s))

  -- One step: the state and the sheet's own tables before it, the call with what came of it, and
  -- the state and the sheet's own tables after it. The call is handed x and leaves x'.
  pub record Makes (swaps : Bool) (s : SheetAt) (own : TableLists K) (e : Exchange K) (s' : SheetAt)
      (own' : TableLists K) : Type 0 where
    pub x : TableLists K
    pub x' : TableLists K
    pub lengths_are : e.handed ≡ lengths x
    pub hands : HandsAll swaps s own x x' own'
    pub meets : IsCalled s e.act e.reply x x' s'

  -- A program on a sheet of n blocks a plane, after so many calls: it opens the sheet over the
  -- tables that it is lent, of which `open` takes the two pair tables and the others stay as they
  -- were; and then it makes one call after the other, each in the state and with the tables that
  -- the one before left.
  pub data Program (swaps : Bool) (n : ℕ) (lent : TableLists K)
      : List (Exchange K) → SheetAt → TableLists K → Type 0 where
    opens : (sheet : Sheet) (own : TableLists K)
        → OpensSheet kind.zero n lent.costs lent.standing (Ok sheet) own.costs own.standing
        → own ≡ record lent { costs = own.costs; standing = own.standing }
        → Program swaps n lent [] (state_at opened sheet) own
    calls : {es : List (Exchange K)} {s s' : SheetAt} {own own' : TableLists K} {e : Exchange K}
        → Program swaps n lent es s own → Makes swaps s own e s' own'
        → Program swaps n lent (es ++ e ∷ []) s' own'

  -- ---- What a program leaves

  -- the pair tables of n blocks a plane show these cells, and nothing else
  pub record ShowCells (n : ℕ) (cells : ℕ → ℕ → Option K) (own : TableLists K) : Type 0 where
    pub costs_long : length own.costs ≡ places_of n
    pub standing_long : length own.standing ≡ places_of n
    pub costs : (l r : ℕ) → l < n → r < rights_of n
        → slice_index_or own.costs (place_of n l r) kind.zero ≡ cost_in kind.zero (cells l r)
    pub standing : (l r : ℕ) → l < n → r < rights_of n
        → byte_of n own.standing l r ≡ byte_in (cells l r)

  -- WHAT THE TABLES HOLD after some calls of a program: the pair tables show the book's cells, and
  -- each other table that the state rests on holds what the calls gave of it last, so partners and
  -- prices are what the last settle wrote, and the walk list is the pairing that was handed out
  -- last. Of a program that swaps no tables this is so of all tables in every state: a table that
  -- no call gave anything of is as it was lent.
  pub record Leaves (swaps : Bool) (n : ℕ) (lent : TableLists K) (es : List (Exchange K))
      (s : SheetAt) (own : TableLists K) : Type 0 where
    pub phase : s.phase ≡ (book_after kind n blank es).phase
    pub size : size_of s.sheet ≡ n
    pub cells : ShowCells n (book_after kind n blank es).cells own
    pub last : HoldLast swaps s.phase own (lists_after lent es)

  -- THE MAIN THEOREM: every program keeps the promise, its tables hold what is said above after its
  -- last call, and the worst reading of each pair stands, in the book and so in the tables that
  -- show its cells. The beginning of a program is a program, so this is said after every call.
  abbrev pub EveryProgramKeeps : Type 0
  EveryProgramKeeps = (swaps : Bool) (n : ℕ) (lent : TableLists K) (es : List (Exchange K))
      (s : SheetAt) (own : TableLists K) → Program swaps n lent es s own
      → KeepsPromise kind n es × Leaves swaps n lent es s own × WorstReadingsStand kind n es
