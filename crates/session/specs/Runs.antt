-- What one call of a run, and a whole run, answer and leave in the tables.
use Rattle.std.specs.Prelude.{◌≡◌, ℕ, ◌<◌, ◌≤◌, Bool, true, false, ◌⊎◌, List, [], ◌∷◌, length, take}
use Rattle.std.specs.Prelude.{Ok, Err, Some, None, Option, Result, All, Contains, MatchOption}
use Rattle.std.specs.Prelude.{MatchResult}
use Rattle.std.specs.declared.alloc.AllocError.{AllocError}
use Rattle.std.specs.declared.alloc.Global.{Global}
use Rattle.std.specs.declared.vec.Vec.{Vec}
use Rattle.cost.specs.declared.Cost.{Ghosts}
use Rattle.matching.specs.declared.augmenting.Shortfall.{Shortfall}
use Rattle.matching.specs.declared.stepping.Step.{Step}
use Rattle.matching.specs.declared.stepping.Step.TheVariants.{Next as Onward, End as Last}
use Rattle.sheet.specs.declared.fault.Fault.{Fault}
use Rattle.sheet.specs.declared.fault.Refusal.{Refusal}
use Rattle.sheet.specs.declared.fault.Cause.TheVariants.{Size, TableLength}
use Rattle.sheet.specs.Refusals.{fault}
use Rattle.sheet.specs.Size.{Sheet as OneSheet, size_of, IsSize}
use Rattle.session.specs.declared.answer.Answer.{Answer}
use Rattle.session.specs.declared.answer.Answer.TheVariants.{NotMade, Refused, Unmatched, Done}
use Rattle.session.specs.declared.answer.Answer.TheVariants.{Settled, Quoted, Amount, Marked}
use Rattle.session.specs.declared.answer.Answer.TheVariants.{Pairing, End}
use Rattle.session.specs.declared.call.Act.{Act}
use Rattle.session.specs.declared.call.Act.TheVariants.{Enter, Strike, Read, Settle, Quote, Total}
use Rattle.session.specs.declared.call.Act.TheVariants.{Marks, Start, Next, Close, Reopen}
use Rattle.session.specs.declared.call.Call.{Call}
use Rattle.session.specs.declared.call.Lengths.{Lengths}
use Rattle.session.specs.declared.running.Stopped.{Stopped}
use Rattle.session.specs.declared.running.Stopped.TheVariants.{Sheet, NotLent, Memory}
use Rattle.session.specs.declared.state.State.{State}
use Rattle.session.specs.declared.state.State.TheVariants.{Open, Settled as IsSettled, Walking}
use Rattle.session.specs.declared.sheet_tables.SheetTables.{SheetTables}
use Rattle.session.specs.Book.{opened, settled, walking}
use Rattle.session.specs.Exchange.{ValueOf, Reply, not_made, turned_down, gives, Exchange}
use Rattle.session.specs.Exchange.{call_of}
use Rattle.session.specs.Lists.{TableLists, lengths, right_lengths}
use Rattle.session.specs.Program.{SheetAt, state_at, Makes, Program, Leaves}
use Rattle.session.specs.Promise.{KeepsPromise}
use Rattle.session.specs.Readings.{WorstReadingsStand}

-- ---- States and tables as a program sees them

abbrev pub state_of : State → SheetAt
state_of (Open sheet) = state_at opened sheet
state_of (IsSettled sheet) = state_at settled sheet
state_of (Walking sheet) = state_at walking sheet

abbrev pub tables_of : {K : Type 0} → SheetTables K → TableLists K
tables_of t = record {
  costs = t.costs.items;
  standing = t.standing.items;
  partners = t.partners.items;
  left = t.left.items;
  right = t.right.items;
  walk = t.walk.items;
  marks = t.marks.items;
}

-- a call that asks for this and is handed tables of these lengths
abbrev pub call_for : {K : Type 0} → Act K → Lengths → Call K
call_for act h = record { act = act; handed = h }

-- no more places than there are
pub record AreNoLonger (h most : Lengths) : Type 0 where
  pub costs : h.costs ≤ most.costs
  pub standing : h.standing ≤ most.standing
  pub partners : h.partners ≤ most.partners
  pub left : h.left ≤ most.left
  pub right : h.right ≤ most.right
  pub walk : h.walk ≤ most.walk
  pub marks : h.marks ≤ most.marks

-- ---- Answers

-- the answer says what came of the call
abbrev pub IsAnswerOf : {K : Type 0} (act : Act K) → Reply (ValueOf K act) → Answer K → Type 0
IsAnswerOf act not_made a = a ≡ NotMade
IsAnswerOf act (turned_down f None) a = a ≡ Refused f
IsAnswerOf act (turned_down f (Some s)) a = a ≡ Unmatched f s
IsAnswerOf (Enter l r c) (gives x) a = a ≡ Done
IsAnswerOf (Strike l r) (gives x) a = a ≡ Done
IsAnswerOf (Read l r) (gives x) a = a ≡ Amount x
IsAnswerOf {K = K} Settle (gives x) a = (p : Vec ℕ Global) × (q r : Vec K Global)
    × (a ≡ Settled p q r) × (p.items ≡ x.partners) × (q.items ≡ x.left) × (r.items ≡ x.right)
IsAnswerOf (Quote l r) (gives x) a = a ≡ Quoted x.0 x.1
IsAnswerOf Total (gives x) a = a ≡ Amount x
IsAnswerOf Marks (gives x) a = (v : Vec ℕ Global) × (a ≡ Marked v) × (v.items ≡ x)
IsAnswerOf Start (gives x) a = (v : Vec ℕ Global) × (a ≡ Pairing v) × (v.items ≡ x)
IsAnswerOf Next (gives (Some x)) a = (v : Vec ℕ Global) × (a ≡ Pairing v) × (v.items ≡ x)
IsAnswerOf Next (gives None) a = a ≡ End
IsAnswerOf Close (gives x) a = a ≡ Done
IsAnswerOf Reopen (gives x) a = a ≡ Done

-- the answer gives a refusal, with the crowd set where there is one
abbrev pub IsRefusalAnswer : {K : Type 0} → Fault → Option Shortfall → Answer K → Type 0
IsRefusalAnswer f shortfall a = MatchOption shortfall (a ≡ Refused f) (λ s. a ≡ Unmatched f s)

-- the answer gives what came of a step of a walk, of a start and of a settle, with these copies of
-- the tables that the call wrote
abbrev pub IsOnwardAnswer : {K : Type 0} → Step → Vec ℕ Global → Answer K → Type 0
IsOnwardAnswer Onward list a = a ≡ Pairing list
IsOnwardAnswer Last list a = a ≡ End

abbrev pub IsStepAnswer : {K : Type 0} → Result Step Fault → Vec ℕ Global → Answer K → Type 0
IsStepAnswer outcome list a =
    MatchResult outcome (λ step. IsOnwardAnswer step list a) (λ f. a ≡ Refused f)

abbrev pub IsStartAnswer : {K : Type 0} → Result OneSheet (Refusal OneSheet) → Vec ℕ Global
    → Answer K → Type 0
IsStartAnswer outcome list a =
    MatchResult outcome (λ walk. a ≡ Pairing list) (λ r. IsRefusalAnswer r.fault r.shortfall a)

abbrev pub IsSettleAnswer : {K : Type 0} → Result OneSheet (Refusal OneSheet) → Vec ℕ Global
    → (left right : Vec K Global) → Answer K → Type 0
IsSettleAnswer outcome partners left right a =
    MatchResult outcome (λ sheet. a ≡ Settled partners left right)
    (λ r. IsRefusalAnswer r.fault r.shortfall a)

-- whether the answer to a call holds copies of tables
abbrev pub holds_copies : {K : Type 0} → Act K → Bool
holds_copies Settle = true
holds_copies Marks = true
holds_copies Start = true
holds_copies Next = true
holds_copies _ = false

-- the answers to the calls of a list say what came of each
abbrev pub AreAnswersOf : {K : Type 0} → List (Call K) → List (Answer K) → List (Exchange K)
    → Type 0
AreAnswersOf [] [] [] = Unit {0}
AreAnswersOf (call ∷ calls) (a ∷ answers) (e ∷ es) = (call_of e ≡ call) × IsAnswerOf e.act e.reply a
    × AreAnswersOf calls answers es
AreAnswersOf _ _ _ = ⊥

module _ {K : Type 0} (kind : Ghosts K) where
  -- ---- One call

  -- the call was made, and this is its answer: a step of a program over the tables, which keep
  -- their lengths
  pub record WasMade (state : State) (old : TableLists K) (call : Call K) (answer : Answer K)
      (state' : State) (new : TableLists K) : Type 0 where
    pub reply : Reply (ValueOf K call.act)
    pub answers : IsAnswerOf call.act reply answer
    pub makes : Makes kind false (state_of state) old
        (record { act = call.act; handed = call.handed; reply = reply }) (state_of state') new
    pub long : lengths new ≡ lengths old

  -- want of memory, which only an answer with copies can meet, is found before the call is made:
  -- the state comes back, and the tables are as they were
  abbrev pub MakesOne : (state : State) (old : TableLists K) → Call K
      → State × Result (Answer K) AllocError → (new : TableLists K) → Type 0
  MakesOne state old call made new =
      MatchResult made.1 (λ answer. WasMade state old call answer made.0 new)
      (λ e. (holds_copies call.act ≡ true) × (made.0 ≡ state) × (new ≡ old))

  -- ---- A run

  -- no call of a list is handed more than is lent
  abbrev pub AreLent : List (Call K) → (lent : Lengths) → Type 0
  AreLent calls lent = All (λ call. AreNoLonger call.handed lent) calls

  -- some call is
  abbrev pub ExceedsLent : List (Call K) → (lent : Lengths) → Type 0
  ExceedsLent calls lent =
      (call : Call K) × Contains calls call × (AreNoLonger call.handed lent → ⊥)

  -- no sheet is opened: the size is wrong, or the lengths are
  abbrev pub IsNoSheet : ℕ → Lengths → Fault → Type 0
  IsNoSheet n h f = (IsSize n → ⊥) × (f ≡ fault Size 0)
      ⊎ (IsSize n × (h ≡ right_lengths n → ⊥) × (f ≡ fault TableLength 0))

  -- the size and the lengths are right for a sheet
  pub record IsSheet (n : ℕ) (h : Lengths) : Type 0 where
    pub size : IsSize n
    pub right : h ≡ right_lengths n

  -- A sheet was opened over the tables as they were lent, the calls were made and have these
  -- answers, and the tables hold what the last call left: the calls are a program, so they keep the
  -- promise, the tables hold what a program leaves, and the worst reading of each pair stands.
  pub record WereMade (n : ℕ) (lent : TableLists K) (calls : List (Call K))
      (answers : List (Answer K)) (new : TableLists K) : Type 0 where
    pub sheet : IsSheet n (lengths lent)
    pub exchanges : List (Exchange K)
    pub answer : AreAnswersOf calls answers exchanges
    pub state : SheetAt
    pub program : Program kind false n lent exchanges state new
    pub keeps : KeepsPromise kind n exchanges
    pub leaves : Leaves kind false n lent exchanges state new
    pub readings : WorstReadingsStand kind n exchanges

  -- a sheet of n blocks a plane is open over the tables: a program begins
  pub record Begins (n : ℕ) (lent : TableLists K) (state : State)
      (new : TableLists K) : Type 0 where
    pub program : Program kind false n lent [] (state_of state) new
    pub sized : size_of (state_of state).sheet ≡ n

  -- What a run comes to, by its tests in their order: a call is handed more than is lent; the size
  -- is wrong, or the lengths are; every call is made; or memory ran out before one of them, and
  -- those before it were made. Refused, the tables are as they were lent. No two of these can be.
  abbrev pub Runs : ℕ → (lent : TableLists K) → List (Call K)
      → Result (Vec (Answer K) Global) (Stopped K) → (new : TableLists K) → Type 0
  Runs n lent calls (Err NotLent) new = ExceedsLent calls (lengths lent) × (new ≡ lent)
  Runs n lent calls (Err (Sheet f)) new =
      AreLent calls (lengths lent) × IsNoSheet n (lengths lent) f × (new ≡ lent)
  Runs n lent calls (Ok answers) new =
      AreLent calls (lengths lent) × WereMade n lent calls answers.items new
  Runs n lent calls (Err (Memory answers)) new =
      AreLent calls (lengths lent) × (length answers.items < length calls)
      × WereMade n lent (take (length answers.items) calls) answers.items new
