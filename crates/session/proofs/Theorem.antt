-- Every program keeps the promise, its tables hold what is said of them, and the worst reading of
-- each pair stands.
-- Idea: a sheet that was just opened holds a blank book, and each step is right and goes on with
-- the book, by the lemma of its call. So after every call all were right, by an induction along the
-- program.
use Rattle.std.proofs.Common.{◌≡◌, ℕ, Bool, false, not, List, [], ◌∷◌, ◌++◌, Ok, sym, refl, ap}
use Rattle.std.proofs.Common.{subst, inl, inr}
use Rattle.std.proofs.lemmas.Bool.{or_left}
use Rattle.cost.specs.declared.Cost.{Ghosts}
use Rattle.cost.specs.Kind.{KindLaws}
use Rattle.sheet.specs.Opening.{OpensSheet}
use Rattle.sheet.specs.Size.{Sheet, size_of}
use Rattle.session.specs.declared.call.Act.{Act}
use Rattle.session.specs.declared.call.Act.TheVariants.{Enter, Strike, Read, Settle, Quote, Total}
use Rattle.session.specs.declared.call.Act.TheVariants.{Marks, Start, Next, Close, Reopen}
use Rattle.session.specs.Book.{Book, opened, made_in, allows, blank, step}
use Rattle.session.specs.Exchange.{ValueOf, Reply, Exchange, call_of}
use Rattle.session.specs.Lists.{TableLists, list_in, lengths, rests_on}
use Rattle.session.specs.Promise.{Settling, fresh, settling_by, IsRight, AllRight, book_after}
use Rattle.session.specs.Program.{SheetAt, state_at, HandsAll, IsAnswered, IsCalled, Makes, Program}
use Rattle.session.specs.Program.{opens, calls, EveryProgramKeeps}
use Rattle.session.proofs.Allowing.{phase_told}
use Rattle.session.proofs.OnSettled as settled_calls
use Rattle.session.proofs.Cells.{opened_shows}
use Rattle.session.proofs.Held.{Keeps, GoesOn, keeps_same}
use Rattle.session.proofs.Judging.{not_made_next}
use Rattle.session.proofs.Leaving.{hold_last}
use Rattle.session.proofs.OnOpen as open_calls
use Rattle.session.proofs.Resting.{OneCall, n, here}
use Rattle.session.proofs.Settles.{settles}
use Rattle.session.proofs.OnWalk as walk_calls
use Rattle.session.proofs.Worst.{worst_readings_stand}

-- ---- One step

-- a call that the state has
made : {K : Type 0} {kind : Ghosts K} {swaps : Bool} {b : Book K} {s : Settling K} (act : Act K)
    (m : OneCall kind swaps (made_in act) b s) (o : Reply (ValueOf K act)) (state : SheetAt)
    → IsAnswered kind (here m) act o m.x m.x' state
    → GoesOn kind (n m) b s act (lengths m.x) o state m.own'
made (Enter l r c) m o state h = open_calls.enters m l r c o state h
made (Strike l r) m o state h = open_calls.strikes m l r o state h
made (Read l r) m o state h = open_calls.reads m l r o state h
made Settle m o state h = settles m o state h
made (Quote l r) m o state h = settled_calls.quotes m l r o state h
made Total m o state h = settled_calls.totals m o state h
made Marks m o state h = settled_calls.marks m o state h
made Start m o state h = settled_calls.starts m o state h
made Next m o state h = walk_calls.steps m o state h
made Close m o state h = walk_calls.closes m o state h
made Reopen m o state h = settled_calls.reopens m o state h

module _ {K : Type 0} (kind : Ghosts K) (swaps : Bool) where
  next_of : (state state' : SheetAt) (own own' : TableLists K) (e : Exchange K)
      → Makes kind swaps state own e state' own' → (b : Book K) (s : Settling K)
      → Keeps kind (size_of state.sheet) b s state own
      → GoesOn kind (size_of state.sheet) b s e.act e.handed e.reply state' own'
  next_of state state' own own' e m b s keeps =
      subst (λ h. GoesOn kind (size_of state.sheet) b s e.act h e.reply state' own')
      (sym m.lengths_are) (by m.meets)
    where
      by : IsCalled kind state e.act e.reply m.x m.x' state'
          → GoesOn kind (size_of state.sheet) b s e.act (lengths m.x) e.reply state' own'
      by (inl h) =
          let p = phase_told state.phase (made_in e.act) h.0 in
          let one : OneCall kind swaps (made_in e.act) b s = record {
            sheet = state.sheet;
            own = own;
            x = m.x;
            x' = m.x';
            own' = own';
            keeps = subst (λ q. Keeps kind (size_of state.sheet) b s (state_at q state.sheet) own) p
                keeps;
            hands = subst (λ q. HandsAll swaps (state_at q state.sheet) own m.x m.x' own') p
                m.hands;
          } in
          made e.act one e.reply state'
          (subst (λ q. IsAnswered kind (state_at q state.sheet) e.act e.reply m.x m.x' state') p
          h.1)
      by (inr h) =
          subst (λ st. GoesOn kind (size_of state.sheet) b s e.act (lengths m.x) e.reply st own')
          (sym h.3)
          (not_made_next kind (size_of state.sheet) b s e.act (lengths m.x) e.reply state own' h.1
          (subst (λ q. allows q e.act ≡ false) keeps.phase_is h.0)
          (keeps_same kind (size_of state.sheet) own own' b s state (λ table rests.
          (m.hands table).stays (or_left (rests_on state.phase table) (not swaps) rests)
          (ap (λ y. list_in y table) h.2)) keeps))

-- ---- Along a program

module _ {K : Type 0} (kind : Ghosts K) (n : ℕ) where
  -- what was told after some calls
  abbrev pub settling_after : Book K → Settling K → List (Exchange K) → Settling K
  settling_after b s [] = s
  settling_after b s (e ∷ es) =
      settling_after (step kind n b (call_of e)) (settling_by kind n b s e.act e.reply) es

  all_right_more : (b : Book K) (s : Settling K) (es : List (Exchange K)) (e : Exchange K)
      → AllRight kind n b s es → IsRight kind n (book_after kind n b es) (settling_after b s es) e
      → AllRight kind n b s (es ++ e ∷ [])
  all_right_more b s [] e h i = (i, tt)
  all_right_more b s (d ∷ es) e h i = (
    h.0,
    all_right_more (step kind n b (call_of d)) (settling_by kind n b s d.act d.reply) es e h.1 i,
  )

  book_after_more : (b : Book K) (es : List (Exchange K)) (e : Exchange K)
      → book_after kind n b (es ++ e ∷ []) ≡ step kind n (book_after kind n b es) (call_of e)
  book_after_more b [] e = refl
  book_after_more b (d ∷ es) e = book_after_more (step kind n b (call_of d)) es e

  settling_after_more : (b : Book K) (s : Settling K) (es : List (Exchange K)) (e : Exchange K)
      → settling_after b s (es ++ e ∷ [])
      ≡ settling_by kind n (book_after kind n b es) (settling_after b s es) e.act e.reply
  settling_after_more b s [] e = refl
  settling_after_more b s (d ∷ es) e =
      settling_after_more (step kind n b (call_of d)) (settling_by kind n b s d.act d.reply) es e

  -- all calls so far were right, and the tables hold what the book says
  pub record RightSoFar (es : List (Exchange K)) (state : SheetAt)
      (own : TableLists K) : Type 0 where
    pub right : AllRight kind n blank (fresh kind n) es
    pub keeps : Keeps kind n (book_after kind n blank es) (settling_after blank (fresh kind n) es)
        state own

  going_more : (es : List (Exchange K)) (e : Exchange K) (state state' : SheetAt)
      (own own' : TableLists K) → RightSoFar es state own
      → GoesOn kind n (book_after kind n blank es) (settling_after blank (fresh kind n) es) e.act
      e.handed e.reply state' own'
      → RightSoFar (es ++ e ∷ []) state' own'
  going_more es e state state' own own' g next = record {
    right = all_right_more blank (fresh kind n) es e g.right next.right;
    keeps =
        subst (λ c. Keeps kind n c (settling_after blank (fresh kind n) (es ++ e ∷ [])) state' own')
        (sym (book_after_more blank es e))
        (subst (λ t. Keeps kind n (step kind n (book_after kind n blank es) (call_of e)) t state'
        own') (sym (settling_after_more blank (fresh kind n) es e)) next.keeps);
  }

  begun : (sheet : Sheet) (costs : List K) (standing : List ℕ) (own : TableLists K)
      → OpensSheet kind.zero n costs standing (Ok sheet) own.costs own.standing
      → RightSoFar [] (state_at opened sheet) own
  begun sheet costs standing own is = record {
    right = tt;
    keeps = record {
      phase_is = refl;
      size_is = ap size_of is.1.0;
      shows = rw (is.1.1.costs_are, is.1.1.standing_are) (opened_shows kind n is.0.0.few);
      walks = record { walks = (tt, tt); marks = tt };
      beyond = tt;
    };
  }

module _ {K : Type 0} (kind : Ghosts K) (swaps : Bool) (n : ℕ) (lent : TableLists K) where
  gone_on : (es : List (Exchange K)) (e : Exchange K) (state state' : SheetAt)
      (own own' : TableLists K)
      → Makes kind swaps state own e state' own' → RightSoFar kind n es state own
      → RightSoFar kind n (es ++ e ∷ []) state' own'
  gone_on es e state state' own own' m g =
      let next = subst (λ k. (b : Book K) (s : Settling K) → Keeps kind k b s state own
      → GoesOn kind k b s e.act e.handed e.reply state' own') g.keeps.size_is
      (next_of kind swaps state state' own own' e m) in
      going_more kind n es e state state' own own' g
      (next (book_after kind n blank es) (settling_after kind n blank (fresh kind n) es) g.keeps)

  pub going : {es : List (Exchange K)} {state : SheetAt} {own : TableLists K}
      → Program kind swaps n lent es state own → RightSoFar kind n es state own
  going (opens sheet own o e) = begun kind n sheet lent.costs lent.standing own o
  going (calls {es = es} {s = s} {s' = s'} {own = own} {own' = own'} {e = e} program m) =
      gone_on es e s s' own own' m (going program)

pub every_program_keeps : {K : Type 0} (kind : Ghosts K)
    → KindLaws kind.columns kind.meaning kind.zero → EveryProgramKeeps kind
every_program_keeps kind laws swaps n lent es state own program =
    let g = going kind swaps n lent program in (
      g.right,
      record {
        phase = g.keeps.phase_is;
        size = g.keeps.size_is;
        cells = record {
          costs_long = g.keeps.shows.pair_tables.costs_long;
          standing_long = g.keeps.shows.pair_tables.standing_long;
          costs = g.keeps.shows.costs_are;
          standing = g.keeps.shows.bytes_are;
        };
        last = hold_last kind swaps n lent program;
      },
      worst_readings_stand kind
          (λ x. record { sized = laws.column_count x; on_rail = laws.on_rail x }) n es g.right,
    )
