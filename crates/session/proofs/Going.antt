-- A run is a program: opening begins it, and each call that is made is one step more.
-- Idea: the calls so far with what came of each are the exchanges of a program that has come to the
-- state and the tables as they are; the law is then cited for it as a whole.
use Rattle.std.proofs.Common.{◌≡◌, ℕ, ◌+◌, ◌<◌, ◌≤◌, false, List, [], ◌∷◌, ◌++◌, length, take}
use Rattle.std.proofs.Common.{Ok, Err, Result, inl, inr, get_or, sym, refl, ap, ◌∙◌, subst, arith}
use Rattle.std.specs.Vec.{with_items}
use Rattle.std.specs.declared.alloc.AllocError.{AllocError}
use Rattle.std.proofs.lemmas.List.{length-take-le, take_all, take_more, with_items_is}
use Rattle.cost.specs.declared.Cost.{Ghosts}
use Rattle.sheet.specs.declared.fault.Fault.{Fault}
use Rattle.sheet.specs.declared.fault.Refusal.{Refusal}
use Rattle.sheet.specs.Opening.{open_needs, OpensSheet}
use Rattle.sheet.proofs.Needs.{met_or_not}
use Rattle.sheet.specs.Settling.{Settles}
use Rattle.sheet.specs.Size.{Sheet, size_of, IsSize}
use Rattle.sheet.specs.Walking.{Starts}
use Rattle.tables.specs.Lent.{Lent}
use Rattle.session.specs.declared.answer.Answer.{Answer}
use Rattle.session.specs.declared.call.Act.{Act}
use Rattle.session.specs.declared.call.Act.TheVariants.{Settle, Start, Close, Reopen}
use Rattle.session.specs.declared.call.Call.{Call}
use Rattle.session.specs.declared.sheet_tables.SheetTables.{SheetTables}
use Rattle.session.specs.declared.state.State.{State}
use Rattle.session.specs.declared.state.State.TheVariants.{Open}
use Rattle.session.specs.Exchange.{ValueOf, Reply, Exchange, call_of}
use Rattle.session.specs.Book.{Phase}
use Rattle.session.specs.Lists.{TableLists, lengths, right_lengths}
use Rattle.session.specs.Program.{SheetAt, state_after, IsAnswered, IsCalled, Program, opens, calls}
use Rattle.session.specs.Program.{EveryProgramKeeps}
use Rattle.session.specs.Runs.{state_of, IsAnswerOf, AreAnswersOf, WasMade, WereMade, Begins}
use Rattle.session.specs.Runs.{tables_of, MakesOne, IsSheet}

-- ---- The size stays

module _ {K : Type 0} (kind : Ghosts K) where
  settle_size : (sheet : Sheet) (x x' : Lent K) (next back : Phase)
      (a : Result Sheet (Refusal Sheet)) → Settles kind sheet x x' a
      → size_of (state_after next back a).sheet ≡ size_of sheet
  settle_size sheet x x' next back (Ok s) h = ap size_of h.same
  settle_size sheet x x' next back (Err r) h = ap size_of h.same

  start_size : (sheet : Sheet) (x : Lent K) (list list' : List ℕ) (next back : Phase)
      (a : Result Sheet (Refusal Sheet)) → Starts kind x sheet list list' a
      → size_of (state_after next back a).sheet ≡ size_of sheet
  start_size sheet x list list' next back (Ok s) h = ap size_of h.same
  start_size sheet x list list' next back (Err r) h = ap size_of h.same

  answers_size : (s : SheetAt) (act : Act K) (o : Reply (ValueOf K act)) (x x' : TableLists K)
      (s' : SheetAt) → IsAnswered kind s act o x x' s' → size_of s'.sheet ≡ size_of s.sheet
  answers_size s Settle o x x' s' m = ap (λ t. size_of t.sheet) m.4
      ∙ settle_size s.sheet _ _ _ _ m.0 m.2
  answers_size s Start o x x' s' m = ap (λ t. size_of t.sheet) m.4
      ∙ start_size s.sheet _ _ _ _ _ m.0 m.2
  answers_size s Close o x x' s' m = ap (λ t. size_of t.sheet) m.2
  answers_size s Reopen o x x' s' m = ap (λ t. size_of t.sheet) m.2
  answers_size s _ o x x' s' m = ap (λ t. size_of t.sheet) m.4

  meets_size : (s : SheetAt) (act : Act K) (o : Reply (ValueOf K act)) (x x' : TableLists K)
      (s' : SheetAt) → IsCalled kind s act o x x' s' → size_of s'.sheet ≡ size_of s.sheet
  meets_size s act o x x' s' (inl m) = answers_size s act o x x' s' m.1
  meets_size s act o x x' s' (inr m) = ap (λ t. size_of t.sheet) m.3

  -- ---- What a call came to, once it is known

  module _ (state : State) (old : TableLists K) (call : Call K)
      (made : State × Result (Answer K) AllocError) (new : TableLists K)
      (makes : MakesOne kind state old call made new) where
    pub made_as : (answer : Answer K) → made.1 ≡ Ok answer
        → WasMade kind state old call answer made.0 new
    made_as answer e = rw e at makes

    pub not_made_then : (none : AllocError) → made.1 ≡ Err none → new ≡ old
    not_made_then none e = let h = rw e at makes in h.2

-- ---- Lists

answers_more : {K : Type 0} (cs : List (Call K)) (answers : List (Answer K))
    (es : List (Exchange K)) (call : Call K) (answer : Answer K) (e : Exchange K)
    → AreAnswersOf cs answers es → call_of e ≡ call → IsAnswerOf e.act e.reply answer
    → AreAnswersOf (cs ++ call ∷ []) (answers ++ answer ∷ []) (es ++ e ∷ [])
answers_more [] [] [] call answer e h is says = (is, says, tt)
answers_more (c ∷ cs) (a ∷ answers) (x ∷ es) call answer e h is says =
    (h.0, h.1, answers_more cs answers es call answer e h.2 is says)
answers_more _ _ _ call answer e h is says = absurd h

answers_long : {K : Type 0} (cs : List (Call K)) (answers : List (Answer K))
    (es : List (Exchange K)) → AreAnswersOf cs answers es → length answers ≡ length cs
answers_long [] [] [] h = refl
answers_long (c ∷ cs) (a ∷ answers) (x ∷ es) h = omega (arith, answers_long cs answers es h.2)
answers_long _ _ _ h = absurd h

-- ---- A run that goes on

module _ {K : Type 0} (kind : Ghosts K) (n : ℕ) where
  -- `open` at a sound size and over tables of the right lengths: it is never refused, and a program
  -- begins
  module _ (t : SheetTables K) (xs costs : List K) (ys standing : List ℕ) (a : Result Sheet Fault)
      (size : IsSize n) (right : lengths (tables_of t) ≡ right_lengths n)
      (ex : xs ≡ t.costs.items) (ey : ys ≡ t.standing.items)
      (is : OpensSheet kind.zero n xs ys a costs standing) where
    pub opens_always : (f : Fault) → a ≡ Err f → ⊥
    opens_always f e =
        met_or_not (open_needs n (length xs) (length ys)) f (
          size,
          (
            record {
              costs = ap length ex ∙ ap (λ l. l.costs) right;
              standing = ap length ey ∙ ap (λ l. l.standing) right;
            },
            tt,
          ),
        ) (rw e at is).0

    pub begun : length costs ≡ length xs → length standing ≡ length ys → (sheet : Sheet)
        → a ≡ Ok sheet → Begins kind n (tables_of t) (Open sheet) (tables_of (record t {
          costs = with_items t.costs costs;
          standing = with_items t.standing standing;
        }))
    begun ec es sheet e =
        let accepted : OpensSheet kind.zero n xs ys (Ok sheet) costs standing = rw e at is in
        let wc : (with_items t.costs costs).items ≡ costs =
        with_items_is t.costs costs (ec ∙ ap length ex ∙ sym t.costs.ok.0) in
        let ws : (with_items t.standing standing).items ≡ standing =
        with_items_is t.standing standing (es ∙ ap length ey ∙ sym t.standing.ok.0) in
        let opening : OpensSheet kind.zero n t.costs.items t.standing.items (Ok sheet)
        (with_items t.costs costs).items (with_items t.standing standing).items =
        rw (wc, ws, ← ex, ← ey) accepted in
        record {
          program = opens sheet _ opening refl;
          sized = ap size_of accepted.1.0;
        }

  -- the calls that were made so far over the tables as they were lent, and what came of them
  module _ (lent : TableLists K) where
    pub record Going (made : List (Call K)) (answers : List (Answer K)) (state : State)
        (own : TableLists K) : Type 0 where
      pub exchanges : List (Exchange K)
      pub answer : AreAnswersOf made answers exchanges
      pub program : Program kind false n lent exchanges (state_of state) own
      pub sized : size_of (state_of state).sheet ≡ n
      pub sheet : IsSheet kind n (lengths lent)
      pub long : lengths own ≡ lengths lent

    pub going_none : (state : State) (answers : List (Answer K)) (own : TableLists K)
        → answers ≡ [] → IsSheet kind n (lengths lent) → lengths own ≡ lengths lent
        → Begins kind n lent state own → Going [] answers state own
    going_none state answers own e sheet long b = rw e (record {
      exchanges = [];
      answer = tt;
      program = b.program;
      sized = b.sized;
      sheet = sheet;
      long = long;
    })

    -- one call more
    pub going_on : (cs : List (Call K)) (i : ℕ) (call : Call K)
        (answers reserved answers' : List (Answer K)) (answer : Answer K) (state state' : State)
        (own own' : TableLists K) → i < length cs → call ≡ get_or cs i call → reserved ≡ answers
        → answers' ≡ reserved ++ answer ∷ [] → WasMade kind state own call answer state' own'
        → Going (take i cs) answers state own
        → Going (take (i + 1) cs) answers' state' own'
    going_on cs i call answers reserved answers' answer state state' own own' inside at er ea made
        g =
        let e : Exchange K =
        record { act = call.act; handed = call.handed; reply = made.reply } in
        let cs_more : take (i + 1) cs ≡ take i cs ++ call ∷ [] =
        take_more cs i call inside ∙ ap (λ c. take i cs ++ c ∷ []) (sym at) in
        rw (ea, er, cs_more) (record {
          exchanges = g.exchanges ++ e ∷ [];
          answer = answers_more (take i cs) answers g.exchanges call answer e g.answer refl
              made.answers;
          program = calls g.program made.makes;
          sized = meets_size kind (state_of state) call.act made.reply made.makes.x made.makes.x'
              (state_of state') made.makes.meets ∙ g.sized;
          sheet = g.sheet;
          long = made.long ∙ g.long;
        })

    -- the calls that were made kept the promise
    were_made : EveryProgramKeeps kind → (made : List (Call K)) (answers : List (Answer K))
        (state : State) (own : TableLists K) → Going made answers state own
        → WereMade kind n lent made answers own
    were_made law made answers state own g =
        let kept = law false n lent g.exchanges (state_of state) own g.program in
        record {
          sheet = g.sheet;
          exchanges = g.exchanges;
          answer = g.answer;
          state = state_of state;
          program = g.program;
          keeps = kept.0;
          leaves = kept.1;
          readings = kept.2;
        }

    -- all calls were made; or memory ran out before the call at i
    pub finished : EveryProgramKeeps kind → (cs : List (Call K)) (i : ℕ)
        (answers : List (Answer K)) (state : State) (own : TableLists K) → length cs ≤ i
        → Going (take i cs) answers state own → WereMade kind n lent cs answers own
    finished law cs i answers state own all g =
        subst (λ (xs : List (Call K)). WereMade kind n lent xs answers own) (take_all i cs all)
        (were_made law (take i cs) answers state own g)

    pub stopped : EveryProgramKeeps kind → (cs : List (Call K)) (i : ℕ)
        (answers answers' : List (Answer K)) (state : State) (own own' : TableLists K)
        → i < length cs → answers' ≡ answers → own' ≡ own → Going (take i cs) answers state own
        → (length answers' < length cs)
        × WereMade kind n lent (take (length answers') cs) answers' own'
    stopped law cs i answers answers' state own own' inside ea eo g =
        let count : length answers ≡ i = answers_long (take i cs) answers g.exchanges g.answer
        ∙ length-take-le i cs (omega arith) in (
          omega (arith, count, ap length ea),
          rw (ea, eo, count) (were_made law (take i cs) answers state own g),
        )
