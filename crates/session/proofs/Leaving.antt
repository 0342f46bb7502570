-- Each table but the pair tables holds what the calls gave of it last, where it is fixed.
-- Idea: follow one table along the program. Where a call gives nothing of the table, it leaves what
-- it was handed, so the sheet's own stays; where it gives something of it, it was handed a table of
-- the right length, so the sheet's own is what the call left there, which is what it gave.
use Rattle.std.proofs.Common.{◌≡◌, ℕ, Bool, true, false, not, List, [], ◌∷◌, ◌++◌, length, Ok, Err}
use Rattle.std.proofs.Common.{Result, inl, inr, sym, refl, ap, ◌∙◌, subst}
use Rattle.std.proofs.lemmas.Bool.{or_left}
use Rattle.cost.specs.declared.Cost.{Ghosts}
use Rattle.matching.specs.declared.stepping.Step.{Step}
use Rattle.matching.specs.declared.stepping.Step.TheVariants.{Next as Onward, End}
use Rattle.tables.specs.Lent.{Lent}
use Rattle.sheet.specs.declared.fault.Fault.{Fault}
use Rattle.sheet.specs.declared.fault.Refusal.{Refusal}
use Rattle.sheet.specs.Needs.{Responds}
use Rattle.sheet.specs.Settling.{Settles}
use Rattle.sheet.specs.Size.{Sheet, size_of}
use Rattle.sheet.specs.Walking.{marks_needs, AreMarks, Starts, next_needs, IsStep}
use Rattle.session.specs.declared.call.Act.{Act}
use Rattle.session.specs.declared.call.Act.TheVariants.{Enter, Strike, Read, Settle, Quote, Total}
use Rattle.session.specs.declared.call.Act.TheVariants.{Marks, Start, Next, Close, Reopen}
use Rattle.session.specs.Book.{Phase, opened, settled, walking, made_in}
use Rattle.session.specs.Exchange.{ValueOf, Reply, not_made, turned_down, gives, Exchange}
use Rattle.session.specs.Lists.{Table, TableLists, list_in, lent_of, is_pair_table, is_settled}
use Rattle.session.specs.Lists.{the_costs, the_standing, the_partners, the_left, the_right}
use Rattle.session.specs.Lists.{the_walk, the_marks}
use Rattle.session.specs.Program.{SheetAt, state_at, HandsAll, is_fixed, HoldLast, reply_of}
use Rattle.session.specs.Program.{reply_by, settlement_in, pairing_by, state_after, lists_by}
use Rattle.session.specs.Program.{lists_after, IsAnswered, IsCalled, Makes, Program, opens, calls}
use Rattle.session.proofs.Allowing.{phase_told}

-- a call that gives nothing of the tables
nothing_given : {K : Type 0} (act : Act K) (t : TableLists K)
    → ((x : ValueOf K act) → lists_by act (gives x) t ≡ t) → (o : Reply (ValueOf K act))
    → lists_by act o t ≡ t
nothing_given act t h not_made = refl
nothing_given act t h (turned_down f shortfall) = refl
nothing_given act t h (gives x) = h x

-- a call that writes no table
all_same : {K : Type 0} (x x' : TableLists K) → x' ≡ x → (table : Table)
    → is_pair_table table ≡ false → list_in x' table ≡ list_in x table
all_same x x' e table beside = ap (λ y. list_in y table) e

-- a call that writes the pair tables alone
beside_pairs : {K : Type 0} (x x' : TableLists K)
    → x' ≡ record x { costs = x'.costs; standing = x'.standing } → (table : Table)
    → is_pair_table table ≡ false → list_in x' table ≡ list_in x table
beside_pairs x x' e the_costs beside = cc
beside_pairs x x' e the_standing beside = cc
beside_pairs x x' e table beside = ap (λ y. list_in y table) e

-- ---- One step

module _ {K : Type 0} (kind : Ghosts K) (swaps : Bool) (sheet : Sheet)
    (own x x' own' t : TableLists K) where
  abbrev n : ℕ
  n = size_of sheet

  module _ (p : Phase) (hands : HandsAll swaps (state_at p sheet) own x x' own')
      (last : HoldLast swaps p own t) where
    -- a table that the call leaves as it was handed it
    stays : (table : Table) → list_in x' table ≡ list_in x table → is_pair_table table ≡ false
        → is_fixed swaps p table ≡ true → list_in own' table ≡ list_in t table
    stays table e beside fixed = (hands table).stays fixed e ∙ last table beside fixed

    all_stay : x' ≡ x → HoldLast swaps p own' t
    all_stay e table beside fixed = stays table (ap (λ y. list_in y table) e) beside fixed

    -- a call that writes none of them, or none but the pair tables
    quiet : (act : Act K) → ((y : ValueOf K act) → lists_by act (gives y) t ≡ t)
        → (o : Reply (ValueOf K act))
        → ((table : Table) → is_pair_table table ≡ false → list_in x' table ≡ list_in x table)
        → HoldLast swaps p own' (lists_by act o t)
    quiet act silent o same = subst (λ (u : TableLists K). HoldLast swaps p own' u)
        (sym (nothing_given act t silent o))
        (λ table beside. stays table (same table beside) beside)

    -- a call on a settled sheet or on a walk that gives the walk list
    module _ (settled_too : is_settled p ≡ true) (e : x' ≡ record x { walk = x'.walk })
        (long : length x.walk ≡ n) where
      gives_list : HoldLast swaps walking own' (record t { walk = x'.walk })
      gives_list the_walk beside fixed = (hands the_walk).kept long
      gives_list the_marks beside fixed = stays the_marks (ap (λ y. y.marks) e) refl fixed
      gives_list the_costs beside fixed = cc
      gives_list the_standing beside fixed = cc
      gives_list table beside fixed = stays table (ap (λ y. list_in y table) e) refl
          (or_left (is_settled p) (not swaps) settled_too)

  settles : HandsAll swaps (state_at opened sheet) own x x' own' → HoldLast swaps opened own t
      → x' ≡ record x { partners = x'.partners; left = x'.left; right = x'.right }
      → (a : Result Sheet (Refusal Sheet)) → Settles kind sheet (lent_of n x) (lent_of n x') a
      → HoldLast swaps (state_after settled opened a).phase own'
      (lists_by Settle (reply_of (settlement_in x') a) t)
  settles hands last e (Ok sheet') is the_partners beside fixed =
      (hands the_partners).kept is.met.0.partners_long
  settles hands last e (Ok sheet') is the_left beside fixed =
      (hands the_left).kept is.met.0.room.left_long
  settles hands last e (Ok sheet') is the_right beside fixed =
      (hands the_right).kept is.met.0.room.right_long
  settles hands last e (Ok sheet') is the_costs beside fixed = cc
  settles hands last e (Ok sheet') is the_standing beside fixed = cc
  settles hands last e (Ok sheet') is table beside fixed =
      stays opened hands last table (ap (λ y. list_in y table) e) refl fixed
  settles hands last e (Err r) is table beside fixed = all_stay opened hands last
      (e ∙ ap (λ (l : Lent K). record x { partners = l.partners; left = l.left; right = l.right })
      is.kept) table beside fixed

  marks : HandsAll swaps (state_at settled sheet) own x x' own' → HoldLast swaps settled own t
      → x' ≡ record x { marks = x'.marks } → (a : Result (Unit {0}) Fault)
      → Responds (marks_needs kind (lent_of n x) (length x.marks)) a
      (λ u. AreMarks kind (lent_of n x) x'.marks) (x'.marks ≡ x.marks)
      → HoldLast swaps settled own' (lists_by Marks (reply_by (λ u. x'.marks) a) t)
  marks hands last e (Ok u) is the_marks beside fixed = (hands the_marks).kept is.0.0.1
  marks hands last e (Ok u) is the_costs beside fixed = cc
  marks hands last e (Ok u) is the_standing beside fixed = cc
  marks hands last e (Ok u) is table beside fixed =
      stays settled hands last table (ap (λ y. list_in y table) e) refl fixed
  marks hands last e (Err f) is table beside fixed = all_stay settled hands last
      (e ∙ ap (λ (l : List ℕ). record x { marks = l }) is.1) table beside fixed

  starts : HandsAll swaps (state_at settled sheet) own x x' own' → HoldLast swaps settled own t
      → x' ≡ record x { walk = x'.walk } → (a : Result Sheet (Refusal Sheet))
      → Starts kind (lent_of n x) sheet x.walk x'.walk a
      → HoldLast swaps (state_after walking settled a).phase own'
      (lists_by Start (reply_of x'.walk a) t)
  starts hands last e (Ok walk) is = gives_list settled hands last refl e is.met.0.1
  starts hands last e (Err r) is =
      all_stay settled hands last (e ∙ ap (λ (l : List ℕ). record x { walk = l }) is.kept)

  steps : HandsAll swaps (state_at walking sheet) own x x' own' → HoldLast swaps walking own t
      → x' ≡ record x { walk = x'.walk } → (a : Result Step Fault)
      → Responds (next_needs kind (lent_of n x) x.walk) a
      (IsStep kind (lent_of n x) x.walk x'.walk) (x'.walk ≡ x.walk)
      → HoldLast swaps walking own' (lists_by Next (reply_by (pairing_by x'.walk) a) t)
  steps hands last e (Ok Onward) is = gives_list walking hands last refl e is.0.0.1
  steps hands last e (Ok End) is = all_stay walking hands last
      (e ∙ ap (λ (l : List ℕ). record x { walk = l }) is.1.follows.3)
  steps hands last e (Err f) is =
      all_stay walking hands last (e ∙ ap (λ (l : List ℕ). record x { walk = l }) is.1)

  -- a state that rests on less
  closes : HoldLast swaps walking own' t → HoldLast swaps settled own' t
  closes last the_costs beside fixed = cc
  closes last the_standing beside fixed = cc
  closes last the_marks beside fixed = last the_marks refl fixed
  closes last table beside fixed = last table refl refl

  reopens : HoldLast swaps settled own' t → HoldLast swaps opened own' t
  reopens last the_costs beside fixed = cc
  reopens last the_standing beside fixed = cc
  reopens last the_walk beside fixed = last the_walk refl fixed
  reopens last the_marks beside fixed = last the_marks refl fixed
  reopens last table beside fixed = last table refl refl

  -- what a state, once it is known, and what came of the call, once it is, come to
  at_last : (act : Act K) (o o' : Reply (ValueOf K act)) (state state' : SheetAt) → o ≡ o'
      → state ≡ state' → HoldLast swaps state'.phase own' (lists_by act o' t)
      → HoldLast swaps state.phase own' (lists_by act o t)
  at_last act o o' state state' eo es last =
      subst (λ (st : SheetAt). HoldLast swaps st.phase own' (lists_by act o t)) (sym es)
      (subst (λ (k : Reply (ValueOf K act)). HoldLast swaps state'.phase own' (lists_by act k t))
      (sym eo) last)

  made : (act : Act K) (o : Reply (ValueOf K act)) (state : SheetAt)
      → HandsAll swaps (state_at (made_in act) sheet) own x x' own'
      → HoldLast swaps (made_in act) own t
      → IsAnswered kind (state_at (made_in act) sheet) act o x x' state
      → HoldLast swaps state.phase own' (lists_by act o t)
  made (Enter l r c) o state hands last h = at_last (Enter l r c) o o state _ refl h.4
      (quiet opened hands last (Enter l r c) (λ _. refl) o (beside_pairs x x' h.3))
  made (Strike l r) o state hands last h = at_last (Strike l r) o o state _ refl h.4
      (quiet opened hands last (Strike l r) (λ _. refl) o (beside_pairs x x' h.3))
  made (Read l r) o state hands last h = at_last (Read l r) o o state _ refl h.4
      (quiet opened hands last (Read l r) (λ _. refl) o (all_same x x' h.3))
  made Settle o state hands last h = at_last Settle o _ state _ h.1 h.4
      (settles hands last h.3 h.0 h.2)
  made (Quote l r) o state hands last h = at_last (Quote l r) o o state _ refl h.4
      (quiet settled hands last (Quote l r) (λ _. refl) o (all_same x x' h.3))
  made Total o state hands last h = at_last Total o o state _ refl h.4
      (quiet settled hands last Total (λ _. refl) o (all_same x x' h.3))
  made Marks o state hands last h = at_last Marks o _ state _ h.1 h.4
      (marks hands last h.3 h.0 h.2)
  made Start o state hands last h = at_last Start o _ state _ h.1 h.4
      (starts hands last h.3 h.0 h.2)
  made Next o state hands last h = at_last Next o _ state _ h.1 h.4
      (steps hands last h.3 h.0 h.2)
  made Close o state hands last h = at_last Close o (gives tt) state _ h.0 h.2
      (closes (all_stay walking hands last h.1))
  made Reopen o state hands last h = at_last Reopen o (gives tt) state _ h.0 h.2
      (reopens (all_stay settled hands last h.1))

-- ---- Along a program

module _ {K : Type 0} (kind : Ghosts K) (swaps : Bool) where
  step_leaves : (state state' : SheetAt) (own own' t : TableLists K) (e : Exchange K)
      → Makes kind swaps state own e state' own' → HoldLast swaps state.phase own t
      → HoldLast swaps state'.phase own' (lists_by e.act e.reply t)
  step_leaves state state' own own' t e m last = by m.meets
    where
      by : IsCalled kind state e.act e.reply m.x m.x' state'
          → HoldLast swaps state'.phase own' (lists_by e.act e.reply t)
      by (inl h) =
          let p = phase_told state.phase (made_in e.act) h.0 in
          made kind swaps state.sheet own m.x m.x' own' t e.act e.reply state'
          (subst (λ q. HandsAll swaps (state_at q state.sheet) own m.x m.x' own') p m.hands)
          (subst (λ q. HoldLast swaps q own t) p last)
          (subst (λ q. IsAnswered kind (state_at q state.sheet) e.act e.reply m.x m.x' state') p
          h.1)
      by (inr h) =
          at_last kind swaps state.sheet own m.x m.x' own' t e.act e.reply not_made state' state
          h.1 h.3
          (all_stay kind swaps state.sheet own m.x m.x' own' t state.phase m.hands last h.2)

  lists_after_more : (t : TableLists K) (es : List (Exchange K)) (e : Exchange K)
      → lists_after t (es ++ e ∷ []) ≡ lists_by e.act e.reply (lists_after t es)
  lists_after_more t [] e = refl
  lists_after_more t (d ∷ es) e = lists_after_more (lists_by d.act d.reply t) es e

  pub hold_last : (n : ℕ) (lent : TableLists K) {es : List (Exchange K)} {state : SheetAt}
      {own : TableLists K} → Program kind swaps n lent es state own
      → HoldLast swaps state.phase own (lists_after lent es)
  hold_last k lent (opens sheet own o e) =
      λ table beside fixed. beside_pairs lent own e table beside
  hold_last k lent (calls {es = es} {s = s} {s' = s'} {own = own} {own' = own'} {e = e} program m) =
      subst (λ (t : TableLists K). HoldLast swaps s'.phase own' t) (sym
      (lists_after_more lent es e))
      (step_leaves s s' own own' (lists_after lent es) e m (hold_last k lent program))
