-- A run hands each call the first places of its tables, and so each call that it makes is a step of
-- a program.
-- Idea: first places of the right length are the whole table, so what a call leaves there is the
-- table from then on; places of another length are no table of the sheet.
use Rattle.std.proofs.Common.{◌≡◌, ℕ, ◌≤◌, ◌-◌, Bool, false, List, ◌++◌, length, take, drop, Result}
use Rattle.std.proofs.Common.{sym, refl, ap, ◌∙◌, subst, inr, arith}
use Rattle.std.proofs.Math.Seq.{length_front}
use Rattle.std.proofs.lemmas.List.{append-nil, drop_all, length-take-le, take-append-drop, take_all}
use Rattle.std.proofs.lemmas.List.{with_items_is}
use Rattle.std.specs.Vec.{with_items}
use Rattle.std.specs.declared.alloc.AllocError.{AllocError}
use Rattle.std.specs.declared.alloc.Global.{Global}
use Rattle.std.specs.declared.vec.Vec.{Vec}
use Rattle.cost.specs.declared.Cost.{Ghosts}
use Rattle.sheet.specs.Size.{size_of}
use Rattle.session.specs.declared.answer.Answer.{Answer}
use Rattle.session.specs.declared.answer.Answer.TheVariants.{NotMade}
use Rattle.session.specs.declared.call.Act.{Act}
use Rattle.session.specs.declared.call.Call.{Call}
use Rattle.session.specs.declared.call.Lengths.{Lengths}
use Rattle.session.specs.declared.sheet_tables.SheetTables.{SheetTables}
use Rattle.session.specs.declared.state.State.{State}
use Rattle.session.specs.Book.{allows}
use Rattle.session.specs.Exchange.{ValueOf, Reply, not_made as absent}
use Rattle.session.specs.Lists.{Table, Item, TableLists, list_in, lengths_by, lengths, places_in}
use Rattle.session.specs.Lists.{right_lengths, the_costs, the_standing, the_partners, the_left}
use Rattle.session.specs.Lists.{the_right, the_walk, the_marks}
use Rattle.session.specs.Program.{SheetAt, Hands, HandsAll, IsCalled}
use Rattle.session.specs.Runs.{state_of, tables_of, call_for, AreNoLonger, IsAnswerOf, WasMade}
use Rattle.session.specs.Runs.{MakesOne}

-- ---- One table

-- the call is handed the first k places of the table, x, and leaves x' there
pub record Part {X : Type 0} (k : ℕ) (own x x' own' : List X) : Type 0 where
  pub lent : k ≤ length own
  pub first : x ≡ take k own
  pub long : length x' ≡ length x
  pub rest : own' ≡ x' ++ drop k own

-- the part has the length that the call is handed
part_length : {X : Type 0} (k : ℕ) (own x x' own' : List X) → Part k own x x' own' → length x ≡ k
part_length k own x x' own' p = ap length p.first ∙ length-take-le k own p.lent

-- what the call leaves there is as long, so the table keeps its length
part_long : {X : Type 0} (k : ℕ) (own x x' own' : List X) → Part k own x x' own'
    → length own' ≡ length own
part_long k own x x' own' p = ap length p.rest
    ∙ length_front own x' k (p.long ∙ ap length p.first)

-- which is what a step of a program asks of the table
part_hands : {X : Type 0} (k size : ℕ) (fixed : Bool) (own x x' own' : List X)
    → length own ≡ size → Part k own x x' own' → Hands size fixed own x x' own'
part_hands k size fixed own x x' own' right p =
    let long : length x ≡ k = part_length k own x x' own' p in
    record {
      handed = λ _ e. p.first ∙ take_all k own (omega (arith, right, long, e));
      kept = λ e. p.rest ∙ ap (λ l. x' ++ l) (drop_all k own (omega (arith, right, long, e)))
          ∙ append-nil x';
      stays = λ _ e. p.rest ∙ ap (λ l. l ++ drop k own) (e ∙ p.first) ∙ take-append-drop k own;
    }

-- a table that the call leaves as it is: xs is the slice that its places were cut from
part_kept : {X : Type 0} (k : ℕ) (own xs : List X) → k ≤ length own → xs ≡ own
    → Part k own (take (k - 0) xs) (take (k - 0) xs) own
part_kept k own xs lent e =
    let whole : k - 0 ≡ k = omega arith in
    let first : take (k - 0) xs ≡ take k own = ap (λ i. take i xs) whole ∙ ap (take k) e in
    record {
      lent = lent;
      first = first;
      long = refl;
      rest = sym (ap (λ l. l ++ drop k own) first ∙ take-append-drop k own);
    }

-- a table that the call writes: it leaves x' in the places
pub part_written : {X : Type 0} (k : ℕ) (v : Vec X Global) (xs x' : List X)
    → k ≤ length v.items → xs ≡ v.items → length x' ≡ length (take (k - 0) xs)
    → Part k v.items (take (k - 0) xs) x' (with_items v (x' ++ drop (k - 0) xs)).items
part_written k v xs x' lent e long =
    let whole : k - 0 ≡ k = omega arith in
    let all : length (x' ++ drop (k - 0) xs) ≡ v.len =
    length_front xs x' (k - 0) long ∙ ap length e ∙ sym v.ok.0 in
    record {
      lent = lent;
      first = ap (λ i. take i xs) whole ∙ ap (take k) e;
      long = long;
      rest = with_items_is v (x' ++ drop (k - 0) xs) all ∙ ap (λ i. x' ++ drop i xs) whole
          ∙ ap (λ l. x' ++ drop k l) e;
    }

-- ---- All tables

abbrev length_in : Lengths → Table → ℕ
length_in h the_costs = h.costs
length_in h the_standing = h.standing
length_in h the_partners = h.partners
length_in h the_left = h.left
length_in h the_right = h.right
length_in h the_walk = h.walk
length_in h the_marks = h.marks

-- a list for each table, made one by one
abbrev lists_of : {K : Type 0} → ((table : Table) → List (Item K table)) → TableLists K
lists_of list = record {
  costs = list the_costs;
  standing = list the_standing;
  partners = list the_partners;
  left = list the_left;
  right = list the_right;
  walk = list the_walk;
  marks = list the_marks;
}

-- lengths are the same where each is
pub same_lengths : (f g : Table → ℕ) → ((table : Table) → f table ≡ g table)
    → lengths_by f ≡ lengths_by g
same_lengths f g e =
    cc (
      e the_costs,
      e the_standing,
      e the_partners,
      e the_left,
      e the_right,
      e the_walk,
      e the_marks,
    )

length_in_is : (f : Table → ℕ) (table : Table) → length_in (lengths_by f) table ≡ f table
length_in_is f the_costs = refl
length_in_is f the_standing = refl
length_in_is f the_partners = refl
length_in_is f the_left = refl
length_in_is f the_right = refl
length_in_is f the_walk = refl
length_in_is f the_marks = refl

-- how long a table is, of tables of known lengths
length_is : {K : Type 0} (x : TableLists K) (f : Table → ℕ) → lengths x ≡ lengths_by f
    → (table : Table) → length (list_in x table) ≡ f table
length_is x f e table = sym (length_in_is (λ t. length (list_in x t)) table)
    ∙ ap (λ h. length_in h table) e ∙ length_in_is f table

abbrev pub Parts : {K : Type 0} (h : Lengths) (own x x' own' : TableLists K) → Type 0
Parts h own x x' own' = (table : Table)
    → Part (length_in h table) (list_in own table) (list_in x table) (list_in x' table)
    (list_in own' table)

-- the first places of all tables
abbrev pub cut : {K : Type 0} → Lengths → TableLists K → TableLists K
cut h seen = lists_of (λ table. take (length_in h table - 0) (list_in seen table))

-- tables that the call leaves as they are: `seen` are the slices that their places were cut from
pub parts_kept : {K : Type 0} (h : Lengths) (own seen : TableLists K) → AreNoLonger h (lengths own)
    → seen ≡ own → Parts h own (cut h seen) (cut h seen) own
parts_kept h own seen lent e the_costs = part_kept _ _ _ lent.costs (ap (λ t. t.costs) e)
parts_kept h own seen lent e the_standing = part_kept _ _ _ lent.standing (ap (λ t. t.standing) e)
parts_kept h own seen lent e the_partners = part_kept _ _ _ lent.partners (ap (λ t. t.partners) e)
parts_kept h own seen lent e the_left = part_kept _ _ _ lent.left (ap (λ t. t.left) e)
parts_kept h own seen lent e the_right = part_kept _ _ _ lent.right (ap (λ t. t.right) e)
parts_kept h own seen lent e the_walk = part_kept _ _ _ lent.walk (ap (λ t. t.walk) e)
parts_kept h own seen lent e the_marks = part_kept _ _ _ lent.marks (ap (λ t. t.marks) e)

module _ {K : Type 0} (h : Lengths) (own x x' own' : TableLists K)
    (parts : Parts h own x x' own') where
  parts_lengths : h ≡ lengths x
  parts_lengths = same_lengths (length_in h) (λ table. length (list_in x table))
      (λ table. sym (part_length _ _ _ _ _ (parts table)))

  parts_long : lengths own' ≡ lengths own
  parts_long = same_lengths (λ table. length (list_in own' table))
      (λ table. length (list_in own table)) (λ table. part_long _ _ _ _ _ (parts table))

  parts_hand : (s : SheetAt) → lengths own ≡ right_lengths (size_of s.sheet)
      → HandsAll false s own x x' own'
  parts_hand s right table = part_hands _ _ _ _ _ _ _
      (length_is own (places_in (size_of s.sheet)) right table) (parts table)

-- ---- A step

module _ {K : Type 0} (kind : Ghosts K) (state : State) (own : TableLists K) where
  pub was_made : (act : Act K) (h : Lengths) (o : Reply (ValueOf K act)) (answer : Answer K)
      (state' : State) (x x' own' : TableLists K)
      → lengths own ≡ right_lengths (size_of (state_of state).sheet) → Parts h own x x' own'
      → IsAnswerOf act o answer → IsCalled kind (state_of state) act o x x' (state_of state')
      → WasMade kind state own (call_for act h) answer state' own'
  was_made act h o answer state' x x' own' right parts says meets = record {
    reply = o;
    answers = says;
    makes = record {
      x = x;
      x' = x';
      lengths_are = parts_lengths h own x x' own' parts;
      hands = parts_hand h own x x' own' parts (state_of state) right;
      meets = meets;
    };
    long = parts_long h own x x' own' parts;
  }

  -- a call that leaves all tables
  pub reads : (act : Act K) (h : Lengths) (o : Reply (ValueOf K act)) (answer : Answer K)
      (state' : State) (seen : TableLists K) → seen ≡ own
      → lengths own ≡ right_lengths (size_of (state_of state).sheet)
      → AreNoLonger h (lengths own) → IsAnswerOf act o answer
      → IsCalled kind (state_of state) act o (cut h seen) (cut h seen) (state_of state')
      → WasMade kind state own (call_for act h) answer state' own
  reads act h o answer state' seen same right lent says meets =
      was_made act h o answer state' (cut h seen) (cut h seen) own right
      (parts_kept h own seen lent same) says meets

  -- a call that the state does not have is not made
  pub not_made : (call : Call K) → lengths own ≡ right_lengths (size_of (state_of state).sheet)
      → AreNoLonger call.handed (lengths own) → allows (state_of state).phase call.act ≡ false
      → WasMade kind state own call NotMade state own
  not_made call right lent none =
      reads call.act call.handed absent NotMade state own refl right lent refl
      (inr (none, refl, refl, refl))

  -- a call is told by what it asks for and the lengths that it is handed
  pub makes_for : (call : Call K) (act : Act K) (made : State × Result (Answer K) AllocError)
      (own' : TableLists K) → call.act ≡ act
      → MakesOne kind state own (call_for act call.handed) made own'
      → MakesOne kind state own call made own'
  makes_for call act made own' e h =
      subst (λ (y : Act K). MakesOne kind state own (call_for y call.handed) made own') (sym e) h

  pub made_for : (call : Call K) (act : Act K) (answer : Answer K) (state' : State)
      (own' : TableLists K) → call.act ≡ act
      → WasMade kind state own (call_for act call.handed) answer state' own'
      → WasMade kind state own call answer state' own'
  made_for call act answer state' own' e made =
      subst (λ (y : Act K). WasMade kind state own (call_for y call.handed) answer state' own')
      (sym e) made

-- ---- A call that writes some of the tables

-- it leaves these lists in the places that it was handed: `seen` are the slices that these were cut
-- from
module _ {K : Type 0} (h : Lengths) (t : SheetTables K) (seen : TableLists K)
    (same : seen ≡ tables_of t) (lent : AreNoLonger h (lengths (tables_of t))) where
  abbrev own : TableLists K
  own = tables_of t

  kept : Parts h own (cut h seen) (cut h seen) own
  kept = parts_kept h own seen lent same

  -- its table after it left a list in the first k places
  abbrev pub after : {X : Type 0} → Vec X Global → ℕ → (xs x' : List X) → List X
  after v k xs x' = (with_items v (x' ++ drop (k - 0) xs)).items

  pub walk_part : (list : List ℕ) → length list ≡ length (cut h seen).walk
      → Parts h own (cut h seen) (record (cut h seen) { walk = list })
      (record own { walk = after t.walk h.walk seen.walk list })
  walk_part list long the_walk =
      part_written h.walk t.walk seen.walk list lent.walk (ap (λ y. y.walk) same) long
  walk_part list long table = kept table

  pub marks_part : (list : List ℕ) → length list ≡ length (cut h seen).marks
      → Parts h own (cut h seen) (record (cut h seen) { marks = list })
      (record own { marks = after t.marks h.marks seen.marks list })
  marks_part list long the_marks =
      part_written h.marks t.marks seen.marks list lent.marks (ap (λ y. y.marks) same) long
  marks_part list long table = kept table

  pub pair_parts : (costs : List K) (standing : List ℕ) → length costs ≡ length (cut h seen).costs
      → length standing ≡ length (cut h seen).standing
      → Parts h own (cut h seen) (record (cut h seen) { costs = costs; standing = standing })
      (record own {
        costs = after t.costs h.costs seen.costs costs;
        standing = after t.standing h.standing seen.standing standing;
      })
  pair_parts costs standing el es the_costs =
      part_written h.costs t.costs seen.costs costs lent.costs (ap (λ y. y.costs) same) el
  pair_parts costs standing el es the_standing =
      part_written h.standing t.standing seen.standing standing lent.standing
      (ap (λ y. y.standing) same) es
  pair_parts costs standing el es table = kept table

  pub settlement_parts : (partners : List ℕ) (left right : List K)
      → length partners ≡ length (cut h seen).partners → length left ≡ length (cut h seen).left
      → length right ≡ length (cut h seen).right
      → Parts h own (cut h seen)
      (record (cut h seen) { partners = partners; left = left; right = right })
      (record own {
        partners = after t.partners h.partners seen.partners partners;
        left = after t.left h.left seen.left left;
        right = after t.right h.right seen.right right;
      })
  settlement_parts partners left right ep el er the_partners =
      part_written h.partners t.partners seen.partners partners lent.partners
      (ap (λ y. y.partners) same) ep
  settlement_parts partners left right ep el er the_left =
      part_written h.left t.left seen.left left lent.left (ap (λ y. y.left) same) el
  settlement_parts partners left right ep el er the_right =
      part_written h.right t.right seen.right right lent.right (ap (λ y. y.right) same) er
  settlement_parts partners left right ep el er table = kept table
