-- What checking and loading promise, once one of their ends is known: the first fault of the bytes,
-- tables of the wrong length, or all pairs entered. The format of the bytes is left open.
-- Idea: bytes have one verdict, so what holds of the verdict that was found holds of every verdict
-- that the promise asks about.
use Rattle.std.proofs.Common.{◌≡◌, ℕ, List, length, pos, Ok, Err, Result}
use Rattle.std.proofs.Common.{sym, refl, ap, ap₂, ◌∙◌, subst, ⊎_elim, arith}
use Rattle.cost.specs.declared.plain_kind.Plain.{Plain}
use Rattle.sheet.specs.declared.fault.Cause.TheVariants.{TableLength}
use Rattle.sheet.specs.declared.fault.Fault.{Fault}
use Rattle.tables.specs.PairTables.{HavePlaces, costs_opened, standing_opened}
use Rattle.tables.specs.Together.{ArePairTables}
use Rattle.sheet.specs.Opening.{open_needs, OpensSheet}
use Rattle.sheet.specs.Pairs.{PairTablesAre}
use Rattle.sheet.specs.Size.{Sheet, IsSize, sheet_of, size_of}
use Rattle.sheet.specs.Refusals.{fault}
use Rattle.sheet.proofs.Needs.{met_or_not}
use Rattle.orderfile.specs.Format.{StatedOrder, FitsSheet}
use Rattle.orderfile.specs.Loading.{plain, plain_kind, costs_after, standing_after, ShowsOrder}
use Rattle.orderfile.specs.Loading.{HasOneVerdict, IsChecked, LoadsOrder, Loads}
use Rattle.orderfile.proofs.Cells.{shows_order, blank_places}
use Rattle.orderfile.proofs.Grids.{same_grid, entered_tables}

-- ---- Checking

-- what an answer of a check tells
pub checked_err : {S : StatedOrder → Type 0} {F : Fault → Type 0} {f : Fault}
    → IsChecked S F (Err f) → F f
checked_err {F = F} {f = f} h =
    ⊎_elim
    (λ o. let e = h.states o.0 o.1 in cc)
    (λ g. let e = h.faulty g.0 g.1 in let same : g.0 ≡ f = cc in subst F same g.1)
    h.verdict.some

pub checked_ok : {S : StatedOrder → Type 0} {F : Fault → Type 0} {n : ℕ} → IsChecked S F (Ok n)
    → (order : StatedOrder) × S order × (order.size ≡ n)
checked_ok {n = n} h =
    ⊎_elim
    (λ o. let e = h.states o.0 o.1 in let same : o.0.size ≡ n = cc in (o.0, o.1, same))
    (λ g. let e = h.faulty g.0 g.1 in cc)
    h.verdict.some

module _ {S : StatedOrder → Type 0} {F : Fault → Type 0} (verdict : HasOneVerdict S F)
    {r : Result ℕ Fault} where
  -- which answer a check has to give
  pub checked_states : (order : StatedOrder) → S order → r ≡ Ok order.size → IsChecked S F r
  checked_states order s e = record {
    verdict = verdict;
    states = λ o t. e ∙ ap (λ x. Ok x.size) (verdict.one_order order o s t);
    faulty = λ f t. absurd (verdict.not_both order f s t);
  }

  pub checked_faulty : (f : Fault) → F f → r ≡ Err f → IsChecked S F r
  checked_faulty f s e = record {
    verdict = verdict;
    states = λ o t. absurd (verdict.not_both o f t s);
    faulty = λ g t. e ∙ ap Err (verdict.one_fault f g s t);
  }

-- ---- Opening

-- where opening a sheet of a size that it can have is refused, the tables have the wrong length
module _ {n : ℕ} (size : IsSize n) {costs : List Plain} {standing : List ℕ} {f : Fault}
    {costs' : List Plain} {standing' : List ℕ}
    (h : OpensSheet (plain (pos 0)) n costs standing (Err f) costs' standing') where
  open_unfit : HavePlaces n (length costs) (length standing) → ⊥
  open_unfit fit =
      met_or_not (open_needs n (length costs) (length standing)) f (size, (fit, tt)) h.0

  open_fault : f ≡ fault TableLength 0
  open_fault = ⊎_elim (λ unmet. absurd (unmet.0 size))
      (λ more. ⊎_elim (λ unmet. unmet.1) (λ none. absurd none.1) more.1) h.0

-- blank tables have a place for each pair
pub blank_have : {n : ℕ} {costs : List Plain} {standing : List ℕ}
    → PairTablesAre (costs_opened (plain (pos 0)) n) (standing_opened n) costs standing
    → HavePlaces n (length costs) (length standing)
blank_have {n = n} blank = rw (blank.costs_are, blank.standing_are) (blank_places n)

-- ---- Loading: checking, then opening a sheet of the size, then entering the pairs

-- the check found a fault
pub loaded_faulty : {S : StatedOrder → Type 0} {F : Fault → Type 0} {f : Fault}
    {costs : List Plain} {standing : List ℕ} {r : Result Sheet Fault} → IsChecked S F (Err f)
    → r ≡ Err f → Loads S F costs standing r costs standing
loaded_faulty {F = F} {f = f} checked e =
    let verdict = checked.verdict in
    let s : F f = checked_err checked in
    record {
      verdict = verdict;
      faulty = λ g t. record {
        answers = e ∙ ap Err (verdict.one_fault f g s t);
        costs_stay = refl;
        standing_stays = refl;
      };
      misfits = λ o t _. absurd (verdict.not_both o f t s);
      loads = λ o t _. absurd (verdict.not_both o f t s);
    }

-- it found a size, and a sheet takes what was stated
module _ {S : StatedOrder → Type 0} {F : Fault → Type 0}
    (fits : (order : StatedOrder) → S order → FitsSheet order) {n : ℕ}
    (checked : IsChecked S F (Ok n)) where
  found : (order : StatedOrder) × S order × (order.size ≡ n)
  found = checked_ok checked

  abbrev order : StatedOrder
  order = found.0

  size : order.size ≡ n
  size = found.2

  one_order : (o : StatedOrder) → S o → order ≡ o
  one_order o s = checked.verdict.one_order order o found.1 s

  no_fault : (f : Fault) → F f → ⊥
  no_fault f = checked.verdict.not_both order f found.1

  sound : FitsSheet order
  sound = fits order found.1

  is_size : IsSize n
  is_size = record { some = omega (arith, sound.some, size); few = omega (arith, sound.few, size) }

  size_of_it : (o : StatedOrder) → S o → o.size ≡ n
  size_of_it o s = sym (ap (λ x. x.size) (one_order o s)) ∙ size

  module _ {costs : List Plain} {standing : List ℕ} where
    -- opening was refused
    pub loaded_misfit : {f : Fault} {costs' : List Plain} {standing' : List ℕ}
        {r : Result Sheet Fault}
        → OpensSheet (plain (pos 0)) n costs standing (Err f) costs' standing' → r ≡ Err f
        → Loads S F costs standing r costs' standing'
    loaded_misfit h e = record {
      verdict = checked.verdict;
      faulty = λ g t. absurd (no_fault g t);
      misfits = λ o s _. record {
        answers = e ∙ ap Err (open_fault is_size h);
        costs_stay = h.1.costs_are;
        standing_stays = h.1.standing_are;
      };
      loads = λ o s fit. absurd (open_unfit is_size h
          (subst (λ (k : ℕ). HavePlaces k (length costs) (length standing)) (size_of_it o s) fit));
    }

    -- a sheet was opened, and the pairs were entered into its tables
    pub loaded : {sheet : Sheet} {costs' costs'' : List Plain} {standing' standing'' : List ℕ}
        → OpensSheet (plain (pos 0)) n costs standing (Ok sheet) costs' standing'
        → ((o : StatedOrder) → S o → (costs'' ≡ costs_after o.size o.pairs costs' standing')
        × (standing'' ≡ standing_after o.size o.pairs standing'))
        → Loads S F costs standing (Ok sheet) costs'' standing''
    loaded {sheet = sheet} {costs'' = costs''} {standing'' = standing''} h entered =
        let done = entered order found.1 in
        let blank : ℕ → List Plain = costs_opened (plain (pos 0)) in
        let blank_costs = h.1.1.costs_are ∙ ap blank (sym size) in
        let blank_standing = h.1.1.standing_are ∙ ap standing_opened (sym size) in
        let ec : costs'' ≡ costs_after order.size order.pairs (blank order.size)
        (standing_opened order.size) =
        done.0 ∙ ap₂ (costs_after order.size order.pairs) blank_costs blank_standing in
        let es : standing'' ≡ standing_after order.size order.pairs (standing_opened order.size) =
        done.1 ∙ ap (standing_after order.size order.pairs) blank_standing in
        let shown : ShowsOrder order costs'' standing'' =
        rw (ec, es) (shows_order order sound.pairs_fit) in
        let tables : ArePairTables plain_kind order.size costs'' standing'' =
        rw (ec, es) (entered_tables order sound) in
        let here : LoadsOrder order (Ok sheet) costs'' standing'' = record {
          answers = ap (λ k. Ok (sheet_of k)) (ap size_of h.1.0 ∙ sym size);
          enters_costs = ec;
          enters_standing = es;
          shows = shown;
          grid = same_grid order sound.pairs_fit costs'' standing'' tables.costs_long shown;
          pair_tables = tables;
        } in
        record {
          verdict = checked.verdict;
          faulty = λ g t. absurd (no_fault g t);
          misfits = λ o s unfit. absurd (unfit
              (subst (λ (k : ℕ). HavePlaces k (length costs) (length standing))
              (sym (size_of_it o s)) h.0.1.0));
          loads = λ o s _. subst (λ (x : StatedOrder). LoadsOrder x (Ok sheet) costs'' standing'')
              (one_order o s) here;
        }
