-- Bytes have one verdict, so a text that tells the one that was found tells every one that the
-- promise asks about, in any format.
-- Idea: a loaded sheet shows the order that the bytes state, cell by cell, so the lines of its
-- tables are those of the order; and bytes that state an order state no other, and have no fault.
use Rattle.std.proofs.Common.{◌≡◌, ℕ, ◌<◌, List, ◌++◌, ℤ, IfOk, Some, None, codes, decimal}
use Rattle.std.proofs.Common.{Option, Result, String, string_bytes, refl, ap, ◌∙◌, subst}
use Rattle.std.proofs.lemmas.Result.{IfOk-weaker}
use Rattle.std.specs.Option.{option_map}
use Rattle.cost.specs.declared.plain_kind.Plain.{Plain}
use Rattle.sheet.specs.Size.{size_of}
use Rattle.sheet.specs.declared.fault.Fault.{Fault}
use Rattle.orderfile.specs.Format.{StatedOrder}
use Rattle.orderfile.specs.Loading.{plain, stated_cost, ShowsOrder, HasOneVerdict}
use Rattle.refusal_words.specs.Lines.{up_to}
use Rattle.report.specs.Afresh.{IsLoaded}
use Rattle.report.specs.Describing.{IsReport}
use Rattle.report.specs.Text.{pair_line, pair_cost, row_lines, all_lines, sheet_text, statement}
use Rattle.report.specs.Text.{refusal}
use Rattle.report.specs.declared.fresh_tables.LoadedSheet.{LoadedSheet}
use Rattle.report.proofs.Lines.{up_same}

module _ {S : StatedOrder → Type 0} {F : Fault → Type 0} (verdict : HasOneVerdict S F)
    (IsOfOrder : StatedOrder → List ℕ → Type 0) (of_fault : Fault → List ℕ) where
  report_of_order : (text : List ℕ) (order : StatedOrder) → S order → IsOfOrder order text
      → IsReport S F IsOfOrder of_fault text
  report_of_order text order s e = record {
    verdict = verdict;
    states = λ o t.
        subst (λ (x : StatedOrder). IsOfOrder x text) (verdict.one_order order o s t) e;
    faulty = λ f t. absurd (verdict.not_both order f s t);
  }

  report_of_fault : (text : List ℕ) (f : Fault) → F f → text ≡ of_fault f
      → IsReport S F IsOfOrder of_fault text
  report_of_fault text f s e = record {
    verdict = verdict;
    states = λ o t. absurd (verdict.not_both o f t s);
    faulty = λ g t. e ∙ ap of_fault (verdict.one_fault f g s t);
  }

  -- what is made of the bytes, if there was memory for it
  module _ {X Y : Type 0} (bytes : X → List ℕ) (made : Result X Y) where
    pub reports_loaded : {sheet : LoadedSheet} (loaded : IsLoaded S sheet)
        (IsOfSheet : List ℕ → Type 0)
        → ((text : List ℕ) → IsOfSheet text → IsOfOrder loaded.order text)
        → IfOk made (λ text. IsOfSheet (bytes text))
        → IfOk made (λ text. IsReport S F IsOfOrder of_fault (bytes text))
    reports_loaded loaded IsOfSheet same h =
        IfOk-weaker made (λ text. IsOfSheet (bytes text))
        (λ text. IsReport S F IsOfOrder of_fault (bytes text))
        (λ text e. report_of_order (bytes text) loaded.order loaded.states (same (bytes text) e))
        h

    pub reports_fault : (f : Fault) → F f → IfOk made (λ text. bytes text ≡ of_fault f)
        → IfOk made (λ text. IsReport S F IsOfOrder of_fault (bytes text))
    reports_fault f s h = IfOk-weaker made (λ text. bytes text ≡ of_fault f)
        (λ text. IsReport S F IsOfOrder of_fault (bytes text))
        (λ text e. report_of_fault (bytes text) f s e) h

mapped_back : (o : Option ℤ) → option_map (λ p. p.0) (option_map plain o) ≡ o
mapped_back (Some z) = refl
mapped_back None = refl

-- the cost of a pair in tables that show an order is the stated one
pub cost_shown : (order : StatedOrder) (costs : List Plain) (standing : List ℕ)
    → ShowsOrder order costs standing → (l r : ℕ) → l < order.size → r < order.size
    → pair_cost order.size costs standing l r ≡ stated_cost order.pairs l r
cost_shown order costs standing shows l r i j =
    ap (option_map (λ p. p.0)) (shows l r i j) ∙ mapped_back (stated_cost order.pairs l r)

-- the text of a loaded sheet is the order's statement
pub statement_loaded : {S : StatedOrder → Type 0} {sheet : LoadedSheet}
    (loaded : IsLoaded S sheet)
    → sheet_text (size_of sheet.sheet) sheet.costs.items sheet.standing.items
    ≡ statement loaded.order
statement_loaded {sheet = sheet} loaded =
    let costs = sheet.costs.items in
    let standing = sheet.standing.items in
    let order = loaded.order in
    let n = order.size in
    let lines : all_lines n costs standing n ≡ up_to n
    (λ l. up_to n (λ r. pair_line l r (stated_cost order.pairs l r))) =
    up_same n (λ l. row_lines n costs standing l n)
    (λ l. up_to n (λ r. pair_line l r (stated_cost order.pairs l r)))
    (λ l i. up_same n (λ r. pair_line l r (pair_cost n costs standing l r))
    (λ r. pair_line l r (stated_cost order.pairs l r))
    (λ r j. ap (pair_line l r) (cost_shown order costs standing loaded.accepted.shows l r i j))) in
    ap (λ k. sheet_text k costs standing) loaded.size
    ∙ ap (λ t. (codes "size " ++ (decimal n ++ codes "\n")) ++ (t ++ codes "end\n")) lines

-- lines of a loaded sheet tell the order, and the line of a fault is the refusal
module _ {S : StatedOrder → Type 0} {F : Fault → Type 0} (verdict : HasOneVerdict S F)
    {Z Y : Type 0} (made : Result (String Z) Y) where
  pub tells_loaded : {sheet : LoadedSheet} (loaded : IsLoaded S sheet)
      → IfOk made (λ text. string_bytes text
      ≡ sheet_text (size_of sheet.sheet) sheet.costs.items sheet.standing.items)
      → IfOk made
      (λ text. IsReport S F (λ order told. told ≡ statement order) refusal (string_bytes text))
  tells_loaded {sheet = sheet} loaded =
      reports_loaded verdict (λ order told. told ≡ statement order) refusal string_bytes made loaded
      (λ text. text ≡ sheet_text (size_of sheet.sheet) sheet.costs.items sheet.standing.items)
      (λ text e. e ∙ statement_loaded loaded)

  pub tells_fault : (f : Fault) → F f → IfOk made (λ text. string_bytes text ≡ refusal f)
      → IfOk made
      (λ text. IsReport S F (λ order told. told ≡ statement order) refusal (string_bytes text))
  tells_fault =
      reports_fault verdict (λ order told. told ≡ statement order) refusal string_bytes made
