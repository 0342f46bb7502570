-- The second of two words is the program's own, or it is not.
use Rattle.std.proofs.Common.{◌≡◌, ℕ, List, length, slice_get, get_or, string_bytes, Some, None}
use Rattle.std.proofs.Common.{IfSome, String, true, false, nat_eq, sym, refl, ◌∙◌, subst, arith}
use Rattle.std.proofs.lemmas.Option.{slice_get_read}
use Rattle.std.specs.Cmp.Lexicographic.{same_text, bytes_decides}
use Rattle.report.specs.Asking.{AsksFor}
use Rattle.report.specs.declared.form.Form.{Form}
use lib.Pointwise.{pointwise}
use Rattle.report.proofs.form.Form.asked.Goals as goal

module _ {Z : Type 0} (words : List (String Z)) (word : String Z) (shown own : List ℕ)
    (two : length words ≡ 2) (second : word ≡ get_or words 1 word)
    (shows : shown ≡ string_bytes word) where
  here : slice_get words 1 ≡ Some word
  here = slice_get_read words (length words) 1 word refl (omega (arith, two)) second

  asks_own : true ≡ pointwise nat_eq shown own → AsksFor own words
  asks_own same = (
    two,
    subst (λ o. IfSome o (λ w. string_bytes w ≡ own)) (sym here)
        (sym shows ∙ same_text shown own same),
  )

  asks_other : false ≡ pointwise nat_eq shown own → AsksFor own words → ⊥
  asks_other other asks =
      let same = (bytes_decides shown own).1
      (shows ∙ subst (λ o. IfSome o (λ w. string_bytes w ≡ own)) here asks.1) in
      cc

pub returns-in-len2-clause-own : goal.returns-in-len2-clause-own
returns-in-len2-clause-own c = (
  λ _. asks_own c.args.words.now c.word-item.result _ c.args.own.now (omega arith) c.word-item.is
      c.as_str.ensures.value c.if-eq.ensures,
  λ _. refl,
)

none_asked : {A : Type 0} (form : Form) → None ≡ Some form → A
none_asked form is = cc

pub returns-in_default-clause-own : goal.returns-in_default-clause-own
returns-in_default-clause-own c = (
  none_asked _,
  λ asks. absurd
      (asks_other c.args.words.now c.word-item.result _ c.args.own.now asks.0 c.word-item.is
      c.as_str.ensures.value c.if-eq.ensures asks),
)
