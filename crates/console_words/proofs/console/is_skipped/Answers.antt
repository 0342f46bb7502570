-- A line is passed over exactly if it has no word, or its first begins with `#`.
-- Idea: std's step by white space gives the first word of the line, or none where it has none.
use Rattle.std.proofs.Common.{◌≡◌, ℕ, Bool, sym, subst, arith, refl, None, Some}
use Rattle.std.specs.Prelude.{◌==◌, slice_index, IsTrue}
use Rattle.std.specs.Str.{IsUtf8}
use Rattle.std.proofs.lemmas.Bool.Decides.{nat_tests}
use Rattle.console_words.proofs.WordSteps.{word_step}
use Rattle.console_words.proofs.console.is_skipped.Goals as goal

tests : (b : Bool) (x : ℕ) → b ≡ (x == 35) → (IsTrue b → x ≡ 35) × (x ≡ 35 → IsTrue b)
tests b x e = grind (arith, nat_tests)

pub returns-in-Some : goal.returns-in-Some
returns-in-Some c =
    let rest = c.split_whitespace.ensures.rest in
    let step = word_step c.split_whitespace.result (Some c.in-Some.word) c.next.new.self
    ∣ subst IsUtf8 (sym rest) c.utf8.line ∣₁ c.in-Some.ensures.steps in
    rw (← rest, step.0) (tests c.starts_with.result (slice_index c.in-Some.word.now 0)
    (c.starts_with.ensures.byte (omega arith) (omega arith) (λ w o h. h)))

pub returns-in-None : goal.returns-in-None
returns-in-None c =
    let rest = c.split_whitespace.ensures.rest in
    let step = word_step c.split_whitespace.result None c.next.new.self
    ∣ subst IsUtf8 (sym rest) c.utf8.line ∣₁ c.in-None.ensures.steps in
    rw (← rest, step.0.0) (λ true. tt, λ skipped. refl)
