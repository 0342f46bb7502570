-- A word is taken from the front of those that are left.
-- Idea: std's step by white space takes the first word of the text, and where it gives none the
-- text has none.
use Rattle.std.proofs.Common.{◌≡◌, [], ◌∷◌, Option, None, Some, List, ℕ, Bor, refl}
use Rattle.std.specs.Prelude.{IfOk, IfErr}
use Rattle.std.specs.Option.{ok_or}
use Rattle.std.specs.Str.Iter.{split_whitespace_rest}
use Rattle.std.specs.declared.str.SplitWhitespace.{SplitWhitespace}
use Rattle.console_words.specs.declared.complaint.Complaint.{Complaint}
use Rattle.console_words.specs.Forms.{IsTooFew}
use Rattle.console_words.specs.Words.{words_of, form_of}
use Rattle.console_words.proofs.WordSteps.{IsWordStep, word_step, word_step_drops}
use Rattle.console_words.proofs.words.Words.next_word.Goals as goal

given : (s : SplitWhitespace) (r : Option (Bor (List ℕ))) (t : SplitWhitespace) (e : Complaint)
    → IsWordStep s r t
    → IfOk (ok_or r e) (λ word. words_of (split_whitespace_rest s)
    ≡ word.now ∷ words_of (split_whitespace_rest t))
given s None t e is = tt
given s (Some word) t e is = is

missing : (s : SplitWhitespace) (r : Option (Bor (List ℕ))) (t : SplitWhitespace) (e : Complaint)
    (form : List ℕ) → IsTooFew form e → IsWordStep s r t
    → IfErr (ok_or r e) (λ complaint. (words_of (split_whitespace_rest s) ≡ [])
    × IsTooFew form complaint)
missing s None t e form too_few is = (is.0, too_few)
missing s (Some word) t e form too_few is = tt

pub invariant_of-self : goal.invariant_of-self
invariant_of-self c =
    let step = word_step c.args.self.now.rest c.next.result c.next.new.self
    c.args.self.now.text c.next.ensures.steps in
    record { text = ∣ step.1 ∣₁ }

pub returns : goal.returns
returns c =
    let rest = c.args.self.now.rest in
    let step = word_step rest c.next.result c.next.new.self c.args.self.now.text
    c.next.ensures.steps in
    record {
      form = refl;
      rest = word_step_drops rest c.next.result c.next.new.self step.0;
      word = rw c.ok_or.ensures.value (given rest c.next.result c.next.new.self _ step.0);
      missing = rw c.ok_or.ensures.value (missing rest c.next.result c.next.new.self _
          (form_of c.args.self.now) refl step.0);
    }
