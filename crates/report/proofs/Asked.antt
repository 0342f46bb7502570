-- A program that knows one word of its own does what the words of its command ask for.
-- Idea: what was asked for decides, and each of the four demands names one answer. What is printed
-- is what was told of the input.
use Rattle.std.proofs.Common.{◌≡◌, ◌≤◌, ◌<◌, ◌↔◌, ℕ, List, Option, Some, None, String, length, take}
use Rattle.std.proofs.Common.{IfOk, IfSome, Result, refl, sym, subst, arith}
use Rattle.std.proofs.lemmas.Result.{IfOk-weaker}
use Rattle.std.specs.declared.process.ExitCode.{ExitCode}
use Rattle.command.specs.Asking.{AsksHelp}
use Rattle.command.specs.Ending.{Prints, Complains}
use Rattle.command.specs.declared.streams.Streams.{Streams}
use Rattle.command.specs.declared.streams.TheConstants.{WRONG_USAGE}
use Rattle.report.specs.Asking.{AsksFor}
use Rattle.report.specs.Programs.{ObeysWord, PrintsOf}
use Rattle.report.specs.declared.form.Form.{Form}
use Rattle.report.specs.declared.form.Form.TheVariants.{Lines, ByWord, Help}

module _ {W E X : Type 0} (output_of : W → Option (List ℕ)) (errors_of : E → Option (List ℕ))
    (before after : Streams W E) (made : Result ExitCode X) where
  pub prints_told : (known : Option (List ℕ)) (most : ℕ)
      (Tells : (input told : List ℕ) → Type 0) (told shown : List ℕ) → shown ≡ told
      → IfSome known (λ bytes. Tells (take most bytes) told)
      → IfOk made (Prints output_of errors_of before after shown)
      → IfOk made (PrintsOf output_of errors_of before after known most Tells)
  prints_told known most Tells told shown same tells =
      IfOk-weaker made (Prints output_of errors_of before after shown)
      (PrintsOf output_of errors_of before after known most Tells)
      (λ code printed. (
        shown,
        subst (λ t. IfSome known (λ bytes. Tells (take most bytes) t)) (sym same) tells,
        printed,
      ))

  module _ {Z : Type 0} (words : List (String Z)) (own usage : List ℕ)
      (DoesLines DoesByWord : ExitCode → Type 0) where
    -- what was found that the words ask for
    abbrev pub IsAsked : Option Form → Type 0
    IsAsked asked = record {
      lines : (asked ≡ Some Lines) ↔ (length words ≤ 1);
      own : (asked ≡ Some ByWord) ↔ AsksFor own words;
      help : (asked ≡ Some Help) ↔ AsksHelp words;
    }

    -- what the program did that was asked for this
    abbrev pub HasDone : ExitCode → Option Form → Type 0
    HasDone code None = Complains output_of errors_of before after usage WRONG_USAGE code
    HasDone code (Some Lines) = DoesLines code
    HasDone code (Some ByWord) = DoesByWord code
    HasDone code (Some Help) = Prints output_of errors_of before after usage code

    has_complained : (code : ExitCode) (asked : Option Form) → IsAsked asked → HasDone code asked
        → 1 < length words → ¬ AsksFor own words → ¬ AsksHelp words
        → Complains output_of errors_of before after usage WRONG_USAGE code
    has_complained code None is done many other no_help = done
    has_complained code (Some Lines) is done many other no_help =
        let few : length words ≤ 1 = is.lines.0 refl in
        absurd (omega arith)
    has_complained code (Some ByWord) is done many other no_help =
        absurd (other (is.own.0 refl))
    has_complained code (Some Help) is done many other no_help =
        absurd (no_help (is.help.0 refl))

    obeyed : (code : ExitCode) (asked : Option Form) → IsAsked asked → HasDone code asked
        → ObeysWord output_of errors_of before after words own usage DoesLines DoesByWord code
    obeyed code asked is done = record {
      lines = λ few. subst (HasDone code) (is.lines.1 few) done;
      by_word = λ asks. subst (HasDone code) (is.own.1 asks) done;
      help = λ asks. subst (HasDone code) (is.help.1 asks) done;
      misuse = has_complained code asked is done;
    }

    pub obeys_word : (asked : Option Form) (form : Form) → IsAsked asked → asked ≡ Some form
        → IfOk made (λ code. HasDone code (Some form))
        → IfOk made
        (ObeysWord output_of errors_of before after words own usage DoesLines DoesByWord)
    obeys_word asked form is same = IfOk-weaker made (λ code. HasDone code (Some form))
        (ObeysWord output_of errors_of before after words own usage DoesLines DoesByWord)
        (λ code done. obeyed code asked is (subst (HasDone code) (sym same) done))
