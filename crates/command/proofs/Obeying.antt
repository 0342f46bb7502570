-- A program does what the words of its command ask for.
-- Idea: what was asked for decides, and each of the three demands names one answer.
use Rattle.std.proofs.Common.{◌≡◌, ◌≤◌, ◌<◌, ◌↔◌, ℕ, List, Option, Some, None, String, length}
use Rattle.std.proofs.Common.{refl, sym, subst, arith}
use Rattle.std.specs.declared.process.ExitCode.{ExitCode}
use Rattle.command.specs.Asking.{AsksHelp}
use Rattle.command.specs.Ending.{Prints, Complains, Obeys}
use Rattle.command.specs.declared.command.Command.{Command}
use Rattle.command.specs.declared.command.Command.TheVariants.{Run, Help}
use Rattle.command.specs.declared.streams.Streams.{Streams}
use Rattle.command.specs.declared.streams.TheConstants.{WRONG_USAGE}

module _ {W E : Type 0} (output_of : W → Option (List ℕ)) (errors_of : E → Option (List ℕ))
    (before after : Streams W E) {Z : Type 0} (words : List (String Z)) (usage : List ℕ)
    (Works : ExitCode → Type 0) (code : ExitCode) where
  -- what a program did that was asked for this
  abbrev pub HasDone : Option Command → Type 0
  HasDone None = Complains output_of errors_of before after usage WRONG_USAGE code
  HasDone (Some Run) = Works code
  HasDone (Some Help) = Prints output_of errors_of before after usage code

  has_complained : (asked : Option Command) → ((asked ≡ Some Run) ↔ (length words ≤ 1))
      → ((asked ≡ Some Help) ↔ AsksHelp words) → HasDone asked → 1 < length words
      → ¬ AsksHelp words → Complains output_of errors_of before after usage WRONG_USAGE code
  has_complained None run help done many other = done
  has_complained (Some Run) run help done many other =
      let few : length words ≤ 1 = run.0 refl in
      absurd (omega arith)
  has_complained (Some Help) run help done many other = absurd (other (help.0 refl))

  pub obeys : (asked : Option Command) (command : Command)
      → ((asked ≡ Some Run) ↔ (length words ≤ 1)) → ((asked ≡ Some Help) ↔ AsksHelp words)
      → asked ≡ Some command → HasDone (Some command)
      → Obeys output_of errors_of before after words usage Works code
  obeys asked command run help is does =
      let done : HasDone asked = subst HasDone (sym is) does in
      record {
        work = λ few. subst HasDone (run.1 few) done;
        help = λ asks. subst HasDone (help.1 asks) done;
        misuse = has_complained asked run help done;
      }
