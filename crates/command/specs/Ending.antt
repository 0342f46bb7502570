-- What a program leaves when it ends.
use Rattle.std.specs.Prelude.{◌≡◌, ◌≤◌, ◌<◌, ℕ, List, Option, String, length}
use Rattle.std.specs.Io.KnownBytes.{Appends, Keeps}
use Rattle.std.specs.Process.{exit_status}
use Rattle.std.specs.declared.process.ExitCode.{ExitCode}
use Rattle.command.specs.declared.streams.Streams.{Streams}
use Rattle.command.specs.declared.streams.TheConstants.{WRONG_USAGE}
use Rattle.command.specs.Asking.{AsksHelp}

module _ {W E : Type 0} (output_of : W → Option (List ℕ)) (errors_of : E → Option (List ℕ))
    (before after : Streams W E) where
  -- this text on its output, nothing else, and that it succeeded
  abbrev pub Prints : List ℕ → ExitCode → Type 0
  Prints text code = Appends (output_of before.output) (output_of after.output) text
      × Keeps (errors_of before.errors) (errors_of after.errors) × (exit_status code ≡ 0)

  -- this text among its errors, nothing else, and a status
  abbrev pub Complains : (text : List ℕ) (status : ℕ) → ExitCode → Type 0
  Complains text status code = Keeps (output_of before.output) (output_of after.output)
      × Appends (errors_of before.errors) (errors_of after.errors) text
      × (exit_status code ≡ status)

  -- a program that takes no other word than `--help`: it does its work, or tells its usage, on its
  -- output where it was asked for
  pub record Obeys {Z : Type 0} (words : List (String Z)) (usage : List ℕ)
      (Works : ExitCode → Type 0) (code : ExitCode) : Type 0 where
    pub work : length words ≤ 1 → Works code
    pub help : AsksHelp words → Prints usage code
    pub misuse : 1 < length words → ¬ AsksHelp words → Complains usage WRONG_USAGE code
