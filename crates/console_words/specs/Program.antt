-- What the program `console` leaves when it ends, by the words of its command and the bytes of its
-- input, as far as these are known.
use Rattle.std.specs.Prelude.{◌≡◌, ℕ, List, Option, String, IfSome}
use Rattle.std.specs.Io.KnownBytes.{Keeps}
use Rattle.std.specs.Process.{exit_status}
use Rattle.std.specs.declared.process.ExitCode.{ExitCode}
use Rattle.command.specs.Ending.{Obeys}
use Rattle.command.specs.declared.streams.Streams.{Streams}
use Rattle.console_words.specs.declared.program.TheConstants.{CONSOLE_USAGE}
use Rattle.console_words.specs.Conversing.{Converses}

module _ {W E : Type 0} (output_of : W → Option (List ℕ)) (errors_of : E → Option (List ℕ))
    (before after : Streams W E) (known : Option (List ℕ)) where
  -- its output is that of the whole conversation, nothing is written among its errors, and it
  -- succeeded
  abbrev pub ConversesOver : ExitCode → Type 0
  ConversesOver code =
      IfSome known (λ bytes. Converses bytes (output_of before.output) (output_of after.output))
      × Keeps (errors_of before.errors) (errors_of after.errors) × (exit_status code ≡ 0)

  abbrev pub Talks : {Z : Type 0} (words : List (String Z)) → ExitCode → Type 0
  Talks words = Obeys output_of errors_of before after words CONSOLE_USAGE.now ConversesOver
