-- What the programs that tell order files and texts leave when they end, by the words of their
-- command and the bytes of their input, as far as these are known.
use Rattle.std.specs.Prelude.{◌≤◌, ◌<◌, ◌⊎◌, ℕ, List, Option, String, IfSome, length, take, codes}
use Rattle.std.specs.declared.process.ExitCode.{ExitCode}
use Rattle.command.specs.Asking.{AsksHelp}
use Rattle.command.specs.Ending.{Prints, Complains, Obeys}
use Rattle.command.specs.declared.streams.Streams.{Streams}
use Rattle.command.specs.declared.streams.TheConstants.{WRONG_USAGE}
use Rattle.sheet.specs.declared.fault.Fault.{Fault}
use Rattle.dimacs.specs.Texts.{States, FirstFault}
use Rattle.refusal_words.specs.Words.{explanation}
use Rattle.report.specs.declared.import_program.TheConstants.{IMPORT_USAGE, REFUSED_TEXT}
use Rattle.report.specs.declared.input.TheConstants.{MOST_BYTES, MOST_TEXT_BYTES}
use Rattle.report.specs.declared.programs.TheConstants.{INSPECT_USAGE, LISTING_USAGE}
use Rattle.report.specs.Asking.{AsksFor}
use Rattle.report.specs.Describing.{Describes, DescribesText}
use Rattle.report.specs.Drawing.{Draws}
use Rattle.report.specs.Exporting.{IsOrderOf}
use Rattle.report.specs.Listing.{Lists}

module _ {W E : Type 0} (output_of : W → Option (List ℕ)) (errors_of : E → Option (List ℕ))
    (before after : Streams W E) where
  -- a program that knows one word of its own beside those for its usage: with no word it prints
  -- lines, with that word alone it does its other work, and else it tells its usage, on its output
  -- where it was asked for
  pub record ObeysWord {Z : Type 0} (words : List (String Z)) (own usage : List ℕ)
      (Lines ByWord : ExitCode → Type 0) (code : ExitCode) : Type 0 where
    pub lines : length words ≤ 1 → Lines code
    pub by_word : AsksFor own words → ByWord code
    pub help : AsksHelp words → Prints output_of errors_of before after usage code
    pub misuse : 1 < length words → ¬ AsksFor own words → ¬ AsksHelp words
        → Complains output_of errors_of before after usage WRONG_USAGE code

  module _ (known : Option (List ℕ)) where
    -- some bytes were printed, and they are what is told of the input up to the cut
    abbrev pub PrintsOf : (most : ℕ) → (Tells : (input told : List ℕ) → Type 0)
        → ExitCode → Type 0
    PrintsOf most Tells code = (told : List ℕ)
        × IfSome known (λ bytes. Tells (take most bytes) told)
        × Prints output_of errors_of before after told code

    abbrev pub Inspects : {Z : Type 0} (words : List (String Z)) → ExitCode → Type 0
    Inspects words = ObeysWord words (codes "map") INSPECT_USAGE.now
        (PrintsOf MOST_BYTES Describes) (PrintsOf MOST_BYTES Draws)

    abbrev pub ListsInput : {Z : Type 0} (words : List (String Z)) → ExitCode → Type 0
    ListsInput words = Obeys output_of errors_of before after words LISTING_USAGE.now
        (PrintsOf MOST_BYTES Lists)

    -- the first fault of the input up to the cut was told in words, among the errors
    abbrev pub RefusesText : ExitCode → Type 0
    RefusesText code = (f : Fault)
        × IfSome known (λ bytes. FirstFault (take MOST_TEXT_BYTES bytes) f)
        × Complains output_of errors_of before after (explanation f) REFUSED_TEXT code

    -- the order file of the input was printed, or the input was refused
    abbrev pub Exports : ExitCode → Type 0
    Exports code = PrintsOf MOST_TEXT_BYTES (λ text. IsOrderOf (States text)) code
        ⊎ RefusesText code

    abbrev pub Imports : {Z : Type 0} (words : List (String Z)) → ExitCode → Type 0
    Imports words = ObeysWord words (codes "order") IMPORT_USAGE.now
        (PrintsOf MOST_TEXT_BYTES DescribesText) Exports
