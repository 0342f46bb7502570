-- What a line does to a conversation.
use Rattle.std.specs.Prelude.{◌≡◌, ◌<◌, ◌+◌, ◌⊎◌, ℕ, ℤ, [], ◌∷◌, ◌++◌, pos, List, codes, decimal}
use Rattle.std.specs.Prelude.{Option, length}
use Rattle.std.specs.Fmt.{signed_decimal}
use Rattle.std.specs.Io.BufRead.{first_piece, drop_through}
use Rattle.std.specs.Io.KnownBytes.{Appends}
use Rattle.std.specs.Str.{IsUtf8}
use Rattle.cost.specs.Columns.{rail_of}
use Rattle.cost.specs.declared.Cost.{Ghosts}
use Rattle.cost.specs.declared.plain_kind.Plain.{Plain}
use Rattle.cost.specs.declared.two_step_kind.TwoStep.{TwoStep}
use Rattle.console_words.specs.declared.complaint.Complaint.{Complaint}
use Rattle.console_words.specs.declared.complaint.Complaint.TheVariants.{NotText}
use Rattle.console_words.specs.declared.console.Console.{Console}
use Rattle.console_words.specs.declared.console.Console.TheVariants.{Unopened, Plain as OfPlain}
use Rattle.console_words.specs.declared.console.Console.TheVariants.{TwoStep as OfTwoStep}
use Rattle.console_words.specs.declared.help.TheConstants.{HELP}
use Rattle.console_words.specs.declared.opening.ColumnCount.{ColumnCount}
use Rattle.console_words.specs.declared.opening.ColumnCount.TheVariants.{One, Two}
use Rattle.console_words.specs.declared.opening.Opening.{Opening}
use Rattle.console_words.specs.declared.opening.Opening.TheVariants.{Columns as SetsColumns}
use Rattle.console_words.specs.declared.opening.Opening.TheVariants.{Size as SetsSize}
use Rattle.console_words.specs.declared.opening.Opening.TheVariants.{Help as AsksHelp}
use Rattle.console_words.specs.declared.opening.Opening.TheVariants.{Quit as AsksEnd}
use Rattle.console_words.specs.declared.turn.Turn.{Turn}
use Rattle.console_words.specs.declared.turn.Turn.TheVariants.{Over}
use Rattle.console_words.specs.Complaining.{complained_line}
use Rattle.console_words.specs.Lines.{AsksOpening, IsWrongOpening}
use Rattle.console_words.specs.Moving.{IsPrinted, IsBlank, Moves}
use Rattle.console_words.specs.Naming.{columns_words}
use Rattle.console_words.specs.Words.{words_of, IsSkipped}

-- the kinds of costs with one column and with two, as contracts see a kind
abbrev pub one_column : Ghosts Plain
one_column = record {
  columns = 1;
  meaning = λ p. rail_of p.0 ∷ [];
  zero = record { 0 = pos 0 };
}

abbrev pub two_columns : Ghosts (TwoStep Plain Plain)
two_columns = record {
  columns = 2;
  meaning = λ s. (rail_of s.0.0 ∷ []) ++ (rail_of s.1.0 ∷ []);
  zero = record { 0 = record { 0 = pos 0 }; 1 = record { 0 = pos 0 } };
}

-- and how their costs are written
abbrev pub one_written : Plain → List ℕ
one_written cost = signed_decimal cost.0

abbrev pub two_written : TwoStep Plain Plain → List ℕ
two_written cost = codes "(" ++ (signed_decimal cost.0.0
    ++ (codes ", " ++ (signed_decimal cost.1.0 ++ codes ")")))

-- the numbers that they are typed as, and the form of a line that enters a pair
abbrev pub one_number : Plain → List ℤ
one_number cost = cost.0 ∷ []

abbrev pub two_numbers : TwoStep Plain Plain → List ℤ
two_numbers cost = cost.0.0 ∷ (cost.1.0 ∷ [])

abbrev pub one_entering : List ℕ
one_entering = codes "enter L R COST"

abbrev pub two_entering : List ℕ
two_entering = codes "enter L R COST COST"

-- what is said of a sheet that was opened
abbrev pub opened_line : ℕ → ColumnCount → List ℕ
opened_line n columns = codes "sheet of " ++ (decimal n ++ (codes " left and " ++ (decimal n
    ++ (codes " right blocks; " ++ (columns_words columns ++ codes "\n")))))

-- what comes of what a line asks for before a sheet is open
abbrev pub Opens : ColumnCount → Opening → Console → Turn → Type 0
Opens columns (SetsColumns c) console turn =
    (console ≡ Unopened c) × IsPrinted (columns_words c ++ codes "\n") turn
Opens One (SetsSize size) (OfPlain desk) turn =
    IsBlank one_column size.blocks desk × IsPrinted (opened_line size.blocks One) turn
Opens Two (SetsSize size) (OfTwoStep desk) turn =
    IsBlank two_columns size.blocks desk × IsPrinted (opened_line size.blocks Two) turn
Opens columns AsksHelp console turn = (console ≡ Unopened columns) × IsPrinted HELP.now turn
Opens columns AsksEnd console turn = (console ≡ Unopened columns) × (turn ≡ Over)
Opens _ _ _ turn = ⊥

module _ (number : ℕ) where
  -- What the line of this number and these words does. Before a sheet is open it opens a blank one
  -- whose costs have the columns asked for, or none; once one is open it makes the one call that it
  -- asks for. What is wrong with a line that asks for nothing is told, and nothing changes.
  abbrev pub Turns : List (List ℕ) → Console → Console → Turn → Type 0
  Turns words (Unopened columns) console turn =
      ((opening : Opening) × AsksOpening words opening × Opens columns opening console turn)
      ⊎ ((complaint : Complaint) × IsWrongOpening words complaint
      × (console ≡ Unopened columns) × IsPrinted (complained_line number complaint) turn)
  Turns words (OfPlain desk) (OfPlain desk') turn =
      Moves one_column one_written one_number one_entering number words desk desk' turn
  Turns words (OfTwoStep desk) (OfTwoStep desk') turn =
      Moves two_columns two_written two_numbers two_entering number words desk desk' turn
  Turns words _ _ turn = ⊥

  -- What the line of this number does, of these bytes. Bytes that are no text are complained of,
  -- whatever they begin with; a line that is blank or whose first word begins with `#` comes to no
  -- text. Neither changes anything.
  abbrev pub TakesLine : List ℕ → Console → Console → Turn → Type 0
  TakesLine line console console' turn =
      (¬ IsUtf8 line × (console' ≡ console) × IsPrinted (complained_line number NotText) turn)
      ⊎ (IsUtf8 line × IsSkipped (words_of line) × (console' ≡ console) × IsPrinted [] turn)
      ⊎ (IsUtf8 line × ¬ IsSkipped (words_of line) × Turns (words_of line) console console' turn)

-- A talk, from a console on and before the line of this number: the text that the lines among the
-- bytes come to, one after the other. A line ends before its line break, of code 10. The talk ends
-- where no byte is left, or with the line that asks for the end: nothing is said of those behind.
pub data Talk : ℕ → Console → (bytes text : List ℕ) → Type 0 where
  ends : (number : ℕ) (console : Console) → Talk number console [] []
  is_over : (number : ℕ) (console console' : Console) (bytes : List ℕ) → 0 < length bytes
      → TakesLine number (first_piece 10 bytes) console console' Over
      → Talk number console bytes []
  goes_on : (number : ℕ) (console console' : Console) (turn : Turn) (bytes said more : List ℕ)
      → 0 < length bytes → TakesLine number (first_piece 10 bytes) console console' turn
      → IsPrinted said turn → Talk (number + 1) console' (drop_through 10 bytes) more
      → Talk number console bytes (said ++ more)

-- what is written of a talk over all these bytes, where it is known what was written before
abbrev pub Converses : List ℕ → (before after : Option (List ℕ)) → Type 0
Converses bytes before after = (text : List ℕ) × Talk 1 (Unopened One) bytes text
    × Appends before after text
