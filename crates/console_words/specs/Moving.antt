-- What a line does to a sheet.
use Rattle.std.specs.Prelude.{◌≡◌, ◌⊎◌, ℕ, ℤ, List, Option, string_bytes}
use Rattle.cost.specs.declared.Cost.{Ghosts}
use Rattle.tables.specs.PairTables.{AreAllAbsent, cell}
use Rattle.sheet.specs.Size.{IsSize, sheet_of}
use Rattle.session.specs.declared.answer.Answer.{Answer}
use Rattle.session.specs.declared.call.Act.{Act}
use Rattle.session.specs.Book.{opened}
use Rattle.session.specs.Program.{state_at}
use Rattle.session.specs.Runs.{state_of, tables_of, WasMade}
use Rattle.console_words.specs.declared.complaint.Complaint.{Complaint}
use Rattle.console_words.specs.declared.desk.Desk.{Desk}
use Rattle.console_words.specs.declared.help.TheConstants.{HELP}
use Rattle.console_words.specs.declared.request.Request.{Request}
use Rattle.console_words.specs.declared.request.Request.TheVariants.{Make, Help, Quit}
use Rattle.console_words.specs.declared.table_name.TableName.{TableName}
use Rattle.console_words.specs.declared.turn.Turn.{Turn}
use Rattle.console_words.specs.declared.turn.Turn.TheVariants.{Said, Over}
use Rattle.console_words.specs.Answering.{answer_words}
use Rattle.console_words.specs.Complaining.{complained_line}
use Rattle.console_words.specs.Handing.{call_on}
use Rattle.console_words.specs.Lines.{Asks, IsWrong}

-- this is the text to print
abbrev pub IsPrinted : List ℕ → Turn → Type 0
IsPrinted words (Said text) = string_bytes text ≡ words
IsPrinted words Over = ⊥

module _ {K : Type 0} (kind : Ghosts K) where
  -- a sheet of n blocks a plane that was just opened: every pair is absent
  pub record IsBlank (n : ℕ) (desk : Desk K) : Type 0 where
    pub sized : IsSize n
    pub state : state_of desk.state ≡ state_at opened (sheet_of n)
    pub cells : AreAllAbsent n (cell kind.zero n desk.tables.costs.items desk.tables.standing.items)

  -- the call was made on the sheet, and this is its answer
  abbrev pub Performs : Desk K → Act K → Option TableName → Answer K → Desk K → Type 0
  Performs desk act short answer desk' = WasMade kind desk.state (tables_of desk.tables)
      (call_on desk.state act short) answer desk'.state (tables_of desk'.tables)

  module _ (written : K → List ℕ) where
    -- what a request does: the call that it asks for is made, once, and its answer is told in
    -- words; help and the end change nothing
    abbrev pub Serves : Desk K → Request K → Desk K → Turn → Type 0
    Serves desk (Make act short) desk' turn = (answer : Answer K)
        × Performs desk act short answer desk'
        × IsPrinted (answer_words written act desk'.state answer) turn
    Serves desk Help desk' turn = (desk' ≡ desk) × IsPrinted HELP.now turn
    Serves desk Quit desk' turn = (desk' ≡ desk) × (turn ≡ Over)

    -- what the line of this number and these words does: what it asks for; or if it asks for
    -- nothing, what is wrong with it is told, and nothing changes
    module _ (numbers : K → List ℤ) (entering : List ℕ) (number : ℕ) where
      abbrev pub Moves : List (List ℕ) → Desk K → Desk K → Turn → Type 0
      Moves words desk desk' turn =
          ((request : Request K) × Asks kind numbers words request
          × Serves desk request desk' turn)
          ⊎ ((complaint : Complaint) × IsWrong kind entering words complaint
          × (desk' ≡ desk) × IsPrinted (complained_line number complaint) turn)
