-- The words that name calls, tables and columns.
use Rattle.std.specs.Prelude.{ℕ, List, codes}
use Rattle.session.specs.declared.call.Act.{Act}
use Rattle.session.specs.declared.call.Act.TheVariants.{Enter as EnterAct, Strike as StrikeAct}
use Rattle.session.specs.declared.call.Act.TheVariants.{Read as ReadAct, Settle as SettleAct}
use Rattle.session.specs.declared.call.Act.TheVariants.{Quote as QuoteAct, Total as TotalAct}
use Rattle.session.specs.declared.call.Act.TheVariants.{Marks as MarksAct, Start as StartAct}
use Rattle.session.specs.declared.call.Act.TheVariants.{Next as NextAct, Close as CloseAct}
use Rattle.session.specs.declared.call.Act.TheVariants.{Reopen as ReopenAct}
use Rattle.console_words.specs.declared.verb.Verb.{Verb}
use Rattle.console_words.specs.declared.verb.Verb.TheVariants.{Enter, Strike, Read, Settle, Quote}
use Rattle.console_words.specs.declared.verb.Verb.TheVariants.{Total, Marks, Start, Next, Close}
use Rattle.console_words.specs.declared.verb.Verb.TheVariants.{Reopen}
use Rattle.console_words.specs.declared.lead.Lead.{Lead}
use Rattle.console_words.specs.declared.lead.Lead.TheVariants.{Help, Quit, Columns, Size, Short}
use Rattle.console_words.specs.declared.lead.Lead.TheVariants.{Call}
use Rattle.console_words.specs.declared.opening.ColumnCount.{ColumnCount}
use Rattle.console_words.specs.declared.opening.ColumnCount.TheVariants.{One, Two}
use Rattle.console_words.specs.declared.table_name.TableName.{TableName}
use Rattle.console_words.specs.declared.table_name.TableName.TheVariants.{Costs, Standing}
use Rattle.console_words.specs.declared.table_name.TableName.TheVariants.{Partners, Left, Right}
use Rattle.console_words.specs.declared.table_name.TableName.TheVariants.{Walk, Marks as MarksTable}

abbrev pub verb_word : Verb → List ℕ
verb_word Enter = codes "enter"
verb_word Strike = codes "strike"
verb_word Read = codes "read"
verb_word Settle = codes "settle"
verb_word Quote = codes "quote"
verb_word Total = codes "total"
verb_word Marks = codes "marks"
verb_word Start = codes "start"
verb_word Next = codes "next"
verb_word Close = codes "close"
verb_word Reopen = codes "reopen"

-- the first words of lines
abbrev pub lead_word : Lead → List ℕ
lead_word Help = codes "help"
lead_word Quit = codes "quit"
lead_word Columns = codes "columns"
lead_word Size = codes "size"
lead_word Short = codes "short"
lead_word (Call verb) = verb_word verb

-- the form of a line that makes the call, where `enter` has this one
abbrev pub form_words : List ℕ → Verb → List ℕ
form_words enter Enter = enter
form_words enter Strike = codes "strike L R"
form_words enter Read = codes "read L R"
form_words enter Quote = codes "quote L R"
form_words enter verb = verb_word verb

abbrev pub count_word : ColumnCount → List ℕ
count_word One = codes "1"
count_word Two = codes "2"

-- what is said of the number of a cost's columns
abbrev pub columns_words : ColumnCount → List ℕ
columns_words One = codes "a cost is one number"
columns_words Two = codes "a cost is two numbers, and the first decides before the second"

-- which call an act is
abbrev pub verb_of : {K : Type 0} → Act K → Verb
verb_of (EnterAct l r c) = Enter
verb_of (StrikeAct l r) = Strike
verb_of (ReadAct l r) = Read
verb_of SettleAct = Settle
verb_of (QuoteAct l r) = Quote
verb_of TotalAct = Total
verb_of MarksAct = Marks
verb_of StartAct = Start
verb_of NextAct = Next
verb_of CloseAct = Close
verb_of ReopenAct = Reopen

abbrev pub table_word : TableName → List ℕ
table_word Costs = codes "costs"
table_word Standing = codes "standing"
table_word Partners = codes "partners"
table_word Left = codes "left"
table_word Right = codes "right"
table_word Walk = codes "walk"
table_word MarksTable = codes "marks"
