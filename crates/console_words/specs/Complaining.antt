-- Complaints in plain words.
use Rattle.std.specs.Prelude.{ℕ, List, ◌++◌, codes, decimal}
use Rattle.refusal_words.specs.Words.{meaning_of, remedy_for}
use Rattle.sheet.specs.declared.fault.Cause.TheVariants.{Size as SizeCause}
use Rattle.console_words.specs.declared.complaint.Complaint.{Complaint}
use Rattle.console_words.specs.declared.complaint.Complaint.TheVariants.{NotText, Unknown, TooFew}
use Rattle.console_words.specs.declared.complaint.Complaint.TheVariants.{TooMany, NotANumber}
use Rattle.console_words.specs.declared.complaint.Complaint.TheVariants.{NotFromZero, LargeBlock}
use Rattle.console_words.specs.declared.complaint.Complaint.TheVariants.{LargeCost, Columns, Size}
use Rattle.console_words.specs.declared.complaint.Complaint.TheVariants.{UnknownTable, NoSheet}
use Rattle.console_words.specs.declared.complaint.Complaint.TheVariants.{SheetIsOpen}

-- what is wrong with a line
abbrev pub complaint_text : Complaint → List ℕ
complaint_text NotText = codes "this is not text in UTF-8"
complaint_text (Unknown word) =
    codes "`" ++ (word.now ++ codes "` is no call; `help` lists the calls")
complaint_text (TooFew form) =
    codes "a word is missing: write `" ++ (form.now ++ codes "`")
complaint_text (TooMany form) =
    codes "there are too many words: write `" ++ (form.now ++ codes "`")
complaint_text (NotANumber word) = codes "`" ++ (word.now ++ codes "` is not a whole number")
complaint_text (NotFromZero word) =
    codes "`" ++ (word.now ++ codes "` is not a whole number from 0")
complaint_text (LargeBlock word) =
    codes "`" ++ (word.now ++ codes "` is too large for a block number")
complaint_text (LargeCost word) = codes "`"
    ++ (word.now ++ codes "` is too large: a cost fits a signed number of 64 bits")
complaint_text (Columns word) =
    codes "a cost has 1 or 2 columns, not `" ++ (word.now ++ codes "`")
complaint_text (Size word) = codes "`" ++ (word.now ++ (codes "`: "
    ++ (meaning_of SizeCause ++ (codes ". " ++ remedy_for SizeCause))))
complaint_text (UnknownTable word) = codes "`" ++ (word.now ++ codes
    "` is no table: write costs, standing, partners, left, right, walk or marks")
complaint_text (NoSheet word) = codes "no sheet is open yet: write `size N` before `"
    ++ (word.now ++ codes "`")
complaint_text (SheetIsOpen word) = codes "a sheet is open already: `"
    ++ (word.now ++ codes "` comes only before it is opened")

-- the line that is printed for it, with the number of the line that is complained of
abbrev pub complained_line : ℕ → Complaint → List ℕ
complained_line number complaint = codes "line " ++ (decimal number
    ++ (codes ": " ++ (complaint_text complaint ++ codes "\n")))
