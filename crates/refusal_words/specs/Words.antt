-- Refusals in words: what each cause means, and what to do about it, as the table of causes says.
use Rattle.std.specs.Prelude.{ℕ, ◌-◌, Bool, false, List, [], ◌++◌, codes, decimal}
use Rattle.std.specs.Prelude.{if◌then◌else◌, slice_index_or}
use Rattle.sheet.specs.Numbers.{cause_number}
use Rattle.sheet.specs.declared.fault.Cause.{Cause}
use Rattle.sheet.specs.declared.fault.Fault.{Fault}
use Rattle.refusal_words.specs.declared.causes.TheConstants.{CAUSES}

-- the row of a cause in the table; there is one for each, so the last argument is never taken
abbrev pub cause_row : Cause → Bool × record { now : List ℕ } × record { now : List ℕ }
cause_row cause = slice_index_or CAUSES (cause_number cause - 1)
    (false, record { now = [] }, record { now = [] })

-- the cause is found in a field of a file or in a line of a text, and the place of its refusal is
-- where that begins
abbrev pub has_place : Cause → Bool
has_place cause = (cause_row cause).0

abbrev pub meaning_of : Cause → List ℕ
meaning_of cause = (cause_row cause).1.now

abbrev pub remedy_for : Cause → List ℕ
remedy_for cause = (cause_row cause).2.now

-- `: MEANING`, and on the next line what to do
abbrev pub words_for : Cause → List ℕ
words_for cause =
    codes ": " ++ (meaning_of cause ++ (codes "\n" ++ (remedy_for cause ++ codes "\n")))

-- `refused N at byte P: ..`, without the place where neither a field nor a line is at fault
abbrev pub explanation : Fault → List ℕ
explanation f = (if has_place f.cause
    then codes "refused " ++ (decimal (cause_number f.cause)
    ++ (codes " at byte " ++ (decimal f.place ++ words_for f.cause)))
    else codes "refused " ++ (decimal (cause_number f.cause) ++ words_for f.cause))
