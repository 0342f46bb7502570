-- Refusals in lines, with the crowd set of a sheet that holds no perfect pairing.
use Rattle.std.specs.Prelude.{ℕ, List, [], ◌++◌, codes, decimal, if◌then◌else◌}
use Rattle.blockset.specs.Sets.{bit}
use Rattle.blockset.specs.declared.TheConstants.{MOST_BLOCKS}
use Rattle.matching.specs.declared.augmenting.Shortfall.{Shortfall}
use Rattle.sheet.specs.Numbers.{cause_number}
use Rattle.sheet.specs.declared.fault.Cause.{Cause}
use Rattle.refusal_words.specs.Lines.{up_to}
use Rattle.refusal_words.specs.Words.{meaning_of, remedy_for}

-- `refused NUMBER: MEANING`
abbrev pub meaning_line : Cause → List ℕ
meaning_line cause = codes "refused " ++ (decimal (cause_number cause)
    ++ (codes ": " ++ (meaning_of cause ++ codes "\n")))

abbrev pub remedy_line : Cause → List ℕ
remedy_line cause = remedy_for cause ++ codes "\n"

-- a refusal: its number and what it means, and what to do
abbrev pub refusal_lines : Cause → List ℕ
refusal_lines cause = meaning_line cause ++ remedy_line cause

-- ` B` if left block B is in the crowd set
abbrev pub block_word : ℕ → ℕ → List ℕ
block_word crowd block = (if bit crowd block then codes " " ++ decimal block else [])

-- the left blocks of a crowd set, and how many right blocks they are short of
abbrev pub crowd_lines : Shortfall → List ℕ
crowd_lines s = codes "crowd set: left blocks" ++ (up_to MOST_BLOCKS (block_word s.crowd)
    ++ (codes "\nshortage: " ++ (decimal s.short ++ codes "\n")))

-- the refusal of a sheet that holds no perfect pairing
abbrev pub unmatched_lines : Cause → Shortfall → List ℕ
unmatched_lines cause s = meaning_line cause ++ (crowd_lines s ++ remedy_line cause)
