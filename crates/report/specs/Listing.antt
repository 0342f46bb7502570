-- The text of a listing: all optimum pairings of a grid in dictionary order, as far as a listing
-- goes, or why there is none; and what listing a file answers.
use Rattle.std.specs.Prelude.{◌≡◌, ℕ, List, [], ◌∷◌, ◌++◌, length, take, ℤ, codes, decimal}
use Rattle.std.specs.Prelude.{nat_lt, if◌then◌else◌}
use Rattle.std.specs.Fmt.{signed_decimal}
use Rattle.std.specs.List.{flat_map}
use Rattle.pairing.specs.Grid.{Grid, total}
use Rattle.pairing.specs.Optima.{optima}
use Rattle.sheet.specs.Numbers.{cause_number}
use Rattle.sheet.specs.declared.fault.Cause.{Cause}
use Rattle.sheet.specs.declared.fault.Cause.TheVariants.{NoPerfectPairing}
use Rattle.orderfile.specs.Faults.{FirstFault}
use Rattle.orderfile.specs.Format.{States}
use Rattle.orderfile.specs.Loading.{stated_grid}
use Rattle.refusal_words.specs.Lines.{pairing_line}
use Rattle.report.specs.Describing.{IsReport}
use Rattle.report.specs.declared.listing_lines.TheConstants.{MOST_PAIRINGS}

-- ---- The lines

abbrev pub pairing_lines : List (List ℕ) → List ℕ
pairing_lines = flat_map pairing_line

-- `total T`: a number for each column
abbrev pub total_line : List ℤ → List ℕ
total_line columns =
    codes "total" ++ (flat_map (λ z. codes " " ++ signed_decimal z) columns ++ codes "\n")

-- `refused N`: a refusal by the number of its cause
abbrev pub cause_line : Cause → List ℕ
cause_line cause = codes "refused " ++ (decimal (cause_number cause) ++ codes "\n")

-- the last line behind so many pairings: they are all, or others remain
abbrev pub last_line : ℕ → List ℕ
last_line many = (if nat_lt MOST_PAIRINGS many then codes "more\n" else codes "end\n")

-- ---- The listing

-- the pairings that a listing has, and its last line
abbrev pub listed : List (List ℕ) → List ℕ
listed ps = pairing_lines (take MOST_PAIRINGS ps) ++ last_line (length ps)

-- the listing of a grid, over the list of its optimum pairings: what the first of them costs, which
-- is what each costs, and then the pairings; or that there is none
abbrev pub listing_over : Grid → List (List ℕ) → List ℕ
listing_over g [] = cause_line NoPerfectPairing
listing_over g (p ∷ ps) = total_line (total g p) ++ listed (p ∷ ps)

abbrev pub listing_text : Grid → List ℕ
listing_text g = listing_over g (optima g)

-- the text lists the optimum pairings of the grid that the file states, or tells the cause of its
-- first fault
abbrev pub Lists : (file text : List ℕ) → Type 0
Lists file = IsReport (States file) (FirstFault file)
    (λ order text. text ≡ listing_text (stated_grid order)) (λ f. cause_line f.cause)
