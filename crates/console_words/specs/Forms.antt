-- The forms of lines: which words fit which place of a form, and how one that does not is blamed.
use Rattle.std.specs.Prelude.{◌≡◌, ◌<◌, ◌^◌, ◌⊎◌, ◌++◌, ℕ, ℤ, List, [], ◌∷◌, FitsSigned, map}
use Rattle.std.specs.Int.{w64}
use Rattle.std.specs.Str.Parse.{IsNumeral, signed_digits_value}
use Rattle.std.specs.Str.Parse.{without_leading_plus, without_leading_sign, error_kind}
use Rattle.std.specs.declared.num.ParseIntError.{ParseIntError}
use Rattle.std.specs.declared.num.IntErrorKind.TheVariants.{PosOverflow, NegOverflow}
use Rattle.console_words.specs.declared.complaint.Complaint.{Complaint}
use Rattle.console_words.specs.declared.complaint.Complaint.TheVariants.{Unknown, TooFew, TooMany}
use Rattle.console_words.specs.declared.complaint.Complaint.TheVariants.{NotANumber, NotFromZero}
use Rattle.console_words.specs.declared.complaint.Complaint.TheVariants.{LargeBlock, LargeCost}
use Rattle.console_words.specs.declared.complaint.Complaint.TheVariants.{Columns, Size}
use Rattle.console_words.specs.declared.complaint.Complaint.TheVariants.{UnknownTable}
use Rattle.console_words.specs.declared.lead.Lead.{Lead}
use Rattle.console_words.specs.declared.opening.ColumnCount.{ColumnCount}
use Rattle.console_words.specs.declared.table_name.TableName.{TableName}
use Rattle.console_words.specs.declared.verb.Verb.{Verb}
use Rattle.console_words.specs.Naming.{lead_word, verb_word, table_word, count_word}
use Rattle.console_words.specs.Sizing.{TellsSize, number_in}

-- a word writes a number that is beyond its type
abbrev pub IsOverflow : ParseIntError → Type 0
IsOverflow error = (error_kind error ≡ PosOverflow) ⊎ (error_kind error ≡ NegOverflow)

-- the signed number that a word writes in decimal
abbrev pub integer_in : List ℕ → ℤ
integer_in word = signed_digits_value 10 word

-- a place in a form: for the first word of a line, a block, a number of a cost, the size of a
-- sheet, the number of columns, a table or a call
pub data Slot : Type 0 where
  a_lead : Slot
  a_block : Slot
  a_number : Slot
  a_size : Slot
  a_count : Slot
  a_table : Slot
  a_call : Slot

-- The word is what its place asks for. A number is written in decimal digits, of which some may be
-- zeros in front. Before those of a block, which has 16 bits, and of a size there may be a `+`;
-- before those of a cost, which has 64 bits and a sign, a `+` or a `-`.
abbrev pub Fills : Slot → List ℕ → Type 0
Fills a_lead word = (l : Lead) × (lead_word l ≡ word)
Fills a_block word = IsNumeral 10 (without_leading_plus word) × (number_in word < 2 ^ 16)
Fills a_number word = IsNumeral 10 (without_leading_sign word) × FitsSigned w64 (integer_in word)
Fills a_size word = TellsSize word
Fills a_count word = (c : ColumnCount) × (count_word c ≡ word)
Fills a_table word = (t : TableName) × (table_word t ≡ word)
Fills a_call word = (v : Verb) × (verb_word v ≡ word)

-- A word that does not fit its place is blamed so: a numeral as too large or too small, and what is
-- no numeral as none. Which of the two is told of a long word that is no numeral is left open.
abbrev pub Blames : Slot → List ℕ → Complaint → Type 0
Blames a_lead word (Unknown told) = (told.now ≡ word) × ¬ Fills a_lead word
Blames a_block word (LargeBlock told) = (told.now ≡ word) × ¬ Fills a_block word
Blames a_block word (NotFromZero told) =
    (told.now ≡ word) × ¬ IsNumeral 10 (without_leading_plus word)
Blames a_number word (LargeCost told) = (told.now ≡ word) × ¬ Fills a_number word
Blames a_number word (NotANumber told) =
    (told.now ≡ word) × ¬ IsNumeral 10 (without_leading_sign word)
Blames a_size word (Size told) = (told.now ≡ word) × ¬ Fills a_size word
Blames a_size word (NotFromZero told) =
    (told.now ≡ word) × ¬ IsNumeral 10 (without_leading_plus word)
Blames a_count word (Columns told) = (told.now ≡ word) × ¬ Fills a_count word
Blames a_table word (UnknownTable told) = (told.now ≡ word) × ¬ Fills a_table word
Blames a_call word (Unknown told) = (told.now ≡ word) × ¬ Fills a_call word
Blames _ word complaint = ⊥

-- a word is missing of the form, or one is left
abbrev pub IsTooFew : List ℕ → Complaint → Type 0
IsTooFew form (TooFew told) = told.now ≡ form
IsTooFew form _ = ⊥

abbrev pub IsTooMany : List ℕ → Complaint → Type 0
IsTooMany form (TooMany told) = told.now ≡ form
IsTooMany form _ = ⊥

-- each place has its word, and no word is left
abbrev pub AllFill : List Slot → List (List ℕ) → Type 0
AllFill [] [] = Unit {0}
AllFill (slot ∷ slots) (word ∷ words) = Fills slot word × AllFill slots words
AllFill _ _ = ⊥

-- the first place whose word is missing or does not fit is blamed
abbrev pub Fails : List ℕ → List Slot → List (List ℕ) → Complaint → Type 0
Fails form [] words complaint = ⊥
Fails form (slot ∷ slots) [] complaint = IsTooFew form complaint
Fails form (slot ∷ slots) (word ∷ words) complaint =
    Blames slot word complaint ⊎ (Fills slot word × Fails form slots words complaint)

-- each place has its word, but words are left
abbrev pub IsTooLong : List ℕ → List Slot → List (List ℕ) → Complaint → Type 0
IsTooLong form [] (word ∷ words) complaint = IsTooMany form complaint
IsTooLong form (slot ∷ slots) (word ∷ words) complaint =
    Fills slot word × IsTooLong form slots words complaint
IsTooLong form _ _ complaint = ⊥

-- the words are not of the form, and this is what is told of it
abbrev pub IsWrongForm : List ℕ → List Slot → List (List ℕ) → Complaint → Type 0
IsWrongForm form slots words complaint =
    Fails form slots words complaint ⊎ IsTooLong form slots words complaint

-- the words at the front fill these places, and write these numbers
abbrev pub Takes : List Slot → List (List ℕ) → List (List ℕ) → List ℤ → Type 0
Takes slots words left numbers = (taken : List (List ℕ)) × (words ≡ taken ++ left)
    × AllFill slots taken × (numbers ≡ map integer_in taken)
