-- What a line asks for, and what is wrong with one that asks for nothing.
use Rattle.std.specs.Prelude.{◌≡◌, ◌⊎◌, ℕ, ℤ, pos, List, [], ◌∷◌, Some, None, map, codes}
use Rattle.std.specs.Prelude.{replicate}
use Rattle.cost.specs.declared.Cost.{Ghosts}
use Rattle.session.specs.declared.call.Act.{Act}
use Rattle.session.specs.declared.call.Act.TheVariants.{Enter as EnterAct, Strike as StrikeAct}
use Rattle.session.specs.declared.call.Act.TheVariants.{Read as ReadAct, Quote as QuoteAct}
use Rattle.console_words.specs.declared.complaint.Complaint.{Complaint}
use Rattle.console_words.specs.declared.complaint.Complaint.TheVariants.{NoSheet, SheetIsOpen}
use Rattle.console_words.specs.declared.lead.Lead.{Lead}
use Rattle.console_words.specs.declared.lead.Lead.TheVariants.{Help, Quit, Columns, Size}
use Rattle.console_words.specs.declared.lead.Lead.TheVariants.{Short, Call}
use Rattle.console_words.specs.declared.opening.Opening.{Opening}
use Rattle.console_words.specs.declared.opening.Opening.TheVariants.{Columns as SetsColumns}
use Rattle.console_words.specs.declared.opening.Opening.TheVariants.{Size as SetsSize}
use Rattle.console_words.specs.declared.opening.Opening.TheVariants.{Help as AsksHelp}
use Rattle.console_words.specs.declared.opening.Opening.TheVariants.{Quit as AsksEnd}
use Rattle.console_words.specs.declared.request.Request.{Request}
use Rattle.console_words.specs.declared.request.Request.TheVariants.{Make, Help as WantsHelp}
use Rattle.console_words.specs.declared.request.Request.TheVariants.{Quit as WantsEnd}
use Rattle.console_words.specs.declared.table_name.TableName.{TableName}
use Rattle.console_words.specs.declared.verb.Verb.{Verb}
use Rattle.console_words.specs.declared.verb.Verb.TheVariants.{Enter, Strike, Read, Quote}
use Rattle.console_words.specs.Forms.{Slot, a_lead, a_block, a_number, a_size, a_count}
use Rattle.console_words.specs.Forms.{a_table, a_call, Blames, AllFill, Fails, IsTooFew}
use Rattle.console_words.specs.Forms.{IsWrongForm, integer_in}
use Rattle.console_words.specs.Naming.{verb_word, verb_of, form_words, table_word, lead_word}
use Rattle.console_words.specs.Naming.{count_word}
use Rattle.console_words.specs.Sizing.{TellsSize, number_in}

-- ---- Before a sheet is open

-- what a line asks for
abbrev pub AsksOpening : List (List ℕ) → Opening → Type 0
AsksOpening words (SetsColumns c) = words ≡ codes "columns" ∷ (count_word c ∷ [])
AsksOpening words (SetsSize s) = (word : List ℕ) × (words ≡ codes "size" ∷ (word ∷ []))
    × TellsSize word × (s.blocks ≡ number_in word)
AsksOpening words AsksHelp = words ≡ codes "help" ∷ []
AsksOpening words AsksEnd = words ≡ codes "quit" ∷ []

-- the word is for an open sheet
abbrev pub LacksSheet : List ℕ → Complaint → Type 0
LacksSheet word (NoSheet told) = told.now ≡ word
LacksSheet word _ = ⊥

-- what is wrong with the words behind a first word
abbrev pub IsWrongBehind : Lead → List (List ℕ) → Complaint → Type 0
IsWrongBehind Help words complaint = IsWrongForm (codes "help") [] words complaint
IsWrongBehind Quit words complaint = IsWrongForm (codes "quit") [] words complaint
IsWrongBehind Columns words complaint =
    IsWrongForm (codes "columns 1` or `columns 2") (a_count ∷ []) words complaint
IsWrongBehind Size words complaint = IsWrongForm (codes "size N") (a_size ∷ []) words complaint
IsWrongBehind Short words complaint = LacksSheet (lead_word Short) complaint
IsWrongBehind (Call verb) words complaint = LacksSheet (lead_word (Call verb)) complaint

-- what is wrong with a line
abbrev pub IsWrongOpening : List (List ℕ) → Complaint → Type 0
IsWrongOpening [] complaint = IsTooFew (codes "size N") complaint
IsWrongOpening (word ∷ words) complaint = Blames a_lead word complaint
    ⊎ ((l : Lead) × (lead_word l ≡ word) × IsWrongBehind l words complaint)

-- ---- On an open sheet

-- the word is for before a sheet is open
abbrev pub IsSheetOpen : List ℕ → Complaint → Type 0
IsSheetOpen word (SheetIsOpen told) = told.now ≡ word
IsSheetOpen word _ = ⊥

module _ {K : Type 0} (kind : Ghosts K) where
  -- the places of the words behind a call; a cost has a number for each column
  abbrev pub slots_of : Verb → List Slot
  slots_of Enter = a_block ∷ (a_block ∷ replicate kind.columns a_number)
  slots_of Strike = a_block ∷ (a_block ∷ [])
  slots_of Read = a_block ∷ (a_block ∷ [])
  slots_of Quote = a_block ∷ (a_block ∷ [])
  slots_of _ = []

  -- where a cost is typed as some numbers
  module _ (numbers : K → List ℤ) where
    -- the numbers of a call: its pair, and its cost
    abbrev pub numbers_of : Act K → List ℤ
    numbers_of (EnterAct l r cost) = pos l ∷ (pos r ∷ numbers cost)
    numbers_of (StrikeAct l r) = pos l ∷ (pos r ∷ [])
    numbers_of (ReadAct l r) = pos l ∷ (pos r ∷ [])
    numbers_of (QuoteAct l r) = pos l ∷ (pos r ∷ [])
    numbers_of _ = []

    -- the call's name stands first, and the words behind it fill its places with its numbers
    abbrev pub AsksCall : List (List ℕ) → Act K → Type 0
    AsksCall words act = (behind : List (List ℕ)) × (words ≡ verb_word (verb_of act) ∷ behind)
        × AllFill (slots_of (verb_of act)) behind × (numbers_of act ≡ map integer_in behind)

    -- what a line asks for
    abbrev pub Asks : List (List ℕ) → Request K → Type 0
    Asks words (Make act None) = AsksCall words act
    Asks words (Make act (Some t)) = (rest : List (List ℕ))
        × (words ≡ codes "short" ∷ (table_word t ∷ rest)) × AsksCall rest act
    Asks words WantsHelp = words ≡ codes "help" ∷ []
    Asks words WantsEnd = words ≡ codes "quit" ∷ []

  -- where this is the form of a line that enters a pair
  module _ (entering : List ℕ) where
    -- what is wrong with the words behind a call
    abbrev pub IsWrongCall : Verb → List (List ℕ) → Complaint → Type 0
    IsWrongCall verb words complaint =
        IsWrongForm (form_words entering verb) (slots_of verb) words complaint

    -- what is wrong with the words behind `short`
    abbrev pub IsWrongShort : List (List ℕ) → Complaint → Type 0
    IsWrongShort words complaint =
        Fails (codes "short TABLE CALL ..") (a_table ∷ (a_call ∷ [])) words complaint
        ⊎ ((t : TableName) × (verb : Verb) × (rest : List (List ℕ))
        × (words ≡ table_word t ∷ (verb_word verb ∷ rest)) × IsWrongCall verb rest complaint)

    -- what is wrong with the words behind a first word
    abbrev pub IsWrongAfter : Lead → List (List ℕ) → Complaint → Type 0
    IsWrongAfter Help words complaint = IsWrongForm (codes "help") [] words complaint
    IsWrongAfter Quit words complaint = IsWrongForm (codes "quit") [] words complaint
    IsWrongAfter Columns words complaint = IsSheetOpen (codes "columns") complaint
    IsWrongAfter Size words complaint = IsSheetOpen (codes "size") complaint
    IsWrongAfter Short words complaint = IsWrongShort words complaint
    IsWrongAfter (Call verb) words complaint = IsWrongCall verb words complaint

    -- what is wrong with a line
    abbrev pub IsWrong : List (List ℕ) → Complaint → Type 0
    IsWrong [] complaint = IsTooFew (codes "help") complaint
    IsWrong (word ∷ words) complaint = Blames a_lead word complaint
        ⊎ ((l : Lead) × (lead_word l ≡ word) × IsWrongAfter l words complaint)
