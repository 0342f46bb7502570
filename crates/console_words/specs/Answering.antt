-- The answers to calls in plain words. A cost is written as its kind says.
use Rattle.std.specs.Prelude.{ℕ, List, [], ◌++◌, codes, decimal, Option, Some, None, slice_get}
use Rattle.std.specs.List.{flat_map}
use Rattle.pairing.specs.Places.{place_of}
use Rattle.sheet.specs.Size.{size_of}
use Rattle.session.specs.declared.answer.Answer.{Answer}
use Rattle.session.specs.declared.answer.Answer.TheVariants.{NotMade, Refused, Unmatched, Done}
use Rattle.session.specs.declared.answer.Answer.TheVariants.{Settled as IsSettled, Quoted, Amount}
use Rattle.session.specs.declared.answer.Answer.TheVariants.{Marked, Pairing, End}
use Rattle.session.specs.declared.call.Act.{Act}
use Rattle.session.specs.declared.call.Act.TheVariants.{Enter, Strike, Total, Close, Reopen}
use Rattle.session.specs.declared.state.State.{State}
use Rattle.session.specs.declared.state.State.TheVariants.{Open, Settled, Walking}
use Rattle.session.specs.Runs.{state_of}
use Rattle.refusal_words.specs.Lines.{numbers_line, pairing_line, up_to}
use Rattle.refusal_words.specs.Refusing.{refusal_lines, unmatched_lines}
use Rattle.console_words.specs.declared.verb.Verb.{Verb}
use Rattle.console_words.specs.Naming.{verb_word, verb_of}

-- the right block of each left block
abbrev pub partners_line : List ℕ → List ℕ
partners_line = numbers_line (codes "partners")

-- the mark of a pair, a row for each left block
abbrev pub mark_word : Option ℕ → List ℕ
mark_word None = []
mark_word (Some mark) = decimal mark

abbrev pub mark_row : ℕ → List ℕ → ℕ → List ℕ
mark_row n marks l =
    up_to n (λ r. mark_word (slice_get marks (place_of n l r))) ++ codes "\n"

abbrev pub mark_rows : ℕ → List ℕ → List ℕ
mark_rows n marks = up_to n (mark_row n marks)

-- what state a sheet is in, and which calls that has
abbrev pub state_words : State → List ℕ
state_words (Open sheet) = codes "the sheet is open, and an open sheet"
state_words (Settled sheet) = codes "the sheet is settled, and a settled sheet"
state_words (Walking walk) = codes "the sheet is in a walk, and a walk"

abbrev pub state_calls : State → List ℕ
state_calls (Open sheet) = codes "enter, strike, read and settle"
state_calls (Settled sheet) = codes "quote, total, marks, start and reopen"
state_calls (Walking walk) = codes "next and close"

-- the state has no such call
abbrev pub not_made_words : State → Verb → List ℕ
not_made_words state verb = codes "not made: " ++ (state_words state ++ (codes " has no "
    ++ (verb_word verb ++ (codes "\nIt has " ++ (state_calls state ++ codes ".\n")))))

module _ {K : Type 0} (written : K → List ℕ) where
  -- a cost behind a word
  abbrev pub cost_line : List ℕ → K → List ℕ
  cost_line word cost = word ++ (codes " " ++ (written cost ++ codes "\n"))

  -- the prices of one plane
  abbrev pub prices_line : List ℕ → List K → List ℕ
  prices_line plane prices = (plane ++ codes " prices")
      ++ (flat_map (λ price. codes " " ++ written price) prices ++ codes "\n")

  -- what a settle wrote
  abbrev pub settled_lines : List ℕ → (left right : List K) → List ℕ
  settled_lines partners left right = codes "settled\n" ++ (partners_line partners
      ++ (prices_line (codes "left") left ++ prices_line (codes "right") right))

  -- what was done by a call that tells nothing
  abbrev pub done_words : Act K → List ℕ
  done_words (Enter l r cost) = codes "entered " ++ (decimal l ++ (codes " " ++ (decimal r
      ++ (codes " at " ++ (written cost ++ codes "\n")))))
  done_words (Strike l r) =
      codes "struck " ++ (decimal l ++ (codes " " ++ (decimal r ++ codes "\n")))
  done_words Close = codes "closed: the sheet is settled\n"
  done_words Reopen = codes "reopened: the sheet is open\n"
  done_words _ = codes "done\n"

  abbrev pub amount_word : Act K → List ℕ
  amount_word Total = codes "total"
  amount_word _ = codes "cost"

  -- the answer to a call that left the sheet in a state
  abbrev pub answer_words : Act K → State → Answer K → List ℕ
  answer_words act state NotMade = not_made_words state (verb_of act)
  answer_words act state (Refused f) = refusal_lines f.cause
  answer_words act state (Unmatched f s) = unmatched_lines f.cause s
  answer_words act state Done = done_words act
  answer_words act state (IsSettled partners left right) =
      settled_lines partners.items left.items right.items
  answer_words act state (Quoted cost slack) = cost_line (codes "cost") cost
      ++ cost_line (codes "above its two prices by") slack
  answer_words act state (Amount x) = cost_line (amount_word act) x
  answer_words act state (Marked marks) = mark_rows (size_of (state_of state).sheet) marks.items
  answer_words act state (Pairing list) = pairing_line list.items
  answer_words act state End = codes "end\n"
