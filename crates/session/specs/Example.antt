-- The promise on small sheets: whole lists of calls that keep it, and answers that do not. A cost
-- is a whole number here, in one column.
use Rattle.std.specs.Prelude.{◌≡◌, ℕ, List, [], ◌∷◌, ◌++◌, replicate, ℤ, pos, negsuc, Some, None}
use Rattle.std.specs.Prelude.{Option}
use Rattle.cost.specs.declared.Cost.{Ghosts}
use Rattle.matching.specs.declared.augmenting.Shortfall.{Shortfall}
use Rattle.sheet.specs.declared.fault.Cause.{Cause}
use Rattle.sheet.specs.declared.fault.Cause.TheVariants.{TableLength, Block, Absent}
use Rattle.sheet.specs.declared.fault.Cause.TheVariants.{NoPerfectPairing, Inconsistent}
use Rattle.sheet.specs.Refusals.{fault}
use Rattle.session.specs.declared.call.Act.{Act}
use Rattle.session.specs.declared.call.Act.TheVariants.{Enter, Strike, Read, Settle, Quote, Total}
use Rattle.session.specs.declared.call.Act.TheVariants.{Marks, Start, Next, Close, Reopen}
use Rattle.session.specs.declared.call.Lengths.{Lengths}
use Rattle.session.specs.Book.{Book, blank, grid_in}
use Rattle.session.specs.Exchange.{ValueOf, Reply, Settlement, not_made, turned_down, gives}
use Rattle.session.specs.Exchange.{Exchange}
use Rattle.session.specs.Lists.{TableLists, right_lengths}
use Rattle.session.specs.Program.{lists_after}
use Rattle.session.specs.Promise.{Settling, settling_of, AllRight, KeepsPromise, book_after}

abbrev pub whole_numbers : Ghosts ℤ
whole_numbers = record { columns = 1; meaning = λ z. z ∷ []; zero = pos 0 }

-- ---- Calls with what came of them, over tables of the right lengths

-- on n blocks a plane
abbrev pub on_blocks : ℕ → (act : Act ℤ) → Reply (ValueOf ℤ act) → Exchange ℤ
on_blocks n act reply = record { act = act; handed = right_lengths n; reply = reply }

-- on three blocks a plane
abbrev pub giving : (act : Act ℤ) → ValueOf ℤ act → Exchange ℤ
giving act x = on_blocks 3 act (gives x)

abbrev pub refusing : Act ℤ → Cause → Option Shortfall → Exchange ℤ
refusing act cause shortfall = on_blocks 3 act (turned_down (fault cause 0) shortfall)

abbrev pub declining : Act ℤ → Exchange ℤ
declining act = on_blocks 3 act not_made

abbrev pub entering : ℕ → ℕ → ℕ → Exchange ℤ
entering l r cost = giving (Enter l r (pos cost)) tt

-- one place of a left price or of a standing byte is missing
abbrev pub short_left : Lengths
short_left = record (right_lengths 3) { left = 2 }

abbrev pub short_standing : Lengths
short_standing = record (right_lengths 3) { standing = 8 }

-- ---- A whole list

abbrev pub first : List ℕ
first = 0 ∷ 1 ∷ 2 ∷ []

abbrev pub second : List ℕ
second = 1 ∷ 0 ∷ 2 ∷ []

-- the sheet's greatest prices
abbrev pub with_prices : List ℕ → Settlement ℤ
with_prices partners = record {
  partners = partners;
  left = pos 4 ∷ pos 3 ∷ pos 2 ∷ [];
  right = pos 0 ∷ negsuc 1 ∷ pos 0 ∷ [];
}

abbrev pub entries : List (Exchange ℤ)
entries = entering 0 0 4 ∷ entering 0 1 2 ∷ entering 1 0 3 ∷ entering 1 1 1 ∷ entering 1 2 5
    ∷ entering 2 1 6 ∷ entering 2 2 2 ∷ []

abbrev pub marks : List ℕ
marks = 1 ∷ 1 ∷ 0 ∷ 1 ∷ 1 ∷ 0 ∷ 0 ∷ 0 ∷ 1 ∷ []

-- calls that are refused
abbrev pub refusals : List (Exchange ℤ)
refusals =
    refusing (Enter 3 0 (pos 1)) Block None
    ∷ refusing (Strike 0 2) Absent None
    ∷ record {
      act = Settle;
      handed = short_left;
      reply = turned_down (fault TableLength 0) None;
    }
    ∷ []

-- the sheet is settled, quoted and marked; the open sheet's calls are not to be had
abbrev pub settled_calls : List (Exchange ℤ)
settled_calls =
    giving Settle (with_prices first)
    ∷ giving (Quote 1 2) (pos 5, pos 2)
    ∷ declining (Enter 0 2 (pos 1))
    ∷ giving Total (pos 7)
    ∷ giving Marks marks
    ∷ []

-- a walk is carried to its end and closed
abbrev pub walk_calls : List (Exchange ℤ)
walk_calls =
    giving Start first
    ∷ giving Next (Some second)
    ∷ giving Next None
    ∷ giving Next None
    ∷ giving Close tt
    ∷ []

-- and the sheet is settled again without one of its pairs
abbrev pub calls_again : List (Exchange ℤ)
calls_again =
    giving Reopen tt
    ∷ giving (Strike 0 0) tt
    ∷ giving Settle (with_prices second)
    ∷ []

abbrev pub whole : List (Exchange ℤ)
whole = entries ++ (refusals ++ (settled_calls ++ (walk_calls ++ calls_again)))

-- ---- Readings: a greater one second and a greater one first, the same one twice, and a lesser one
-- once the greater was struck

abbrev pub reading_calls : List (Exchange ℤ)
reading_calls =
    entering 0 0 4 ∷ entering 0 0 7
    ∷ entering 0 1 7 ∷ entering 0 1 4
    ∷ entering 1 0 5 ∷ entering 1 0 5
    ∷ entering 1 1 7 ∷ giving (Strike 1 1) tt ∷ entering 1 1 4
    ∷ giving (Read 0 0) (pos 7)
    ∷ giving (Read 0 1) (pos 7)
    ∷ giving (Read 1 0) (pos 5)
    ∷ giving (Read 1 1) (pos 4)
    ∷ []

-- ---- Sheets without a perfect pairing: a settle is refused, and gives this crowd set and shortage

-- two blocks a plane, of which both left ones stand with right block 0 alone
abbrev pub crowded : (crowd short : ℕ) → List (Exchange ℤ)
crowded crowd short =
    on_blocks 2 (Enter 0 0 (pos 0)) (gives tt)
    ∷ on_blocks 2 (Enter 1 0 (pos 0)) (gives tt)
    ∷ on_blocks 2 Settle (turned_down (fault NoPerfectPairing 0)
    (Some (record { crowd = crowd; short = short })))
    ∷ []

-- one block a plane, and nothing stands
abbrev pub bare : (crowd short : ℕ) → List (Exchange ℤ)
bare crowd short =
    on_blocks 1 Settle (turned_down (fault NoPerfectPairing 0)
    (Some (record { crowd = crowd; short = short })))
    ∷ []

-- ---- What is shown

-- the book after the entries, and after a settle; and what was told since
abbrev pub full : Book ℤ
full = book_after whole_numbers 3 blank entries

abbrev pub settled_book : Book ℤ
settled_book = book_after whole_numbers 3 full (giving Settle (with_prices first) ∷ [])

abbrev pub since : Settling ℤ
since = settling_of whole_numbers 3 (grid_in whole_numbers 3 full) (with_prices first)

-- answers to calls on the settled sheet that are right
abbrev pub Right : List (Exchange ℤ) → Type 0
Right es = AllRight whole_numbers 3 settled_book since es

-- the sheet's prices, with each left price raised and each right one lowered by one: they are valid
-- too, and not the greatest
abbrev pub lower_prices : Settlement ℤ
lower_prices = record {
  partners = first;
  left = pos 5 ∷ pos 4 ∷ pos 3 ∷ [];
  right = negsuc 0 ∷ negsuc 2 ∷ negsuc 0 ∷ [];
}

pub record Shown : Type 0 where
  pub keeps : KeepsPromise whole_numbers 3 whole
  pub crowded_keeps : KeepsPromise whole_numbers 2 (crowded 3 1)
  pub bare_keeps : KeepsPromise whole_numbers 1 (bare 1 1)
  pub readings_keep : KeepsPromise whole_numbers 3 reading_calls
  -- what the calls told last of each table: the second settle, the marks, and the walk to its end
  pub tables : (lent : TableLists ℤ) → lists_after lent whole
      ≡ record lent {
        partners = second;
        left = (with_prices second).left;
        right = (with_prices second).right;
        walk = second;
        marks = marks;
      }
  -- a walk that repeats, one that skips, one that ends early, and one that goes on past its end
  pub repeats : Right (giving Start first ∷ giving Next (Some first) ∷ []) → ⊥
  pub skips : Right (giving Start second ∷ []) → ⊥
  pub ends_early : Right (giving Start first ∷ giving Next None ∷ []) → ⊥
  pub goes_on : Right
      (giving Start first ∷ giving Next (Some second) ∷ giving Next (Some second) ∷ []) → ⊥
  -- marks that are all yes, all no, or too few
  pub all_yes : Right (giving Marks (replicate 9 1) ∷ []) → ⊥
  pub all_no : Right (giving Marks (replicate 9 0) ∷ []) → ⊥
  pub too_few : Right (giving Marks (1 ∷ 1 ∷ 0 ∷ []) ∷ []) → ⊥
  -- an enter that stores nothing, as a read gives, and a read of another cost
  pub stores_nothing : KeepsPromise whole_numbers 3
      (entering 0 0 4 ∷ refusing (Read 0 0) Absent None ∷ []) → ⊥
  pub wrong_read : KeepsPromise whole_numbers 3
      (entering 0 0 4 ∷ giving (Read 0 0) (pos 5) ∷ []) → ⊥
  -- a later reading that replaces a greater one, the lesser of two that is kept, and a strike that
  -- leaves the old reading in force
  pub later_replaces : KeepsPromise whole_numbers 3
      (entering 0 0 7 ∷ entering 0 0 4 ∷ giving (Read 0 0) (pos 4) ∷ []) → ⊥
  pub lesser_kept : KeepsPromise whole_numbers 3
      (entering 0 0 4 ∷ entering 0 0 7 ∷ giving (Read 0 0) (pos 4) ∷ []) → ⊥
  pub struck_in_force : KeepsPromise whole_numbers 3 (entering 0 0 7 ∷ giving (Strike 0 0) tt
      ∷ entering 0 0 4 ∷ giving (Read 0 0) (pos 7) ∷ []) → ⊥
  -- an accepted strike of an absent pair
  pub strikes_nothing : KeepsPromise whole_numbers 3 (giving (Strike 0 0) tt ∷ []) → ⊥
  -- the refusal of a block before that of a length, and a table of another length that is taken
  pub block_first : KeepsPromise whole_numbers 3 (record {
    act = Enter 3 0 (pos 1);
    handed = short_standing;
    reply = turned_down (fault Block 0) None;
  } ∷ []) → ⊥
  pub short_taken : Right (record { act = Total; handed = short_left; reply = gives (pos 7) }
      ∷ []) → ⊥
  -- a settle that refuses what can be paired; one that writes the second pairing, no prices, or
  -- prices that are valid and not the greatest
  pub refuses_all : AllRight whole_numbers 3 full since
      (refusing Settle NoPerfectPairing (Some (record { crowd = 7; short = 3 })) ∷ []) → ⊥
  pub not_first : AllRight whole_numbers 3 full since (giving Settle (with_prices second) ∷ []) → ⊥
  pub no_prices : AllRight whole_numbers 3 full since
      (giving Settle (record { partners = first; left = []; right = [] }) ∷ []) → ⊥
  pub not_greatest : AllRight whole_numbers 3 full since (giving Settle lower_prices ∷ []) → ⊥
  -- a crowd set that is made up, a shortage that is, and none at all
  pub crowd_made_up : KeepsPromise whole_numbers 2 (crowded 1 1) → ⊥
  pub short_made_up : KeepsPromise whole_numbers 2 (crowded 3 2) → ⊥
  pub unexplained : KeepsPromise whole_numbers 1
      (on_blocks 1 Settle (turned_down (fault NoPerfectPairing 0) None) ∷ []) → ⊥
  -- a quote by other prices, another total, and a refusal for tables that do not hold together
  pub other_prices : Right (giving (Quote 1 2) (pos 5, pos 3) ∷ []) → ⊥
  pub wrong_total : Right (giving Total (pos 8) ∷ []) → ⊥
  pub seven : Right (refusing Total Inconsistent None ∷ []) → ⊥
