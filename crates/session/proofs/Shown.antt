-- Whole lists of calls keep the promise, and some answers do not.
-- Idea: each verdict, walk and mark is computed from its definition; the greatest prices are shown
-- by a test that passes, and crowd sets as the worked grids of the mathematics have them.
use Rattle.std.proofs.Common.{◌≡◌, ◌≢◌, ℕ, zero, suc, ◌<◌, true, false, List, [], ◌∷◌, ◌++◌, length}
use Rattle.std.proofs.Common.{ℤ, pos, negsuc, Option, Some, None, cond, refl, sym, ◌∙◌, ap}
use Rattle.std.proofs.Common.{Contains, arith}
use Rattle.std.proofs.lemmas.Bool.{false≢true}
use Rattle.cost.specs.Columns.{AreWithin}
use Rattle.cost.specs.declared.Cost.{Ghosts}
use Rattle.cost.specs.declared.free_kind.Free.{Free}
use Rattle.blockset.specs.Sets.{members, bit}
use Rattle.pairing.specs.Examples.{crowded_grid, bare_grid}
use Rattle.pairing.specs.Grid.{Grid, IsPerfectIn, at, IsUpto}
use Rattle.pairing.specs.Inside.{AreAlike}
use Rattle.pairing.specs.Largest.{HasNoPerfect}
use Rattle.pairing.specs.Optima.{optima, has_pair}
use Rattle.pairing.specs.Places.{place_of}
use Rattle.pairing.proofs.Alike.{unpaired_like}
use Rattle.pairing.proofs.Listing.{optima_are}
use Rattle.pairing.proofs.Shown.{crowded as crowded_is, bare as bare_is}
use Rattle.pairing.proofs.Tests.{sane_is, greatest_is}
use Rattle.matching.specs.Answers.{AreMarksOf}
use Rattle.tables.specs.Said.{columns_at, AreValuesWithin}
use Rattle.sheet.specs.declared.fault.Cause.{Cause}
use Rattle.sheet.specs.declared.fault.Cause.TheVariants.{NoPerfectPairing, Inconsistent}
use Rattle.sheet.specs.declared.fault.Cause.TheVariants.{TableLength, Block, Absent}
use Rattle.sheet.specs.declared.fault.Fault.{Fault}
use Rattle.sheet.specs.Refusals.{fault}
use Rattle.session.specs.Book.{Book, blank, verdict, step, grid_in, with_cell, stands_in}
use Rattle.session.specs.Example.{whole_numbers, first, second, with_prices, entries, marks}
use Rattle.session.specs.Example.{refusals, settled_calls, walk_calls, calls_again, full, since}
use Rattle.session.specs.Example.{settled_book, whole, reading_calls, crowded, bare}
use Rattle.session.specs.Example.{lower_prices}
use Rattle.session.specs.Exchange.{Exchange, call_of, verdict_of}
use Rattle.session.specs.Promise.{HandsOut, AgreesWith, IsSettlement, IsMarked, IsRefusal}
use Rattle.session.specs.Promise.{HasRightWalks, has_ended, IsReply, IsRight, KeepsPromise}
use Rattle.session.specs.Promise.{AllRight, Settling, fresh, settling_by, settling_of, book_after}
use Rattle.session.proofs.Theorem.{settling_after}

-- what is in the list is perfect
perfect : (g : Grid) (p : List ℕ) → Contains (optima g) p → IsPerfectIn g p
perfect g p i = (((optima_are g).list.are p).0 i).perfect

-- what holds of the numbers below three
pub below_three : (P : ℕ → Type 0) → P 0 → P 1 → P 2 → (k : ℕ) → k < 3 → P k
below_three P a b c zero h = a
below_three P a b c (suc zero) h = b
below_three P a b c (suc (suc zero)) h = c
below_three P a b c (suc (suc (suc k))) h = absurd (omega (arith, h))

below_two : (P : ℕ → Type 0) → P 0 → P 1 → (k : ℕ) → k < 2 → P k
below_two P a b zero h = a
below_two P a b (suc zero) h = b
below_two P a b (suc (suc k)) h = absurd (omega (arith, h))

-- one call that is right
pub is_right : {n : ℕ} {b : Book ℤ} {s : Settling ℤ} {e : Exchange ℤ}
    → verdict_of e.reply ≡ verdict whole_numbers n b (call_of e)
    → IsReply whole_numbers n b s e.act e.reply
    → HasRightWalks whole_numbers n (settling_by whole_numbers n b s e.act e.reply)
    → IsRight whole_numbers n b s e
is_right verdict reply walks =
    record { verdict_is = verdict; reply_is = reply; walks_are = walks }

-- and calls after it
also : {One More : Type 0} → One → More → One × More
also one more = (one, more)

-- ---- Refusals that are not for want of a perfect pairing

refusal : (b : Book ℤ) (cause : Cause) → cause ≢ NoPerfectPairing → cause ≢ Inconsistent
    → IsRefusal whole_numbers 3 b (fault cause 0) None
refusal b cause six seven = record {
  explained = λ e. six (ap (λ (f : Fault). f.cause) e);
  never_seven = seven;
}

too_short : IsRefusal whole_numbers 3 full (fault TableLength 0) None
too_short = refusal full TableLength (λ e. cc) (λ e. cc)

-- ---- What the two settles wrote

near : (table : List ℤ) → AreWithin 1000000000000 (columns_at whole_numbers table 0)
    → AreWithin 1000000000000 (columns_at whole_numbers table 1)
    → AreWithin 1000000000000 (columns_at whole_numbers table 2)
    → AreValuesWithin whole_numbers 1000000000000 3 table
near table a b c = below_three (λ k. AreWithin 1000000000000 (columns_at whole_numbers table k)) a
    b c

left_near : AreValuesWithin whole_numbers 1000000000000 3 (with_prices first).left
left_near = near (with_prices first).left (omega arith, tt) (omega arith, tt) (omega arith, tt)

right_near : AreValuesWithin whole_numbers 1000000000000 3 (with_prices first).right
right_near = near (with_prices first).right (omega arith, tt) (omega arith, tt) (omega arith, tt)

abbrev grid : Grid
grid = grid_in whole_numbers 3 full

-- the same without the pair of the blocks 0
abbrev struck_grid : Grid
struck_grid = grid_in whole_numbers 3 (record full { cells = with_cell full.cells 0 0 None })

settled_first : IsSettlement whole_numbers 3 grid (with_prices first)
settled_first = record {
  first = (omega (arith, ap length (let e : optima grid ≡ first ∷ second ∷ [] = refl in e)), refl);
  partners_long = refl;
  greatest = greatest_is grid _ _ _ (0 ∷ 1 ∷ 0 ∷ []) (sane_is grid refl)
      (perfect grid first (0, omega arith, refl)) refl;
  left_long = refl;
  right_long = refl;
  left_near = left_near;
  right_near = right_near;
}

settled_second : IsSettlement whole_numbers 3 struck_grid (with_prices second)
settled_second = record {
  first = (omega (arith, ap length (let e : optima struck_grid ≡ second ∷ [] = refl in e)), refl);
  partners_long = refl;
  greatest = greatest_is struck_grid _ _ _ (0 ∷ 1 ∷ 0 ∷ []) (sane_is struck_grid refl)
      (perfect struck_grid second (0, omega arith, refl)) refl;
  left_long = refl;
  right_long = refl;
  left_near = left_near;
  right_near = right_near;
}

-- ---- Marks and walks

marked : AreMarksOf 3 (first ∷ second ∷ []) marks
marked l r i j = below_three
    (λ l. at marks (place_of 3 l r) ≡ cond (has_pair l r (first ∷ second ∷ [])) 1 0)
    (below_three (λ r. at marks (place_of 3 0 r) ≡ cond (has_pair 0 r (first ∷ second ∷ [])) 1 0)
    refl refl refl r j)
    (below_three (λ r. at marks (place_of 3 1 r) ≡ cond (has_pair 1 r (first ∷ second ∷ [])) 1 0)
    refl refl refl r j)
    (below_three (λ r. at marks (place_of 3 2 r) ≡ cond (has_pair 2 r (first ∷ second ∷ [])) 1 0)
    refl refl refl r j) l i

marked_is : IsMarked whole_numbers 3 grid marks
marked_is = record { long = refl; marks = marked }

-- a walk that was not carried to its end agrees with any marks
unended : (walk : List (Option (List ℕ))) → has_ended walk ≡ false → AgreesWith 3 marks walk
unended walk e k = absurd (false≢true (sym e ∙ k))

-- what was told when the walk began, and when it was closed
abbrev told_settled : Settling ℤ
told_settled = record since { marks = marks ∷ [] }

abbrev told_walked : Settling ℤ
told_walked = record told_settled {
  walk = Some first ∷ Some second ∷ None ∷ None ∷ [];
  earlier = [] ∷ [];
}

-- ---- What was told is right as a whole, at each point of the list

sound_fresh : HasRightWalks whole_numbers 3 (fresh whole_numbers 3)
sound_fresh = record { walks = (refl, tt); agree = tt }

no_walks : {n : ℕ} → HasRightWalks whole_numbers n (fresh whole_numbers n)
no_walks = record { walks = (refl, tt); agree = tt }

sound_since : HasRightWalks whole_numbers 3 since
sound_since = record { walks = (refl, tt); agree = tt }

sound_marked : HasRightWalks whole_numbers 3 told_settled
sound_marked = record { walks = (refl, tt); agree = ((unended [] refl, tt), tt) }

-- on a walk that handed out so much
abbrev on_walk : List (Option (List ℕ)) → Settling ℤ
on_walk walk = record told_settled { walk = walk; earlier = [] ∷ [] }

sound_on : (walk : List (Option (List ℕ))) → HandsOut (first ∷ second ∷ []) walk
    → AgreesWith 3 marks walk → HasRightWalks whole_numbers 3 (on_walk walk)
sound_on walk out agrees = record {
  walks = (out, (refl, tt));
  agree = ((agrees, (unended [] refl, tt)), tt);
}

sound_walked : HasRightWalks whole_numbers 3 told_walked
sound_walked = sound_on (Some first ∷ Some second ∷ None ∷ None ∷ []) refl (λ _. marked)

sound_again : HasRightWalks whole_numbers 3
    (settling_of whole_numbers 3 struck_grid (with_prices second))
sound_again = record { walks = (refl, tt); agree = tt }

-- ---- The list, part by part

entries_right : AllRight whole_numbers 3 blank (fresh whole_numbers 3) entries
entries_right =
    also (is_right refl tt sound_fresh)
    (also (is_right refl tt sound_fresh)
    (also (is_right refl tt sound_fresh)
    (also (is_right refl tt sound_fresh)
    (also (is_right refl tt sound_fresh)
    (also (is_right refl tt sound_fresh)
    (also (is_right refl tt sound_fresh) tt))))))

refusals_right : AllRight whole_numbers 3 full (fresh whole_numbers 3) refusals
refusals_right =
    also (is_right refl (refusal _ Block (λ e. cc) (λ e. cc)) sound_fresh)
    (also (is_right refl (refusal _ Absent (λ e. cc) (λ e. cc)) sound_fresh)
    (also (is_right refl too_short sound_fresh) tt))

settled_right : AllRight whole_numbers 3 full (fresh whole_numbers 3) settled_calls
settled_right =
    also (is_right refl settled_first sound_since)
    (also (is_right refl (record { cost = refl; slack = refl }) sound_since)
    (also (is_right refl tt sound_since)
    (also (is_right refl refl sound_since)
    (also (is_right refl marked_is sound_marked) tt))))

walk_right : AllRight whole_numbers 3 settled_book told_settled walk_calls
walk_right =
    also (is_right refl tt
    (sound_on (Some first ∷ []) refl (unended (Some first ∷ []) refl)))
    (also (is_right refl tt (sound_on (Some first ∷ Some second ∷ []) refl
    (unended (Some first ∷ Some second ∷ []) refl)))
    (also (is_right refl tt
    (sound_on (Some first ∷ Some second ∷ None ∷ []) refl (λ _. marked)))
    (also (is_right refl tt sound_walked)
    (also (is_right refl tt sound_walked) tt))))

again_right : AllRight whole_numbers 3 settled_book told_walked calls_again
again_right =
    also (is_right refl tt sound_walked)
    (also (is_right refl tt sound_walked)
    (also (is_right refl settled_second sound_again) tt))

joined : (b : Book ℤ) (s : Settling ℤ) (es ds : List (Exchange ℤ))
    → AllRight whole_numbers 3 b s es
    → AllRight whole_numbers 3 (book_after whole_numbers 3 b es)
    (settling_after whole_numbers 3 b s es) ds
    → AllRight whole_numbers 3 b s (es ++ ds)
joined b s [] ds h i = i
joined b s (e ∷ es) ds h i = (
  h.0,
  joined (step whole_numbers 3 b (call_of e))
      (settling_by whole_numbers 3 b s e.act e.reply) es ds h.1 i,
)

pub keeps : KeepsPromise whole_numbers 3 whole
keeps =
    joined blank (fresh whole_numbers 3) entries
    (refusals ++ (settled_calls ++ (walk_calls ++ calls_again))) entries_right
    (joined full (fresh whole_numbers 3) refusals
    (settled_calls ++ (walk_calls ++ calls_again)) refusals_right
    (joined full (fresh whole_numbers 3) settled_calls (walk_calls ++ calls_again) settled_right
    (joined settled_book told_settled walk_calls calls_again walk_right again_right)))

-- ---- Readings

pub readings_keep : KeepsPromise whole_numbers 3 reading_calls
readings_keep =
    also (is_right refl tt sound_fresh) (also (is_right refl tt sound_fresh)
    (also (is_right refl tt sound_fresh) (also (is_right refl tt sound_fresh)
    (also (is_right refl tt sound_fresh) (also (is_right refl tt sound_fresh)
    (also (is_right refl tt sound_fresh) (also (is_right refl tt sound_fresh)
    (also (is_right refl tt sound_fresh)
    (also (is_right refl refl sound_fresh) (also (is_right refl refl sound_fresh)
    (also (is_right refl refl sound_fresh) (also (is_right refl refl sound_fresh) tt))))))))))))

-- ---- Sheets without a perfect pairing

-- what is told of a settle that is refused for want of a perfect pairing
explained : (n : ℕ) (b : Book ℤ) (crowd short : ℕ) → HasNoPerfect n (stands_in b.cells) crowd short
    → IsRefusal whole_numbers n b (fault NoPerfectPairing 0)
    (Some (record { crowd = crowd; short = short }))
explained n b crowd short is = record { explained = (refl, is); never_seven = λ e. cc }

-- the worked grids without a perfect pairing are tables of the free kind
abbrev costless : Ghosts Free
costless = record { columns = 0; meaning = λ _. []; zero = record {} }

-- the book of the crowded sheet
abbrev crowded_book : Book ℤ
crowded_book = record blank {
  cells = with_cell (with_cell (λ l r. None) 0 0 (Some (pos 0))) 1 0 (Some (pos 0));
}

crowded_alike : AreAlike 2 (crowded_grid costless).stands (stands_in crowded_book.cells)
crowded_alike l r i j = below_two
    (λ l. (crowded_grid costless).stands l r ≡ stands_in crowded_book.cells l r)
    (below_two (λ r. (crowded_grid costless).stands 0 r ≡ stands_in crowded_book.cells 0 r)
    refl refl r j)
    (below_two (λ r. (crowded_grid costless).stands 1 r ≡ stands_in crowded_book.cells 1 r)
    refl refl r j) l i

pub crowded_unpaired : HasNoPerfect 2 (stands_in crowded_book.cells) 3 1
crowded_unpaired =
    unpaired_like 2 (crowded_grid costless).stands (stands_in crowded_book.cells) crowded_alike 3 1
    (crowded_is costless)

pub crowded_keeps : KeepsPromise whole_numbers 2 (crowded 3 1)
crowded_keeps =
    also (is_right refl tt no_walks)
    (also (is_right refl tt no_walks)
    (also (is_right refl (explained 2 crowded_book 3 1 crowded_unpaired) no_walks) tt))

bare_alike : AreAlike 1 (bare_grid costless).stands (stands_in {K = ℤ} (λ l r. None))
bare_alike zero zero i j = refl
bare_alike (suc l) r i j = absurd (omega (arith, i))
bare_alike zero (suc r) i j = absurd (omega (arith, j))

pub bare_keeps : KeepsPromise whole_numbers 1 (bare 1 1)
bare_keeps =
    also (is_right refl (explained 1 blank 1 1 (unpaired_like 1 (bare_grid costless).stands
    (stands_in {K = ℤ} (λ l r. None)) bare_alike 1 1 (bare_is costless))) no_walks) tt

-- a crowd set without left block 1 is made up, and so is a shortage of 2
pub not_one : HasNoPerfect 2 (stands_in crowded_book.cells) 1 1 → ⊥
unfolding bit
not_one is =
    let e : bit 1 1 ≡ true = (is.crowd_set 1).1 ((crowded_unpaired.crowd_set 1).0 refl) in
    false≢true e

pub not_two : HasNoPerfect 2 (stands_in crowded_book.cells) 3 2 → ⊥
unfolding bit members
not_two is = omega (arith, sym crowded_unpaired.shortage_is ∙ is.shortage_is)

-- ---- Prices that are not the greatest

pub not_greatest : IsSettlement whole_numbers 3 grid lower_prices → ⊥
not_greatest is =
    let over : IsUpto (pos 0 ∷ []) (negsuc 0 ∷ []) = is.greatest.most _ _
    settled_first.greatest.valid settled_first.greatest.low 0 (omega arith) in
    over refl
