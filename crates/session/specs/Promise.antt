-- What every list of calls on a sheet of n blocks a plane is promised, in terms of the calls and
-- their answers alone.
use Rattle.std.specs.Prelude.{◌≡◌, ◌≢◌, ℕ, Bool, true, false, List, [], ◌∷◌, ◌++◌, length, take}
use Rattle.std.specs.Prelude.{map, replicate, Some, None, Option, MatchOption, slice_index_or}
use Rattle.std.specs.List.{AllByRecursion}
use Rattle.cost.specs.declared.Cost.{Ghosts}
use Rattle.cost.specs.declared.TheConstants.{PRICE_LIMIT}
use Rattle.cost.specs.Columns.{plus, minus}
use Rattle.pairing.specs.Grid.{Grid, total}
use Rattle.pairing.specs.Largest.{HasNoPerfect}
use Rattle.pairing.specs.Optima.{optima}
use Rattle.pairing.specs.Places.{places_of, rights_of}
use Rattle.pairing.specs.Prices.{AreGreatest}
use Rattle.matching.specs.Answers.{IsNth, AreMarksOf}
use Rattle.matching.specs.declared.augmenting.Shortfall.{Shortfall}
use Rattle.tables.specs.Said.{columns_at, AreValuesWithin}
use Rattle.sheet.specs.declared.fault.Cause.TheVariants.{NoPerfectPairing, Inconsistent}
use Rattle.sheet.specs.declared.fault.Fault.{Fault}
use Rattle.sheet.specs.Refusals.{fault}
use Rattle.session.specs.declared.call.Act.{Act}
use Rattle.session.specs.declared.call.Act.TheVariants.{Enter, Strike, Read, Settle, Quote, Total}
use Rattle.session.specs.declared.call.Act.TheVariants.{Marks, Start, Next, Close, Reopen}
use Rattle.session.specs.Book.{Book, blank, stands_in, verdict, step, grid_in}
use Rattle.session.specs.Exchange.{Settlement, ValueOf, Reply, not_made, turned_down, gives}
use Rattle.session.specs.Exchange.{Exchange, call_of, verdict_of}

-- ---- Walks: what a walk handed out so far, in order: a pairing, or nothing where it answered
-- `End`

-- it is the beginning of: the pairings of the list in turn, and then `End` for ever
abbrev pub HandsOut : List (List ℕ) → List (Option (List ℕ)) → Type 0
HandsOut pairings walk =
    walk ≡ take (length walk) (map Some pairings ++ replicate (length walk) None)

-- it was carried to its end
abbrev pub has_ended : List (Option (List ℕ)) → Bool
has_ended [] = false
has_ended (None ∷ walk) = true
has_ended (Some p ∷ walk) = has_ended walk

-- the pairings that it handed out
abbrev pub pairings_of : List (Option (List ℕ)) → List (List ℕ)
pairings_of [] = []
pairings_of (None ∷ walk) = pairings_of walk
pairings_of (Some p ∷ walk) = p ∷ pairings_of walk

-- a walk that was carried to its end has handed out a pairing with a pair exactly if the marks say
-- yes to it
abbrev pub AgreesWith : ℕ → List ℕ → List (Option (List ℕ)) → Type 0
AgreesWith n table walk = has_ended walk ≡ true → AreMarksOf n (pairings_of walk) table

-- ---- Settlings

-- What was told since an accepted settle: the grid that was settled, the partners and prices that
-- were written, each table of marks, what the latest walk handed out, and what each earlier walk
-- did. Before the first settle, and before the first start, nothing was told.
pub record Settling (K : Type 0) : Type 0 where
  pub grid : Grid
  pub settlement : Settlement K
  pub marks : List (List ℕ)
  pub walk : List (Option (List ℕ))
  pub earlier : List (List (Option (List ℕ)))

module _ {K : Type 0} (kind : Ghosts K) (n : ℕ) where
  abbrev pub settling_of : Grid → Settlement K → Settling K
  settling_of grid w = record { grid = grid; settlement = w; marks = []; walk = []; earlier = [] }

  abbrev pub fresh : Settling K
  fresh = settling_of (grid_in kind n blank) (record { partners = []; left = []; right = [] })

  -- what an accepted call adds
  abbrev pub settling_with : Book K → Settling K → (act : Act K) → ValueOf K act → Settling K
  settling_with b s (Enter l r c) x = s
  settling_with b s (Strike l r) x = s
  settling_with b s (Read l r) x = s
  settling_with b s Settle x = settling_of (grid_in kind n b) x
  settling_with b s (Quote l r) x = s
  settling_with b s Total x = s
  settling_with b s Marks x = record s { marks = x ∷ s.marks }
  settling_with b s Start x = record s { walk = Some x ∷ []; earlier = s.walk ∷ s.earlier }
  settling_with b s Next x = record s { walk = s.walk ++ x ∷ [] }
  settling_with b s Close x = s
  settling_with b s Reopen x = s

  abbrev pub settling_by : Book K → Settling K → (act : Act K) → Reply (ValueOf K act) → Settling K
  settling_by b s act not_made = s
  settling_by b s act (turned_down f shortfall) = s
  settling_by b s act (gives x) = settling_with b s act x

  -- ---- A single answer

  -- the partners are the first of all optimum pairings of the grid; the prices are the greatest
  -- valid ones with no right price above zero, one for each block, within 10^12 in each column
  pub record IsSettlement (g : Grid) (w : Settlement K) : Type 0 where
    pub first : IsNth (optima g) 0 w.partners
    pub partners_long : length w.partners ≡ n
    pub greatest : AreGreatest g (columns_at kind w.left) (columns_at kind w.right) w.partners
    pub left_long : length w.left ≡ n
    pub right_long : length w.right ≡ rights_of n
    pub left_near : AreValuesWithin kind PRICE_LIMIT n w.left
    pub right_near : AreValuesWithin kind PRICE_LIMIT (rights_of n) w.right

  -- the pair's cost, and what it exceeds the two prices by that the settle wrote
  pub record IsQuoted (cell : Option K) (w : Settlement K) (l r : ℕ) (quote : K × K) : Type 0 where
    pub cost : cell ≡ Some quote.0
    pub slack : kind.meaning quote.1
        ≡ minus (kind.meaning quote.0) (plus (columns_at kind w.left l) (columns_at kind w.right r))

  -- 1 for each pair that some optimum pairing has, and 0 for every other
  pub record IsMarked (g : Grid) (table : List ℕ) : Type 0 where
    pub long : length table ≡ places_of n
    pub marks : AreMarksOf n (optima g) table

  -- what an accepted call gives is true of the book's pairs and costs. What start and next tell is
  -- said of the walk as a whole
  abbrev pub IsValue : Book K → Settling K → (act : Act K) → ValueOf K act → Type 0
  IsValue b s (Enter l r c) x = Unit {0}
  IsValue b s (Strike l r) x = Unit {0}
  IsValue b s (Read l r) x = b.cells l r ≡ Some x
  IsValue b s Settle x = IsSettlement (grid_in kind n b) x
  IsValue b s (Quote l r) x = IsQuoted (b.cells l r) s.settlement l r x
  IsValue b s Total x = kind.meaning x
      ≡ total (grid_in kind n b) (slice_index_or (optima (grid_in kind n b)) 0 [])
  IsValue b s Marks x = IsMarked (grid_in kind n b) x
  IsValue b s Start x = Unit {0}
  IsValue b s Next x = Unit {0}
  IsValue b s Close x = Unit {0}
  IsValue b s Reopen x = Unit {0}

  -- a refusal is for want of a perfect pairing exactly if the crowd set and its shortage come
  -- along, and these are those of the book's pairs. It is never because the tables do not hold
  -- together
  pub record IsRefusal (b : Book K) (f : Fault) (shortfall : Option Shortfall) : Type 0 where
    pub explained : MatchOption shortfall (f ≢ fault NoPerfectPairing 0)
        (λ s. (f ≡ fault NoPerfectPairing 0) × HasNoPerfect n (stands_in b.cells) s.crowd s.short)
    pub never_seven : f.cause ≢ Inconsistent

  abbrev pub IsReply : Book K → Settling K → (act : Act K) → Reply (ValueOf K act) → Type 0
  IsReply b s act not_made = Unit {0}
  IsReply b s act (turned_down f shortfall) = IsRefusal b f shortfall
  IsReply b s act (gives x) = IsValue b s act x

  -- ---- The promise

  -- what was told since a settle is right as a whole
  pub record HasRightWalks (s : Settling K) : Type 0 where
    -- each walk hands out the optimum pairings in turn, none left out and none twice, and `End`
    -- exactly from when none is left
    pub walks : AllByRecursion (HandsOut (optima s.grid)) (s.walk ∷ s.earlier)
    -- the marks say yes exactly of the pairs that each walk hands out that is carried to its end
    pub agree : AllByRecursion
        (λ table. AllByRecursion (AgreesWith n table) (s.walk ∷ s.earlier)) s.marks

  -- one call, by the book and by what was told before it
  pub record IsRight (b : Book K) (s : Settling K) (e : Exchange K) : Type 0 where
    -- what the state does not have, what is refused and by which number, is what the book says
    pub verdict_is : verdict_of e.reply ≡ verdict kind n b (call_of e)
    pub reply_is : IsReply b s e.act e.reply
    pub walks_are : HasRightWalks (settling_by b s e.act e.reply)

  -- each call of a list, from a book and what was told before on
  abbrev pub AllRight : Book K → Settling K → List (Exchange K) → Type 0
  AllRight b s [] = Unit {0}
  AllRight b s (e ∷ es) = IsRight b s e
      × AllRight (step kind n b (call_of e)) (settling_by b s e.act e.reply) es

  -- THE PROMISE, of the calls on a sheet that was just opened
  abbrev pub KeepsPromise : List (Exchange K) → Type 0
  KeepsPromise es = AllRight blank fresh es

  -- the book after such calls
  abbrev pub book_after : Book K → List (Exchange K) → Book K
  book_after b [] = b
  book_after b (e ∷ es) = book_after (step kind n b (call_of e)) es
