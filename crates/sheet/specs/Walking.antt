-- What the calls on a settled sheet and on a walk answer, and what they leave in the tables, at
-- every input.
use Rattle.std.specs.Prelude.{◌≡◌, ℕ, true, List, length, None, Some, Result, MatchResult}
use Rattle.cost.specs.declared.Cost.{Ghosts}
use Rattle.cost.specs.Columns.{plus, minus}
use Rattle.pairing.specs.Grid.{IsOptimum}
use Rattle.pairing.specs.Optima.{optima}
use Rattle.pairing.specs.Places.{places_of}
use Rattle.tables.specs.PairTables.{byte_of, says_stands, cell}
use Rattle.tables.specs.Lent.{Lent, grid, left_price, right_price, HasLengths}
use Rattle.tables.specs.Together.{HoldTogether}
use Rattle.matching.specs.Answers.{IsNth, Follows, AreMarksOf}
use Rattle.matching.specs.declared.stepping.Step.{Step}
use Rattle.sheet.specs.declared.fault.Cause.TheVariants.{TableLength, Block, Absent, Inconsistent}
use Rattle.sheet.specs.declared.fault.Refusal.{Refusal}
use Rattle.sheet.specs.Needs.{Needs, need, nothing, AreMet, IsFirstUnmet}
use Rattle.sheet.specs.Pairs.{AreBlocks}
use Rattle.sheet.specs.Size.{Sheet}

module _ {K : Type 0} (kind : Ghosts K) (t : Lent K) where
  -- ---- Quote and total

  -- tables of the right lengths that hold together, and a pair of blocks that stands
  abbrev pub quote_needs : ℕ → ℕ → Needs
  quote_needs l r = need (HasLengths t) TableLength (need (HoldTogether kind t) Inconsistent
      (need (AreBlocks t.size l r) Block
      (need (says_stands (byte_of t.size t.standing l r) ≡ true) Absent nothing)))

  -- the pair's cost, and what it exceeds the pair's two prices by, column by column
  pub record IsQuote (l r : ℕ) (quote : K × K) : Type 0 where
    pub cost : cell kind.zero t.size t.costs t.standing l r ≡ Some quote.0
    pub slack : kind.meaning quote.1
        ≡ minus (kind.meaning quote.0) (plus (left_price kind t l) (right_price kind t r))

  abbrev pub total_needs : Needs
  total_needs = need (HasLengths t) TableLength (need (HoldTogether kind t) Inconsistent nothing)

  -- ---- Marks

  abbrev pub marks_needs : (places : ℕ) → Needs
  marks_needs places = need (HasLengths t × (places ≡ places_of t.size)) TableLength
      (need (HoldTogether kind t) Inconsistent nothing)

  -- 1 for each pair that some optimum pairing has, and 0 for every other
  pub record AreMarks (table : List ℕ) : Type 0 where
    pub long : length table ≡ places_of t.size
    pub marks : AreMarksOf t.size (optima (grid kind t)) table

  -- ---- Start and next

  abbrev pub start_needs : (places : ℕ) → Needs
  start_needs places = need (HasLengths t × (places ≡ t.size)) TableLength
      (need (HoldTogether kind t) Inconsistent nothing)

  -- the settled sheet became a walk of the same size, and the list is the first of all optimum
  -- pairings: it has a place for each left block, and a step of the walk accepts it
  pub record IsStarted (sheet walk : Sheet) (list list' : List ℕ) : Type 0 where
    pub same : walk ≡ sheet
    pub met : AreMet (start_needs (length list))
    pub optimum : IsOptimum (grid kind t) list'
    pub first : IsNth (optima (grid kind t)) 0 list'

  -- the settled sheet came back, and the list is as it was
  pub record IsUnstarted (sheet : Sheet) (refusal : Refusal Sheet) (list list' : List ℕ)
      : Type 0 where
    pub same : refusal.state ≡ sheet
    pub unmet : IsFirstUnmet (start_needs (length list)) refusal.fault
    pub unexplained : refusal.shortfall ≡ None
    pub kept : list' ≡ list

  abbrev pub Starts : (sheet : Sheet) (list list' : List ℕ) → Result Sheet (Refusal Sheet) → Type 0
  Starts sheet list list' answer = MatchResult answer (λ walk. IsStarted sheet walk list list')
      (λ refusal. IsUnstarted sheet refusal list list')

  -- tables that hold together, and an optimum pairing in the list
  abbrev pub next_needs : List ℕ → Needs
  next_needs list = need (HasLengths t × (length list ≡ t.size)) TableLength
      (need (HoldTogether kind t × IsOptimum (grid kind t) list) Inconsistent nothing)

  -- the list is the optimum pairing that comes next in dictionary order; at the last one the step
  -- is the end, and the list stays. It has a place for each left block, and the next step accepts
  -- it
  pub record IsStep (list list' : List ℕ) (step : Step) : Type 0 where
    pub optimum : IsOptimum (grid kind t) list'
    pub follows : Follows (optima (grid kind t)) list list' step
