-- The cost of a pair, told from the calls and their answers alone: the worst of the readings that
-- were accepted since the pair was last struck, or since the sheet was opened where it never was.
use Rattle.std.specs.Prelude.{◌≡◌, ℕ, ◌⊎◌, List, [], ◌∷◌, ◌++◌, Some, None, Option, Contains}
use Rattle.std.specs.List.{AllByRecursion}
use Rattle.cost.specs.declared.Cost.{Ghosts}
use Rattle.pairing.specs.Grid.{IsUpto}
use Rattle.session.specs.declared.call.Act.TheVariants.{Enter, Strike}
use Rattle.session.specs.Book.{accepted, blank}
use Rattle.session.specs.Exchange.{Exchange, verdict_of}
use Rattle.session.specs.Promise.{book_after}

module _ {K : Type 0} (l r : ℕ) where
  -- the call entered this reading of the pair of l and r, and was accepted
  abbrev pub IsReading : K → Exchange K → Type 0
  IsReading reading e = (e.act ≡ Enter l r reading) × (verdict_of e.reply ≡ accepted)

  -- the call struck the pair, and was accepted
  abbrev pub IsStrike : Exchange K → Type 0
  IsStrike e = (e.act ≡ Strike l r) × (verdict_of e.reply ≡ accepted)

  -- the last of these calls struck the pair
  abbrev pub EndsStriking : List (Exchange K) → Type 0
  EndsStriking es = (earlier : List (Exchange K)) × (strike : Exchange K)
      × (es ≡ earlier ++ strike ∷ []) × IsStrike strike

  -- the calls of a list since the pair was last struck: all of them, where it never was
  pub record AreSinceStruck (es since : List (Exchange K)) : Type 0 where
    pub before : List (Exchange K)
    pub splits : es ≡ before ++ since
    pub begins : (before ≡ []) ⊎ EndsStriking before
    pub unstruck : AllByRecursion (λ e. IsStrike e → ⊥) since

  module _ (kind : Ghosts K) where
    -- the pair is absent exactly if none of these calls is a reading of it; else its cost is one of
    -- the readings, and each of them compares as at most it
    abbrev pub IsWorstOf : List (Exchange K) → Option K → Type 0
    IsWorstOf es None = (e : Exchange K) (reading : K) → Contains es e → IsReading reading e → ⊥
    IsWorstOf es (Some cost) = ((e : Exchange K) × Contains es e × IsReading cost e)
        × ((e : Exchange K) (reading : K) → Contains es e → IsReading reading e
        → IsUpto (kind.meaning reading) (kind.meaning cost))

    -- so it is of the calls since it was last struck
    pub record IsWorstReading (es : List (Exchange K)) (cell : Option K) : Type 0 where
      pub since : List (Exchange K)
      pub are_since : AreSinceStruck es since
      pub worst : IsWorstOf since cell

-- THE WORST READING STANDS: after each call of a list, each pair's cell in the book is the worst of
-- its readings
abbrev pub WorstReadingsStand : {K : Type 0} → Ghosts K → ℕ → List (Exchange K) → Type 0
WorstReadingsStand {K} kind n es = (done todo : List (Exchange K)) → es ≡ done ++ todo → (l r : ℕ)
    → IsWorstReading l r kind done ((book_after kind n blank done).cells l r)
