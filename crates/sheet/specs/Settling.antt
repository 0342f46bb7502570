-- What `settle` answers, and what it leaves in the tables, at every input.
use Rattle.std.specs.Prelude.{◌≡◌, ◌≢◌, ℕ, List, Option, Result, MatchOption, MatchResult}
use Rattle.cost.specs.declared.Cost.{Ghosts}
use Rattle.pairing.specs.Grid.{IsPerfectIn}
use Rattle.pairing.specs.Largest.{HasNoPerfect}
use Rattle.tables.specs.Lent.{Lent, grid, HasLengths, IsOrderly}
use Rattle.tables.specs.Together.{HoldTogether}
use Rattle.matching.specs.declared.augmenting.Shortfall.{Shortfall}
use Rattle.assign.specs.Answer.{HasFirstOptimum}
use Rattle.sheet.specs.declared.fault.Cause.TheVariants.{TableLength, Inconsistent}
use Rattle.sheet.specs.declared.fault.Cause.TheVariants.{NoPerfectPairing}
use Rattle.sheet.specs.declared.fault.Fault.{Fault}
use Rattle.sheet.specs.declared.fault.Refusal.{Refusal}
use Rattle.sheet.specs.Needs.{Needs, need, nothing, AreMet, IsFirstUnmet}
use Rattle.sheet.specs.Refusals.{fault}
use Rattle.sheet.specs.Size.{Sheet}

module _ {K : Type 0} (kind : Ghosts K) where
  -- tables of the right lengths that are in order, and a perfect pairing over the standing pairs
  abbrev pub settle_needs : Lent K → Needs
  settle_needs t = need (HasLengths t) TableLength
      (need (IsOrderly kind t) Inconsistent
      (need ((p : List ℕ) × IsPerfectIn (grid kind t) p) NoPerfectPairing nothing))

  -- the crowd set and its shortage come along exactly where no pairing is perfect
  abbrev pub Explains : Lent K → Fault → Option Shortfall → Type 0
  Explains t f shortfall = MatchOption shortfall (f ≢ fault NoPerfectPairing 0)
      (λ s. (f ≡ fault NoPerfectPairing 0)
      × HasNoPerfect t.size (grid kind t).stands s.crowd s.short)

  -- the open sheet became a settled one of the same size, and the tables hold the first of all
  -- optimum pairings and the greatest prices; they hold together, so all of them have the right
  -- lengths and every call on the settled sheet accepts them
  pub record IsSettled (sheet settled : Sheet) (old new : Lent K) : Type 0 where
    pub same : settled ≡ sheet
    pub met : AreMet (settle_needs old)
    pub tables : HasFirstOptimum kind new
    pub together : HoldTogether kind new

  -- the open sheet came back, and the tables are as they were
  pub record IsUnsettled (sheet : Sheet) (refusal : Refusal Sheet) (old new : Lent K) : Type 0 where
    pub same : refusal.state ≡ sheet
    pub unmet : IsFirstUnmet (settle_needs old) refusal.fault
    pub explained : Explains old refusal.fault refusal.shortfall
    pub kept : new ≡ old

  abbrev pub Settles : (sheet : Sheet) (old new : Lent K) → Result Sheet (Refusal Sheet) → Type 0
  Settles sheet old new answer = MatchResult answer (λ settled. IsSettled sheet settled old new)
      (λ refusal. IsUnsettled sheet refusal old new)
