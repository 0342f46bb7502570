-- What a call that pairs by cost answers, and what it leaves in the tables, at every input.
use Rattle.std.specs.Prelude.{◌≡◌, ℕ, List, length, Ok, Err, Result}
use Rattle.cost.specs.declared.TheConstants.{PRICE_LIMIT}
use Rattle.cost.specs.declared.Cost.{Ghosts}
use Rattle.blockset.specs.declared.BlockSet.{BlockSet}
use Rattle.pairing.specs.Grid.{IsOptimum}
use Rattle.pairing.specs.Rows.{holds}
use Rattle.pairing.specs.Optima.{optima}
use Rattle.pairing.specs.Prices.{AreGreatest}
use Rattle.pairing.specs.Largest.{HasNoPerfect}
use Rattle.matching.specs.Answers.{IsNth}
use Rattle.tables.specs.Said.{AreValuesWithin}
use Rattle.tables.specs.Lent.{Lent, grid, left_price, right_price, IsUsable, IsUnusable}
use Rattle.tables.specs.declared.flaw.Flaw.{Flaw}
use Rattle.assign.specs.Prices.{IsSolution}
use Rattle.assign.specs.declared.Outcome.{Outcome}
use Rattle.assign.specs.declared.Outcome.TheVariants.{Optimal, Unmatched}

module _ {K : Type 0} (kind : Ghosts K) where
  -- the greatest valid prices with no right price above zero, all within 10^12
  pub record HasGreatestPrices (t : Lent K) : Type 0 where
    pub greatest : AreGreatest (grid kind t) (left_price kind t) (right_price kind t) t.partners
    pub left_near : AreValuesWithin kind PRICE_LIMIT t.size t.left
    pub right_near : AreValuesWithin kind PRICE_LIMIT t.size t.right

  -- an optimum pairing, and the greatest prices
  pub record HasOptimum (t : Lent K) : Type 0 where
    pub optimum : IsOptimum (grid kind t) t.partners
    pub prices : HasGreatestPrices t

  -- the first of all optimum pairings, and the greatest prices
  pub record HasFirstOptimum (t : Lent K) : Type 0 where
    pub first : IsNth (optima (grid kind t)) 0 t.partners
    pub prices : HasGreatestPrices t

  -- the search over rows is done; or no pairing over them is perfect, and nothing is written
  abbrev pub Solves : (rows : List BlockSet) (costs : List K) (p : List ℕ) (l r : List K)
      (p' : List ℕ) (l' r' : List K) → Outcome → Type 0
  Solves rows costs p l r p' l' r' Optimal = IsSolution kind rows costs p' l' r'
  Solves rows costs p l r p' l' r' (Unmatched s) =
      HasNoPerfect (length rows) (holds rows) s.crowd s.short × (p' ≡ p) × (l' ≡ l) × (r' ≡ r)

  -- the call is done; or no pairing is perfect, and the crowd set and its shortage say why; or the
  -- tables are unusable. In the last two cases they are as they were
  abbrev pub Answers : (old new : Lent K) (Done : Type 0) → Result Outcome Flaw → Type 0
  Answers old new Done (Ok Optimal) = IsUsable kind old × Done
  Answers old new Done (Ok (Unmatched s)) = IsUsable kind old
      × HasNoPerfect old.size (grid kind old).stands s.crowd s.short × (new ≡ old)
  Answers old new Done (Err flaw) = IsUnusable kind old flaw × (new ≡ old)
