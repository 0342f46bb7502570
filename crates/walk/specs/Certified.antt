-- What a test of lent tables hands out: rows over which just the optimum pairings are perfect.
use Rattle.std.specs.Prelude.{◌≡◌, List, length}
use Rattle.blockset.specs.declared.BlockSet.{BlockSet}
use Rattle.cost.specs.declared.Cost.{Ghosts}
use Rattle.pairing.specs.Optima.{optima}
use Rattle.pairing.specs.Rows.{IsPerfectOver, pairings}
use Rattle.tables.specs.Lent.{Lent, grid}
use Rattle.tables.specs.Together.{HoldTogether}

-- the tables hold together, and the pairings over the rows are the optimum pairings
pub record IsCertified {K : Type 0} (kind : Ghosts K) (t : Lent K) (rows : List BlockSet)
    : Type 0 where
  pub together : HoldTogether kind t
  pub long : length rows ≡ t.size
  pub paired : IsPerfectOver rows t.partners
  pub optima_are : pairings rows ≡ optima (grid kind t)
