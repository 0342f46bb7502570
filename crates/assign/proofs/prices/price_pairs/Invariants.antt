-- The pairs of the left blocks before l have their prices.
use Rattle.std.proofs.Common.{length}
use Rattle.pairing.specs.Grid.{at}
use Rattle.tables.specs.Said.{columns_at}
use Rattle.assign.specs.Weighed.{cost_weight}
use Rattle.assign.proofs.PairPrices.{PricedBelow}
use Rattle.assign.proofs.prices.price_pairs.Given as goal

abbrev pub invariant-loop-l : goal.invariant-loop-l
invariant-loop-l g l =
    let kind = g.K.Cost in
    PricedBelow l.l (cost_weight kind (length l.rows) l.costs) (at l.partners)
    (columns_at kind l.initial.left) (columns_at kind l.left) (columns_at kind l.right)
