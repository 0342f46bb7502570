-- The left blocks before l have made their offers.
use Rattle.std.proofs.Common.{◌&&◌, length}
use Rattle.blockset.specs.Has.{has}
use Rattle.pairing.specs.Rows.{holds}
use Rattle.tables.specs.Said.{AreValuesWithin}
use Rattle.cost.specs.declared.TheConstants.{COST_LIMIT}
use Rattle.assign.specs.Weighed.{weight_at, cost_weight}
use Rattle.assign.specs.Pairs.{AreCheapest}
use Rattle.assign.proofs.prices.price_cheapest.Given as goal

abbrev pub invariant-loop-l : goal.invariant-loop-l
invariant-loop-l g l =
    let kind = g.K.Cost in
    let n = length l.rows in
    record {
      cheapest : AreCheapest l.l n
          (λ m c. holds l.rows m c && (has l.fn.from m && has l.fn.to c))
          (cost_weight kind n l.costs)
          (record { priced = l.priced; owner = l.owner }) (weight_at kind l.right);
      bound : AreValuesWithin kind COST_LIMIT n l.right;
    }
