-- The state of proofs/Lowering.antt; each turn lowers the price of one right block that the
-- iterator has left.
use Rattle.std.proofs.Common.{length}
use Rattle.cost.specs.Weights.{weight}
use Rattle.blockset.specs.Has.{has}
use Rattle.tables.specs.Said.{columns_at}
use Rattle.assign.specs.Offers.{distances}
use Rattle.assign.proofs.Lowering.{Lowering}
use Rattle.assign.proofs.prices.lower.Given as goal

abbrev pub invariant-loop-c : goal.invariant-loop-c
invariant-loop-c g l =
    let kind = g.K.Cost in
    record {
      can_next : (goal.iterator-loop-c g).can_next l.c-iterator;
      is_finite : (goal.iterator-loop-c g).is_finite l.c-iterator;
      lowering : Lowering (length l.initial.right) (has l.fn.taken) (has l.c-iterator)
          (weight (kind.meaning l.fn.far)) (λ c. weight (distances kind l.holders l.dist c))
          (columns_at kind l.initial.right) (columns_at kind l.right);
    }
