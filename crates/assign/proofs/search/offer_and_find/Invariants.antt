-- What is not left in the iterator was offered its way, and `block` is the nearest of it; each turn
-- takes one right block out. No key is far.
use Rattle.cost.specs.Columns.{AreWithin}
use Rattle.cost.specs.Weights.{weight}
use Rattle.blockset.specs.Has.{has}
use Rattle.pairing.specs.Grid.{at}
use Rattle.tables.specs.Said.{columns_at}
use Rattle.assign.specs.declared.limits.TheConstants.{KEY_LIMIT}
use Rattle.assign.specs.Weighed.{weight_at}
use Rattle.assign.specs.Offers.{KeyReach, distances}
use Rattle.assign.proofs.Nearing.{Nearing}
use Rattle.assign.proofs.Looking.{Looking}
use Rattle.assign.proofs.search.offer_and_find.Given as goal

abbrev pub invariant-loop-c : goal.invariant-loop-c
invariant-loop-c g l =
    let kind = g.K.Cost in
    (goal.iterator-loop-c g).can_next l.c-iterator × (goal.iterator-loop-c g).is_finite l.c-iterator
    × Looking (kind.meaning l.offer.shift) (columns_at kind l.offer.costs.now) l.offer.from
    (has l.offer.to) (distances kind l.holders l.initial.dist) (at l.initial.via) (has l.c-iterator)
    (distances kind l.holders l.dist) (at l.via)
    × Nearing (has l.offer.to) (weight_at kind l.right)
    (λ c. weight (distances kind l.holders l.dist c)) (has l.c-iterator) l.block
    (weight (kind.meaning l.lowest))
    × AreWithin KEY_LIMIT (kind.meaning l.lowest)
    × KeyReach kind l.right (distances kind l.holders l.dist) l.block l.lowest
