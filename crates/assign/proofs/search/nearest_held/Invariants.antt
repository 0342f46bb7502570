-- `block` is the nearest of those that are not left to the iterator; each turn takes one right
-- block out of it. No key is far.
use Rattle.cost.specs.Columns.{AreWithin}
use Rattle.cost.specs.Weights.{weight}
use Rattle.blockset.specs.Has.{has}
use Rattle.assign.specs.declared.limits.TheConstants.{KEY_LIMIT}
use Rattle.assign.specs.Weighed.{weight_at}
use Rattle.assign.specs.Offers.{KeyReach, distances}
use Rattle.assign.proofs.Nearing.{Nearing}
use Rattle.assign.proofs.search.nearest_held.Given as goal

abbrev pub invariant-loop-c : goal.invariant-loop-c
invariant-loop-c g l =
    let kind = g.K.Cost in
    (goal.iterator-loop-c g).can_next l.c-iterator × (goal.iterator-loop-c g).is_finite l.c-iterator
    × Nearing (has l.fn.set) (weight_at kind l.right)
    (λ c. weight (distances kind l.holders l.dist c)) (has l.c-iterator) l.block
    (weight (kind.meaning l.least))
    × AreWithin KEY_LIMIT (kind.meaning l.least)
    × KeyReach kind l.right (distances kind l.holders l.dist) l.block l.least
