-- `near` is the nearest of those that are not left to the iterator, and `next` the nearest of the
-- others. No key is far.
use Rattle.cost.specs.Weights.{weight}
use Rattle.blockset.specs.Has.{has}
use Rattle.tables.specs.Said.{columns_at}
use Rattle.assign.specs.Weighed.{weight_at}
use Rattle.assign.specs.Offers.{KeyReach}
use Rattle.assign.proofs.Seconding.{Seconding}
use Rattle.assign.proofs.search.two_nearest.Given as goal

abbrev pub invariant-loop-c : goal.invariant-loop-c
invariant-loop-c g l =
    (goal.iterator-loop-c g).can_next l.c-iterator × (goal.iterator-loop-c g).is_finite l.c-iterator
    × Seconding (has l.fn.set) (weight_at g.K.Cost l.right) (weight_at g.K.Cost l.dist)
    (has l.c-iterator) l.near (weight (g.K.Cost.meaning l.near_key)) l.next
    (weight (g.K.Cost.meaning l.next_key))
    × KeyReach g.K.Cost l.right (columns_at g.K.Cost l.dist) l.near l.near_key
    × KeyReach g.K.Cost l.right (columns_at g.K.Cost l.dist) l.next l.next_key
