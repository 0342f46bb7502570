-- With what is not left in the iterator the offer is done, as if none of it had been reached; each
-- turn takes one right block out of it.
use Rattle.std.proofs.Common.{false}
use Rattle.blockset.specs.Has.{has}
use Rattle.pairing.specs.Grid.{at}
use Rattle.tables.specs.Said.{columns_at}
use Rattle.assign.specs.Offers.{distances}
use Rattle.assign.proofs.Offering.{Offering}
use Rattle.assign.proofs.search.offer_first.Given as goal

abbrev pub invariant-loop-c : goal.invariant-loop-c
invariant-loop-c g l =
    let kind = g.K.Cost in
    (goal.iterator-loop-c g).can_next l.c-iterator × (goal.iterator-loop-c g).is_finite l.c-iterator
    × Offering (kind.meaning l.offer.shift) (columns_at kind l.offer.costs.now) l.offer.from
    (has l.offer.to) (λ _. false)
    (distances kind l.holders l.initial.dist) (at l.initial.via) (has l.c-iterator)
    (distances kind l.holders l.dist) (at l.via)
