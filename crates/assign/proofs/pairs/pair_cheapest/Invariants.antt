-- The state of proofs/Choosing.antt; each turn looks at one right block of those that the iterator
-- has left.
use Rattle.std.proofs.Common.{◌≡◌, length}
use Rattle.blockset.specs.declared.TheConstants.{SET_WIDTH}
use Rattle.blockset.specs.Has.{has}
use Rattle.pairing.specs.Grid.{at}
use Rattle.assign.proofs.Choosing.{Choosing}
use Rattle.assign.proofs.pairs.pair_cheapest.Given as goal

abbrev pub invariant-loop-c : goal.invariant-loop-c
invariant-loop-c l = record {
  can_next : (goal.iterator-loop-c).can_next l.c-iterator;
  is_finite : (goal.iterator-loop-c).is_finite l.c-iterator;
  choosing : Choosing l.n (has l.cheapest.priced) (at l.cheapest.owner) (has l.c-iterator)
      (has l.out) l.partners (record { held = l.held; owner = l.owner });
  wide : length l.owner ≡ SET_WIDTH;
}
