-- Nothing has changed but what is shut; each search shuts its candidate, so that there are at most
-- n.
use Rattle.std.proofs.Common.{◌≡◌}
use Rattle.blockset.specs.declared.TheConstants.{SET_WIDTH}
use Rattle.blockset.specs.Has.{has}
use Rattle.blockset.specs.Sets.{members}
use Rattle.pairing.specs.Grid.{at}
use Rattle.matching.proofs.Alone.{IsAlone}
use Rattle.matching.proofs.Trying.{Trying}
use Rattle.matching.proofs.stepping.improve.Given as goal

abbrev pub invariant-loop-r : goal.invariant-loop-r
invariant-loop-r l = record {
  same : l.p ≡ l.initial.p;
  alone : IsAlone l.alone l.l;
  goals : IsAlone l.goals (at l.p l.l);
  trying : Trying l.rows l.l l.floor l.p l.holders l.live l.candidates;
}

abbrev pub decreases-loop-r : goal.decreases-loop-r
decreases-loop-r l = members SET_WIDTH (has l.candidates)
