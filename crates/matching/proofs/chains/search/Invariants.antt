-- Every turn reaches a right block, which may make one left block pending, or is done with a
-- pending one. So the measure falls, and with it there are at most 2n turns and one for each root.
use Rattle.std.proofs.Common.{◌+◌, ◌-◌, ◌*◌, length, None}
use Rattle.blockset.specs.declared.TheConstants.{SET_WIDTH}
use Rattle.blockset.specs.Has.{has}
use Rattle.blockset.specs.Sets.{members}
use Rattle.matching.proofs.Searching.{Searching}
use Rattle.matching.proofs.chains.search.Given as goal

abbrev pub invariant-loop-l : goal.invariant-loop-l
invariant-loop-l l =
    Searching l.rows l.bounds l.holders
    (record { reached = l.reached; from = l.from; rank = l.rank; goal = None }) l.pending

abbrev pub decreases-loop-l : goal.decreases-loop-l
decreases-loop-l l =
    2 * (length l.rows - members SET_WIDTH (has l.reached)) + members SET_WIDTH (has l.pending)
