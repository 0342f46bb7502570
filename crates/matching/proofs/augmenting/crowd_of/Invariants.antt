-- The left blocks before l are looked at.
use Rattle.std.proofs.Common.{◌≡◌, ℕ, ◌&&◌, ◌||◌, nat_lt}
use Rattle.blockset.specs.Has.{has}
use Rattle.pairing.specs.Grid.{at}
use Rattle.matching.proofs.augmenting.crowd_of.Given as goal

abbrev pub invariant-loop-l : goal.invariant-loop-l
invariant-loop-l l = (j : ℕ)
    → has l.crowd j ≡ (has l.initial.crowd j || (nat_lt j l.l && has l.reached (at l.p j)))
