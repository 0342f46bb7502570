-- The pairs so far, which leave `out` out, and who holds their right blocks; every round but the
-- last pairs one left block more.
use Rattle.std.proofs.Common.{◌≡◌, ℕ, ◌<◌, true, length}
use Rattle.blockset.specs.declared.TheConstants.{SET_WIDTH}
use Rattle.blockset.specs.Has.{has}
use Rattle.blockset.specs.Sets.{members}
use Rattle.pairing.specs.Grid.{at}
use Rattle.matching.proofs.Most.{Pairing}
use Rattle.matching.proofs.augmenting.pair_most.Given as goal

abbrev pub invariant-rounds : goal.invariant-rounds
invariant-rounds l = record {
  pairing : Pairing l.rows l.p l.out l.holders;
  kept : (j : ℕ) → j < length l.rows → has l.out j ≡ true → at l.p j ≡ at l.initial.p j;
}

abbrev pub decreases-rounds : goal.decreases-rounds
decreases-rounds l = members SET_WIDTH (has l.out)
