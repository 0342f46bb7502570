-- The left blocks before l have their rows written.
use Rattle.std.proofs.Common.{◌≡◌, ℕ, ◌<◌, ◌&&◌, nat_lt, length}
use Rattle.blockset.specs.declared.TheConstants.{SET_WIDTH}
use Rattle.pairing.specs.Grid.{at}
use Rattle.pairing.specs.Rows.{holds}
use Rattle.matching.proofs.marking.steps.Given as goal

abbrev pub invariant-loop-l : goal.invariant-loop-l
invariant-loop-l l = record {
  sized : length l.led ≡ SET_WIDTH;
  led : (m c : ℕ) → m < l.l
      → holds l.led (at l.p m) c ≡ (holds l.rows m c && nat_lt c (length l.rows));
}
