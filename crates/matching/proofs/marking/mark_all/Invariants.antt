-- The rows before l are marked, and the classes so far are noted.
use Rattle.std.proofs.Common.{◌≡◌, ℕ, ◌+◌, ◌*◌, ◌<◌, if◌then◌else◌, length}
use Rattle.pairing.specs.Grid.{at}
use Rattle.pairing.specs.Optima.{has_pair}
use Rattle.pairing.specs.Rows.{pairings}
use Rattle.matching.proofs.Leading.{AreClasses}
use Rattle.matching.proofs.marking.mark_all.Given as goal

abbrev pub invariant-loop-l : goal.invariant-loop-l
invariant-loop-l l = record {
  marked : (m r : ℕ) → m < l.l → r < length l.rows
      → at l.table (m * length l.rows + r) ≡ (if has_pair m r (pairings l.rows) then 1 else 0);
  classes : AreClasses (length l.rows) l.led l.classes;
}
