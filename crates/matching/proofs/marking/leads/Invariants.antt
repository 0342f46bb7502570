-- The right blocks before k had their round.
use Rattle.std.proofs.Common.{length}
use Rattle.pairing.specs.Rows.{holds}
use Rattle.matching.proofs.Closing.{Closing}
use Rattle.matching.proofs.marking.leads.Given as goal

abbrev pub invariant-loop-k : goal.invariant-loop-k
invariant-loop-k l = Closing (length l.rows) (holds l.rows) l.p l.k (holds l.led)
