-- The holders tell of the left blocks from l on.
use Rattle.matching.specs.Exchange.{AreHoldersFrom}
use Rattle.matching.proofs.chains.Holders.of.Given as goal

abbrev pub invariant-loop-l : goal.invariant-loop-l
invariant-loop-l l = AreHoldersFrom l.l l.p l.holders
