-- The left blocks before l are settled, and the holders tell of the others.
use Rattle.matching.specs.Exchange.{AreHoldersFrom}
use Rattle.matching.proofs.Order.{Settling}
use Rattle.matching.proofs.stepping.make_first_from.Given as goal

abbrev pub invariant-loop-l : goal.invariant-loop-l
invariant-loop-l l = record {
  settling : Settling l.rows l.low l.l l.initial.p l.p;
  holders : AreHoldersFrom l.l l.p l.holders;
}
