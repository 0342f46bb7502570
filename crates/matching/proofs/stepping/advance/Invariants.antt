-- Nothing has changed, no pairing that agrees with p below l comes after it, the holders tell of
-- the left blocks from l on, and what these may be paired with is wanted.
use Rattle.std.proofs.Common.{◌≡◌}
use Rattle.blockset.specs.Has.{has}
use Rattle.matching.specs.Improving.{HasWantedFrom}
use Rattle.matching.specs.Exchange.{AreHoldersFrom}
use Rattle.matching.proofs.Order.{IsExhausted}
use Rattle.matching.proofs.stepping.advance.Given as goal

abbrev pub invariant-loop-l : goal.invariant-loop-l
invariant-loop-l l = record {
  same : l.p ≡ l.initial.p;
  exhausted : IsExhausted l.rows l.l l.p;
  holders : AreHoldersFrom l.l l.p l.holders;
  wanted : HasWantedFrom l.l l.rows (has l.wanted);
}
