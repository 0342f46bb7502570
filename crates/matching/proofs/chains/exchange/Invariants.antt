-- The state of proofs/Exchanging.antt; the rank of the free right block falls.
use Rattle.std.proofs.Common.{◌≡◌, ℕ, ◌≤◌, true, length}
use Rattle.blockset.specs.declared.TheConstants.{SET_WIDTH}
use Rattle.blockset.specs.Has.{has}
use Rattle.pairing.specs.Grid.{at}
use Rattle.matching.specs.Exchange.{AreHolders}
use Rattle.matching.proofs.Exchanging.{Exchanging, Telling}
use Rattle.matching.proofs.chains.exchange.Given as goal

abbrev pub invariant-chain : goal.invariant-chain
invariant-chain l = record {
  way : Exchanging l.initial.p (has l.out) l.reach l.goal l.p l.block;
  same : l.holders.held ≡ l.initial.holders.held;
  sized : length l.holders.owner ≡ SET_WIDTH;
  told : (k : ℕ) → AreHolders k l.initial.p (has l.out) l.fn.holders
      → ((c : ℕ) → has l.reach.reached c ≡ true → k ≤ at l.reach.from c)
      → Telling l.initial.p (has l.out) l.reach k l.p l.holders l.block;
}

abbrev pub decreases-chain : goal.decreases-chain
decreases-chain l = at l.reach.rank l.block
