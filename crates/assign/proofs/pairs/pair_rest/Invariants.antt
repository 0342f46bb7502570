-- The pairing and its prices go together after each turn, which pairs one left block more,
-- and what is noted is so.
use Rattle.std.proofs.Common.{◌≡◌, ℕ, ◌<◌, true, length}
use Rattle.blockset.specs.declared.TheConstants.{MOST_BLOCKS}
use Rattle.blockset.specs.Has.{has}
use Rattle.blockset.specs.Sets.{members}
use Rattle.assign.specs.Weighed.{weight_at}
use Rattle.assign.specs.Noted.{AreNoted}
use Rattle.assign.specs.Pairs.{so_far, IsPriced}
use Rattle.assign.proofs.pairs.pair_rest.Given as goal

abbrev pub invariant-loop-k : goal.invariant-loop-k
invariant-loop-k g l = record {
  paired : IsPriced g.K.Cost l.rows l.costs (so_far (has l.out) l.partners l.holders l.right);
  inside : (j : ℕ) → has l.out j ≡ true → j < length l.rows;
  noted : AreNoted g.K.Cost l.rows l.costs (has l.holders.held) (weight_at g.K.Cost l.right)
      l.noted;
}

abbrev pub decreases-loop-k : goal.decreases-loop-k
decreases-loop-k g l = members MOST_BLOCKS (has l.out)
