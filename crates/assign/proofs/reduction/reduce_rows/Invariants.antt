-- The pairing goes with the prices, which get at most two costs farther in a step. Before the first
-- step all is as it was, and after it the left block that was left out first has had its turn.
use Rattle.std.proofs.Common.{◌≡◌, ℕ, ◌+◌, ◌*◌, ◌<◌, ◌⊎◌, true, length}
use Rattle.cost.specs.declared.TheConstants.{COST_LIMIT}
use Rattle.blockset.specs.Has.{has, IsEmpty}
use Rattle.tables.specs.Said.{AreValuesWithin}
use Rattle.assign.specs.Pairs.{so_far, IsPriced}
use Rattle.assign.specs.Bids.{HasGoneOn, HasHadFirstTurn}
use Rattle.assign.proofs.reduction.reduce_rows.Given as goal

abbrev pub invariant-loop-step : goal.invariant-loop-step
invariant-loop-step g l =
    let kind = g.K.Cost in
    let first = l.fn.first in
    let was = so_far (has first.out) l.initial.partners first.holders l.initial.right in
    let now = so_far (has l.out) l.partners l.holders l.right in
    record {
      inside : (m : ℕ) → has l.out m ≡ true → m < length l.rows;
      paired : IsPriced kind l.rows l.costs now;
      bound : AreValuesWithin kind (COST_LIMIT + l.step * (2 * COST_LIMIT)) (length l.rows)
          l.right;
      partnered : length l.partners ≡ length l.rows;
      rights : length l.right ≡ length l.rows;
      goes_on : HasGoneOn kind was now;
      begun : ((l.step ≡ 0) × (l.out ≡ first.out) × (now ≡ was) × IsEmpty l.aside)
          ⊎ HasHadFirstTurn kind l.rows l.costs first.out was now;
    }
