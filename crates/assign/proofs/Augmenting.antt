-- What a search, the lowered prices and the exchange along the shortest augmenting path make of the
-- pairing so far.
-- Idea: proofs/Adding.antt tells it of lists and functions; here the same is said once of the
-- tables that `pair_row` is lent, so that each of its calls gets what it asks for. The taken right
-- blocks that are had get a price; the only other one is the goal, which keeps the price it has.
use Rattle.std.proofs.Common.{◌≡◌, ℕ, ◌+◌, ◌<◌, Bool, true, false, ◌&&◌, ◌||◌, eqb, List, length}
use Rattle.std.proofs.Common.{◌+ℤ◌, sym, ap, arith, Some, None, ◌∙◌}
use Rattle.std.proofs.lemmas.Bool.{cases_Bool}
use Rattle.cost.specs.declared.Cost.{Ghosts}
use Rattle.cost.specs.declared.TheConstants.{COST_LIMIT}
use Rattle.cost.specs.Columns.{AreWithin}
use Rattle.cost.proofs.Exact.{within_more}
use Rattle.cost.specs.Weights.{weight}
use Rattle.blockset.specs.declared.BlockSet.{BlockSet}
use Rattle.blockset.specs.Has.{has}
use Rattle.pairing.specs.Grid.{at, IsPerfect}
use Rattle.pairing.specs.Rows.{holds}
use Rattle.matching.specs.declared.chains.Holders.{Holders}
use Rattle.matching.specs.Exchange.{without, AreHolders, HasWaysBack, IsExchanged}
use Rattle.tables.specs.Said.{columns_at, AreValuesWithin}
use Rattle.assign.specs.declared.limits.TheConstants.{DISTANCE_LIMIT, LEFT_PRICE_LIMIT}
use Rattle.assign.specs.declared.limits.TheConstants.{INNER_PRICE_LIMIT}
use Rattle.assign.specs.declared.tree.Nearby.{Nearby}
use Rattle.assign.specs.declared.tree.Tree.{Tree}
use Rattle.assign.specs.Weighed.{weight_at, graph}
use Rattle.assign.specs.Offers.{distances}
use Rattle.assign.specs.Search.{Pairing, pairing, from_row, Course, course}
use Rattle.assign.specs.Trees.{stage_in, block_of, IsFreeSeen, IsNearestFree, HasCome, HasEnded}
use Rattle.assign.specs.Pairs.{SoFar, so_far, IsPriced}
use Rattle.assign.proofs.Adding.{HasSearched, only_goal, ways_of, added, never}
use Rattle.assign.proofs.Seating.{not_inserted}
use Rattle.assign.proofs.Stages.{stage_taken, taken_is}

-- The prices of those taken right blocks that are had have fallen by how far the goal is.
pub record HaveFallen {K : Type 0} (kind : Ghosts K) (n : ℕ) (now : SoFar K) (dist : List K)
    (tree : Tree K) (goal : Nearby K) (fallen : ℕ → Bool) (right' : List K) : Type 0 where
  pub had : (c : ℕ) → fallen c ≡ (has tree.taken.reached c && has now.holders.held c)
  pub lowered : (c : ℕ) → fallen c ≡ true
      → weight_at kind right' c +ℤ weight (kind.meaning goal.key)
      ≡ weight (distances kind now.holders dist c)
  pub same : (c : ℕ) → fallen c ≡ false → columns_at kind right' c ≡ columns_at kind now.right c
  pub near : AreValuesWithin kind INNER_PRICE_LIMIT n right'

-- the search from left block k, which is left out, has come to its end
module _ {K : Type 0} {kind : Ghosts K} {rows : List BlockSet} {costs : List K} {now : SoFar K}
    (paired : IsPriced kind rows costs now) {k : ℕ} (room : k < length rows)
    (unpaired : now.out k ≡ true) {dist : List K} {tree : Tree K}
    (come : HasCome kind rows costs now.holders now.right (from_row (graph kind rows costs) k) tree
    dist) (ended : HasEnded kind (length rows) now.holders now.right dist tree) where
  abbrev pairs : Pairing
  pairs = pairing now.out now.partners now.holders (weight_at kind now.right)

  abbrev walk : Course
  walk = course come.0 come.1 (stage_in tree)

  searched : HasSearched (graph kind rows costs) pairs k walk tree.taken (block_of tree.free)
  searched = record {
    kept = paired.kept;
    room = room;
    unpaired = unpaired;
    inside = ended.inside;
    ranked = stage_taken (has tree.taken.reached) (has tree.seen) tree.taken.rank;
    taken = taken_is (has tree.taken.reached) (has tree.seen) tree.taken.rank;
    end = rw ended.goal at (come.3 now.out now.partners paired.kept);
  }

  -- it does not end without a goal
  pub no_end : tree.free ≡ None → (p : List ℕ) → IsPerfect (length rows) (holds rows) p → ⊥
  no_end is p perfect = never (rw is at searched) p perfect

  module _ {goal : Nearby K} (is : tree.free ≡ Some goal) where
    found : HasSearched (graph kind rows costs) pairs k walk tree.taken (Some goal.block)
    found = rw is at searched

    nearest : IsNearestFree kind now.holders now.right (has tree.seen) tree.taken.from come.0 come.1
        goal
    nearest = rw is at come.2.nearest

    free : IsFreeSeen kind now.holders now.right (has tree.seen) goal
    free = rw is at ended.free

    -- the goal was never sold, so its price is a cost
    pub goal_near : AreWithin LEFT_PRICE_LIMIT (kind.meaning goal.key)
    goal_near = within_more (DISTANCE_LIMIT + COST_LIMIT) LEFT_PRICE_LIMIT (kind.meaning goal.key)
        (omega arith)
        (free.reach COST_LIMIT (paired.unsold goal.block found.end.0 free.free) (omega arith))

    -- the left blocks that the taken right blocks were reached from
    from : (c : ℕ) → has tree.taken.reached c ≡ true → walk.via c ≡ at tree.taken.from c
    from c t = grind (
      arith,
      cases_Bool (has now.holders.held c),
      come.2.via c,
      ended.among c,
      only_goal found c,
      nearest.via,
    )

    pub ways : HasWaysBack now.partners now.out tree.taken
    ways = ways_of found from

    pub augmented : {fallen : ℕ → Bool} {right' : List K}
        → HaveFallen kind (length rows) now dist tree goal fallen right' → {p' : List ℕ} {r : ℕ}
        → IsExchanged now.partners p' now.out tree.taken r → {o' : Holders}
        → (AreHolders 0 now.partners now.out now.holders → AreHolders 0 p' (without now.out r) o')
        → ((c : ℕ) → has o'.held c ≡ (eqb c goal.block || has now.holders.held c))
        → IsPriced kind rows costs (so_far (without now.out k) p' o' right')
    augmented {right' = right'} prices {p' = p'} exchanged {o' = o'} told held = record {
      kept = added found from {next = pairing now.out p' o' (weight_at kind right')} (record {
        goal_far = nearest.dist;
        fallen = λ c t h. prices.lowered c (grind (arith, prices.had c))
            ∙ sym (come.2.dist c (ended.among c t) h);
        same = λ c f. ap weight (prices.same c (prices.had c ∙ f));
        exchanged = exchanged;
        told = told paired.kept.holding;
      });
      priced = prices.near;
      unsold = λ c h f.
          let free = not_inserted (has now.holders.held) (has o'.held) goal.block held c f in
          rw (prices.same c (grind (arith, prices.had c))) (paired.unsold c h free.0);
    }
