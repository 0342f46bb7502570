-- A left block takes the right block that it bids for, and the pairing goes with the prices.
-- Idea: the price of that right block falls, and no other changes. For the new left block no other
-- right block is nearer then. Any other left block keeps a right block whose price is the same, and
-- what falls is farther for it than it was.
use Rattle.std.proofs.Common.{◌≡◌, ℕ, ◌+◌, ◌*◌, ◌<◌, ◌≤◌, Bool, true, false, ◌||◌, eqb, List}
use Rattle.std.proofs.Common.{length, set, ℤ, ◌+ℤ◌, ◌≤ℤ◌, sym, ap, subst, arith}
use Rattle.std.proofs.lemmas.Int.{ints}
use Rattle.std.proofs.lemmas.Bool.{cases_eq}
use Rattle.cost.specs.declared.Cost.{Ghosts}
use Rattle.cost.specs.declared.TheConstants.{COST_LIMIT}
use Rattle.cost.specs.Columns.{AreWithin}
use Rattle.cost.proofs.Exact.{within_more}
use Rattle.cost.specs.Weights.{weight}
use Rattle.blockset.specs.declared.BlockSet.{BlockSet}
use Rattle.blockset.specs.Has.{has}
use Rattle.pairing.specs.Grid.{at}
use Rattle.pairing.specs.Rows.{holds}
use Rattle.matching.specs.declared.chains.Holders.{Holders}
use Rattle.matching.specs.Exchange.{AreHolders}
use Rattle.assign.specs.Search.{Graph, Pairing, pairing, Kept}
use Rattle.matching.proofs.Inserting.{old_in}
use Rattle.tables.specs.Said.{AreValuesWithin}
use Rattle.assign.specs.declared.limits.TheConstants.{INNER_PRICE_LIMIT, REDUCED_LIMIT}
use Rattle.assign.specs.declared.tree.Bid.{Bid}
use Rattle.assign.specs.Weighed.{weight_at, cost_weight, SearchTables}
use Rattle.assign.specs.Pairs.{SoFar, so_far, IsPriced}
use Rattle.assign.specs.Bids.{IsBestBid, IsPricedNear, IsSeated, IsBidOf, IsReduced, HasGoneOn}
use Rattle.assign.proofs.Entries.{put_same, put_other, put_bound, part_of, part_is}
use Rattle.assign.proofs.Bidding.{bid_like}
use Rattle.assign.proofs.Seating.{not_inserted}

-- a pairing with prices, and a bid that left block l has taken under them
module _ {g : Graph} {q : Pairing} (kept : Kept g q) (l j : ℕ) (below : j < g.size) (w : ℤ)
    (bid : IsBestBid (g.stands l) (has q.holders.held) q.price (g.cost l) j w) {next : Pairing}
    (seated : IsSeated g.size q.out q.partners l j next.out next.partners)
    (told : AreHolders 0 next.partners next.out next.holders) (new : next.price j ≡ w)
    (same : (c : ℕ) → (c ≡ j → ⊥) → next.price c ≡ q.price c) where
  -- no price rises
  pub falls : (c : ℕ) → next.price c ≤ℤ q.price c
  falls c = grind (arith, ints)

  fair_new : (c : ℕ) → g.stands l c ≡ true
      → (next.price c +ℤ g.cost l j) ≤ℤ (next.price j +ℤ g.cost l c)
  fair_new c st = grind (arith, ints, bid.best c, cases_eq c j)

  fair : (m c : ℕ) → m < g.size → next.out m ≡ false → c < g.size → g.stands m c ≡ true
      → (next.price c +ℤ g.cost m (at next.partners m))
      ≤ℤ (next.price (at next.partners m) +ℤ g.cost m c)
  fair m c h u hc st = grind (arith, ints, fair_new c, falls c, kept.fair m c, cases_eq m l)

  pub reduced_kept : Kept g next
  reduced_kept = record {
    pairs = record {
      len = seated.len;
      below = λ m h u. grind arith;
      standing = λ m h u. grind arith;
      once = λ m k hm hk um uk e. grind arith;
    };
    holding = told;
    fair = fair;
  }

-- what a left block bids for by its part of the cost table, and what by the table
module _ {K : Type 0} {kind : Ghosts K} {rows : List BlockSet} {costs : List K}
    (lent : SearchTables kind rows costs) (l : ℕ) (room : l < length rows) (now : SoFar K) (j : ℕ)
    (w : ℤ) where
  abbrev pub IsPartBid : Type 0
  IsPartBid = IsBestBid (holds rows l) (has now.holders.held) (weight_at kind now.right)
      (weight_at kind (part_of (length rows) l costs)) j w

  pub by_table : IsPartBid → IsBidOf kind rows costs now l j w
  by_table = bid_like (cost_weight kind (length rows) costs l)
      (λ c t. ap weight (sym (part_is lent l room c t)))

  pub by_part : IsBidOf kind rows costs now l j w → IsPartBid
  by_part = bid_like (weight_at kind (part_of (length rows) l costs))
      (λ c t. ap weight (part_is lent l room c t))

-- what one step of the row reduction leaves
pub record IsStep {K : Type 0} (kind : Ghosts K) (rows : List BlockSet) (costs : List K) (l : ℕ)
    (before after : SoFar K) : Type 0 where
  pub reduced : IsReduced kind rows costs l before after
  pub goes_on : HasGoneOn kind before after
  pub paired : IsPriced kind rows costs after
  pub bound : (b : ℕ) → AreValuesWithin kind b (length rows) before.right → b ≤ REDUCED_LIMIT
      → AreValuesWithin kind (b + 2 * COST_LIMIT) (length rows) after.right

pub step_of : {K : Type 0} {kind : Ghosts K} {rows : List BlockSet} {costs : List K}
    → SearchTables kind rows costs → {before : SoFar K} → IsPriced kind rows costs before
    → length before.right ≡ length rows → (l : ℕ) → l < length rows → (taken : Bid K)
    → IsBidOf kind rows costs before l taken.block (weight (kind.meaning taken.price))
    → IsPricedNear kind (length rows) before.right taken
    → AreValuesWithin kind REDUCED_LIMIT (length rows) before.right
    → {out' : ℕ → Bool} {p' : List ℕ}
    → IsSeated (length rows) before.out before.partners l taken.block out' p' → (o' : Holders)
    → AreHolders 0 p' out' o'
    → ((c : ℕ) → has o'.held c ≡ (eqb c taken.block || has before.holders.held c))
    → IsStep kind rows costs l before
    (so_far out' p' o' (set before.right taken.block taken.price))
step_of {kind = kind} {rows = rows} {costs = costs} lent {before = before} paired long l room taken
    bid near close {out' = out'} {p' = p'} seated o' told held =
    let j = taken.block in
    let right' = set before.right j taken.price in
    let inside : j < length rows = lent.inside l j room bid.member in
    let lies : j < length before.right = omega arith in
    let here = put_same kind before.right j taken.price lies in
    let others = λ (c : ℕ) (ne : c ≡ j → ⊥). put_other kind before.right j c taken.price ne in
    let w = weight (kind.meaning taken.price) in
    let next = pairing out' p' o' (weight_at kind right') in
    record {
      reduced = record {
        block = j;
        bid = subst (IsBidOf kind rows costs before l j) (sym (ap weight here)) bid;
        seated = seated;
        others = others;
      };
      goes_on = record {
        held = old_in (has before.holders.held) (has o'.held) j held;
        falls = falls paired.kept l j inside w bid {next = next} seated told (ap weight here)
            (λ c ne. ap weight (others c ne));
      };
      paired = record {
        kept = reduced_kept paired.kept l j inside w bid {next = next} seated told
            (ap weight here) (λ c ne. ap weight (others c ne));
        priced = put_bound kind INNER_PRICE_LIMIT INNER_PRICE_LIMIT (length rows) before.right j
            taken.price lies (omega arith)
            (within_more (REDUCED_LIMIT + 2 * COST_LIMIT) INNER_PRICE_LIMIT
            (kind.meaning taken.price) (omega arith) (near REDUCED_LIMIT close (omega arith)))
            paired.priced;
        unsold = λ c h f.
            let free = not_inserted (has before.holders.held) (has o'.held) j held c f in
            subst (AreWithin COST_LIMIT) (sym (others c free.1)) (paired.unsold c h free.0);
      };
      bound = λ b far le. put_bound kind b (b + 2 * COST_LIMIT) (length rows) before.right j
          taken.price lies (omega arith) (near b far le) far;
    }
