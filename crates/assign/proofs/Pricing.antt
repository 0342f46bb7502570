-- The price of each right block as the least cost that it stands at, made left block by left block
-- from a cleared table.
-- Idea: one left block more offers its cost to each right block that it stands with. A right block
-- without a price takes the offer, and one with a price takes it only if it is less. So the price
-- that it has then is the cost of one of its pairs so far, and no pair so far costs less.
use Rattle.std.proofs.Common.{◌≡◌, ℕ, ◌+◌, ◌<◌, Bool, true, ◌||◌, List, [], replicate, ℤ}
use Rattle.std.proofs.Common.{pos, sym, ap, ◌∙◌, subst, arith}
use Rattle.std.proofs.lemmas.List.{get_or-map, get_or-replicate, length-replicate}
use Rattle.std.proofs.lemmas.Int.{ints}
use Rattle.std.proofs.lemmas.Bool.Decides.{nat_tests}
use Rattle.std.proofs.lemmas.Bool.{cases_eq, both_ways}
use Rattle.cost.specs.declared.Cost.{Ghosts}
use Rattle.cost.specs.Columns.{AreWithin, zeros}
use Rattle.cost.proofs.Exact.{zeros_within}
use Rattle.cost.specs.Weights.{weight}
use Rattle.cost.proofs.Weights.{weight_zeros}
use Rattle.blockset.specs.Has.{has, IsEmpty}
use Rattle.pairing.specs.Grid.{at}
use Rattle.tables.specs.Said.{columns_at}
use Rattle.assign.specs.Weighed.{weight_at}
use Rattle.assign.specs.Offers.{Offered}
use Rattle.assign.specs.declared.tree.Cheapest.{Cheapest}
use Rattle.assign.specs.Pairs.{AreCheapest}

-- a table that is cleared: it holds the value of zero everywhere
module _ {K : Type 0} (kind : Ghosts K) (nought : K) (columns : ℕ)
    (nothing : kind.meaning nought ≡ zeros columns) (k : ℕ) (table : List K)
    (cleared : table ≡ replicate k nought) where
  pub zero_at : (c : ℕ) → c < k → columns_at kind table c ≡ zeros columns
  zero_at c h =
      ap (λ t. columns_at kind t c) cleared
      ∙ get_or-map kind.meaning (replicate k nought) c nought []
      (subst (λ (z : ℕ). c < z) (sym (length-replicate k nought)) h)
      ∙ ap kind.meaning (get_or-replicate k c nought nought h) ∙ nothing

  pub cleared_within : (b c : ℕ) → c < k → AreWithin b (columns_at kind table c)
  cleared_within b c h = subst (AreWithin b) (sym (zero_at c h)) (zeros_within b columns)

  pub cleared_weighs : (c : ℕ) → c < k → weight_at kind table c ≡ pos 0
  cleared_weighs c h = ap weight (zero_at c h) ∙ weight_zeros columns

module _ (n : ℕ) (stands : ℕ → ℕ → Bool) (cost : ℕ → ℕ → ℤ) where
  -- no left block has made an offer, and no right block has a price
  pub cheapest_none : (of : Cheapest) (v : ℕ → ℤ) → IsEmpty of.priced
      → AreCheapest 0 n stands cost of v
  cheapest_none of v none = record {
    inside = λ c t. absurd (both_ways (has of.priced c) (none c) t);
    low = λ c t. absurd (both_ways (has of.priced c) (none c) t);
    stood = λ c t. absurd (both_ways (has of.priced c) (none c) t);
    costs = λ c t. absurd (both_ways (has of.priced c) (none c) t);
    least = λ l c h. absurd (omega arith);
  }

  -- left block m offers its costs, `own`, to the right blocks that it stands with
  module _ (m : ℕ) (of of' : Cheapest) (v v' : ℕ → ℤ) (so_far : AreCheapest m n stands cost of v)
      (shift : ℤ) (unshifted : shift ≡ pos 0) (own : ℕ → ℤ)
      (inside : (c : ℕ) → stands m c ≡ true → c < n)
      (own_is : (c : ℕ) → stands m c ≡ true → own c ≡ cost m c)
      (joined : (c : ℕ) → has of'.priced c ≡ (has of.priced c || stands m c))
      (offers : (c : ℕ) → Offered shift own m (stands m) (has of.priced) v (at of.owner) v'
      (at of'.owner) c) where
    pub cheapest_more : AreCheapest (m + 1) n stands cost of' v'
    cheapest_more = record {
      inside = λ c t. grind (arith, nat_tests, joined c, so_far.inside c, inside c);
      low = λ c t. grind (arith, nat_tests, joined c, so_far.low c, offers c);
      stood = λ c t. grind (arith, nat_tests, joined c, so_far.stood c, offers c);
      costs = λ c t. grind (arith, ints, nat_tests, joined c, so_far.costs c, offers c, own_is c);
      least = λ l c h st. (
        grind (arith, nat_tests, joined c, so_far.least l c, cases_eq l m),
        grind (arith, ints, so_far.least l c, offers c, own_is c, cases_eq l m),
      );
    }
