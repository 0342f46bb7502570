-- What a left block bids.
-- Idea: a free right block that none is nearer than is taken at its price. A held one that is
-- nearer than every other falls to where the nearest of these is as near. Where two are equally
-- near, no price below its own leaves a held one the nearest: there the nearest free one is taken
-- if it is as near.
use Rattle.std.proofs.Common.{◌≡◌, ℕ, Bool, true, false, not, ◌&&◌, List, ℤ, ◌-ℤ◌, ◌≤ℤ◌, ◌<ℤ◌}
use Rattle.std.proofs.Common.{refl, arith}
use Rattle.std.proofs.lemmas.Int.{ints}
use Rattle.std.proofs.lemmas.Bool.Decides.{nat_tests}
use Rattle.std.proofs.lemmas.Bool.{cases_eq, both_ways}
use Rattle.cost.specs.declared.Cost.{Ghosts}
use Rattle.cost.specs.declared.TheConstants.{HALF_RAIL}
use Rattle.cost.specs.Columns.{AreWithin}
use Rattle.cost.proofs.Exact.{within_more}
use Rattle.blockset.proofs.Removing.{still_in}
use Rattle.matching.specs.Exchange.{without}
use Rattle.assign.specs.declared.limits.TheConstants.{KEY_LIMIT}
use Rattle.assign.specs.declared.tree.Nearby.{Nearby}
use Rattle.assign.specs.Offers.{Nearest, NearestWithKey}
use Rattle.assign.specs.Bids.{IsBestBid}

-- a key is so near that two of them compare as they weigh
pub key_near : {K : Type 0} {kind : Ghosts K} {set : ℕ → Bool} {right : List K} {d : ℕ → List ℤ}
    {at : Nearby K} → NearestWithKey kind set right d at → AreWithin HALF_RAIL (kind.meaning at.key)
key_near {kind = kind} {at = at} near =
    within_more KEY_LIMIT HALF_RAIL (kind.meaning at.key) (omega arith) near.bound

-- j is the nearest one
module _ {to : ℕ → Bool} (held : ℕ → Bool) {v cost : ℕ → ℤ} {j : ℕ} (near : Nearest to v cost j)
  where
    pub bid_free : held j ≡ false → (w : ℤ) → w ≡ v j → IsBestBid to held v cost j w
    bid_free free w same = record {
      member = near.member;
      best = λ c t ne. omega (arith, ints, near.least c t);
      free = λ _. same;
      falls = λ h. absurd (both_ways (held j) free h);
      tied = λ h. absurd (both_ways (held j) free h);
    }

    -- f is the nearest free one, and no held one can be taken
    module _ {free : ℕ → Bool} {f : ℕ} (first : Nearest free v cost f)
        (free_is : (c : ℕ) → free c ≡ (to c && not (held c)))
        (none_held : (i : ℕ) (w : ℤ) → held i ≡ true → IsBestBid to held v cost i w → ⊥) where
      -- it is as near as the nearest of all
      pub as_near : (cost f -ℤ v f) ≤ℤ (cost j -ℤ v j) → (w : ℤ) → w ≡ v f
          → IsBestBid to held v cost f w
      as_near le w same =
          let spare : held f ≡ false = grind (arith, nat_tests, free_is f, first.member) in
          record {
            member = grind (arith, nat_tests, free_is f, first.member);
            best = λ c t ne. omega (arith, ints, near.least c t);
            free = λ _. same;
            falls = λ h. absurd (both_ways (held f) spare h);
            tied = λ h. absurd (both_ways (held f) spare h);
          }

      pub no_bid_far : (cost j -ℤ v j) <ℤ (cost f -ℤ v f) → (i : ℕ) (w : ℤ)
          → IsBestBid to held v cost i w → ⊥
      no_bid_far less i w bid =
          let spare : held i ≡ false = grind (arith, nat_tests, none_held i w, bid) in
          let far = first.least i (grind (arith, nat_tests, free_is i, bid.member)) in
          grind (arith, ints, bid.best j near.member, bid.free spare, cases_eq j i)

    -- k is the nearest of the others
    module _ {k : ℕ} (next : Nearest (without to j) v cost k) where
      apart : (to k ≡ true) × (k ≡ j → ⊥)
      apart = still_in to (without to j) j (λ _. refl) k next.member

      pub bid_falls : held j ≡ true → (cost j -ℤ v j) <ℤ (cost k -ℤ v k) → (w : ℤ)
          → w ≡ cost j -ℤ (cost k -ℤ v k) → IsBestBid to held v cost j w
      bid_falls mine less w is = record {
        member = near.member;
        best = λ c t ne. grind (arith, ints, nat_tests, next.least c);
        free = λ f. absurd (both_ways (held j) f mine);
        falls = λ _. omega (arith, ints);
        tied = λ _. (k, apart.0, apart.1, omega (arith, ints));
      }

      -- no held one is nearer than both of two that are equally near
      pub no_bid_tied : (cost k -ℤ v k) ≤ℤ (cost j -ℤ v j) → (i : ℕ) (w : ℤ) → held i ≡ true
          → IsBestBid to held v cost i w → ⊥
      no_bid_tied le i w h bid =
          let less = bid.falls h in
          let far = near.least i bid.member in
          grind (arith, ints, bid.best j near.member, bid.best k apart.0, apart.1, cases_eq j i)

-- costs that are the same where they count
pub bid_like : {to held : ℕ → Bool} {v cost : ℕ → ℤ} {j : ℕ} {w : ℤ} → (cost' : ℕ → ℤ)
    → ((c : ℕ) → to c ≡ true → cost' c ≡ cost c) → IsBestBid to held v cost j w
    → IsBestBid to held v cost' j w
bid_like {j = j} cost' same bid = record {
  member = bid.member;
  best = λ c t ne. omega (arith, ints, bid.best c t ne, same c t, same j bid.member);
  free = bid.free;
  falls = bid.falls;
  tied = λ h. let x = bid.tied h in
      (x.0, x.1, x.2, omega (arith, ints, x.3, same x.0 x.1, same j bid.member));
}
