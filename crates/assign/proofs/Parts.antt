-- The offers of one left block, made in two parts: to right blocks that are reached for the first
-- time, and to those that were reached before.
-- Idea: a right block is in one part at most, and the other leaves it as it is.
use Rattle.std.proofs.Common.{◌≡◌, ℕ, Bool, true, false, not, ◌&&◌, ◌⊎◌, List, ℤ, ◌-ℤ◌, sym, ap}
use Rattle.std.proofs.Common.{subst}
use Rattle.std.proofs.Common.{◌∙◌, Option, Some, None, MatchOption, arith}
use Rattle.std.proofs.lemmas.Bool.Decides.{nat_tests}
use Rattle.std.proofs.lemmas.Int.{ints}
use Rattle.std.proofs.lemmas.Bool.{cases_Bool, and_parts}
use Rattle.cost.specs.declared.Cost.{Ghosts}
use Rattle.cost.specs.Columns.{AreWithin}
use Rattle.cost.specs.Weights.{weight}
use Rattle.assign.specs.Weighed.{weight_at}
use Rattle.assign.specs.declared.tree.Nearby.{Nearby}
use Rattle.assign.specs.Offers.{Offered, NearestWithKey}

-- one right block: it is of `to` if it is had and offered something, and of a part of that if b
-- holds
module _ {offered held to part : Bool} (b : Bool) (to_is : to ≡ (offered && held))
    (part_is : part ≡ (to && b)) where
  pub of_part : part ≡ true → (offered ≡ true) × (held ≡ true)
  of_part t = and_parts offered held (sym to_is ∙ (and_parts to b (sym part_is ∙ t)).0)

  pub out_of_part : held ≡ true → part ≡ false → (offered ≡ false) ⊎ (b ≡ false)
  out_of_part had f = grind (arith, nat_tests, cases_Bool offered, cases_Bool b)

-- the part `fresh` was not reached before, and the part `known` was
module _ (offered held reached to fresh known : ℕ → Bool)
    (to_is : (j : ℕ) → to j ≡ (offered j && held j))
    (fresh_is : (j : ℕ) → fresh j ≡ (to j && not (reached j)))
    (known_is : (j : ℕ) → known j ≡ (to j && reached j)) (c : ℕ) where
  pub offered_parts : {shift : ℤ} {cost : ℕ → ℤ} {from : ℕ} {d d₁ d₂ : ℕ → ℤ}
      {via via₁ via₂ : ℕ → ℕ}
      → Offered shift cost from fresh (λ _. false) d via d₁ via₁ c
      → Offered shift cost from known (λ _. true) d₁ via₁ d₂ via₂ c
      → Offered shift cost from (λ k. offered k && held k) reached d via d₂ via₂ c
  offered_parts first second =
      let e = to_is c in
      let a = fresh_is c in
      let b = known_is c in
      record {
        others = λ o. (grind (arith, nat_tests), grind (arith, nat_tests));
        change = λ t. grind (arith, nat_tests, cases_Bool (reached c));
        most = λ t. grind (arith, ints, nat_tests, cases_Bool (reached c));
        less = λ t r. grind (arith, ints, nat_tests);
      }

-- what was found of a set is the nearest of it, however the set and the distances are told
pub found_in : {K : Type 0} (kind : Ghosts K) (set set' : ℕ → Bool) (right : List K)
    (d d' : ℕ → List ℤ) (found : Option (Nearby K)) → ((c : ℕ) → set' c ≡ set c)
    → ((c : ℕ) → set c ≡ true → d' c ≡ d c)
    → MatchOption found ((c : ℕ) → set c ≡ false) (NearestWithKey kind set right d)
    → MatchOption found ((c : ℕ) → set' c ≡ false) (NearestWithKey kind set' right d')
found_in kind set set' right d d' None e same h = λ c. e c ∙ h c
found_in kind set set' right d d' (Some near) e same h =
    let here = same near.block h.nearest.member in
    record {
      inside = h.inside;
      nearest = record {
        member = e near.block ∙ h.nearest.member;
        least = λ c s. let t = sym (e c) ∙ s in
            let x : weight (d' c) ≡ weight (d c) = ap weight (same c t) in
            let y : weight (d' near.block) ≡ weight (d near.block) = ap weight here in
            omega (arith, ints, h.nearest.least c t);
      };
      key = h.key ∙ ap (λ z. weight z -ℤ weight_at kind right near.block) (sym here);
      bound = h.bound;
      reach = λ x y far. h.reach x y (subst (AreWithin x) here far);
    }
