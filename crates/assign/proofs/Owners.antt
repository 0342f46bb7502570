-- Distances of right blocks that stand at the left blocks that have them.
-- Idea: each right block that is had has a left block of its own. So a write at one of these left
-- blocks changes the distance of its right block, and of no other.
use Rattle.std.proofs.Common.{◌≡◌, ℕ, true, false, List, [], length, set, cond, get_or}
use Rattle.std.proofs.Common.{sym, ap, ◌∙◌, subst, ⊎_elim, ◌<◌}
use Rattle.std.proofs.lemmas.Bool.{cases_Bool}
use Rattle.cost.specs.declared.Cost.{Ghosts}
use Rattle.blockset.specs.Has.{has}
use Rattle.pairing.specs.Grid.{at}
use Rattle.matching.specs.declared.chains.Holders.{Holders}
use Rattle.tables.specs.Said.{columns_at}
use Rattle.tables.proofs.Filling.{value_at}
use Rattle.assign.specs.Offers.{distances, HaveOwners}
use Rattle.assign.proofs.Entries.{put_same, put_other}

module _ {K : Type 0} (kind : Ghosts K) (holders : Holders) (dist : List K) (c : ℕ) where
  pub distance_is : has holders.held c ≡ true
      → distances kind holders dist c ≡ columns_at kind dist (at holders.owner c)
  distance_is had = ap (λ z. cond z (columns_at kind dist (at holders.owner c)) []) had

  -- one that is free has none
  pub no_distance : has holders.held c ≡ false → distances kind holders dist c ≡ []
  no_distance free = ap (λ z. cond z (columns_at kind dist (at holders.owner c)) []) free

-- x is a value of the left block that has c
module _ {K : Type 0} (kind : Ghosts K) {holders : Holders} {n : ℕ} (owners : HaveOwners n holders)
    (dist : List K) (long : length dist ≡ n) (c : ℕ) (had : has holders.held c ≡ true) (x : K) where
  below : at holders.owner c < length dist
  below = subst (λ (z : ℕ). at holders.owner c < z) (sym long) (owners.below c had)

  -- it was read there
  pub known_at : x ≡ get_or dist (at holders.owner c) x
      → kind.meaning x ≡ distances kind holders dist c
  known_at e = value_at kind dist (at holders.owner c) x below e
      ∙ sym (distance_is kind holders dist c had)

  -- it is written there
  pub store_same : distances kind holders (set dist (at holders.owner c) x) c ≡ kind.meaning x
  store_same = distance_is kind holders (set dist (at holders.owner c) x) c had
      ∙ put_same kind dist (at holders.owner c) x below

  pub store_other : (j : ℕ) → (j ≡ c → ⊥)
      → distances kind holders (set dist (at holders.owner c) x) j ≡ distances kind holders dist j
  store_other j ne =
      let dist' = set dist (at holders.owner c) x in
      ⊎_elim
      (λ (h : has holders.held j ≡ true). distance_is kind holders dist' j h
      ∙ put_other kind dist (at holders.owner c) (at holders.owner j) x
      (λ e. ne (owners.apart j c h had e)) ∙ sym (distance_is kind holders dist j h))
      (λ (f : has holders.held j ≡ false). no_distance kind holders dist' j f
      ∙ sym (no_distance kind holders dist j f))
      (cases_Bool (has holders.held j))
