-- A search over all right blocks that goes on as its tables do, when a left block is looked at.
-- Idea: the tables tell the distances of the right blocks that are had. Of the free ones they keep
-- the nearest alone; but the search that they are part of takes the offer to each free right block
-- too, where it is less than the distance that it had. No tables hold these distances, and none are
-- needed: a free one that is offered less than the nearest has is the nearest then.
use Rattle.std.proofs.Common.{◌≡◌, ℕ, Bool, true, false, ◌&&◌, ◌||◌, ◌⊎◌, List, ℤ, ◌+ℤ◌, ◌<ℤ◌}
use Rattle.std.proofs.Common.{◌≤ℤ◌}
use Rattle.std.proofs.Common.{Option, Some, None, IfSome, MatchOption, sym, refl, ap, ◌∙◌}
use Rattle.std.proofs.Common.{inl, inr, ⊎_elim, arith}
use Rattle.std.proofs.Math.Bool.{and-false}
use Rattle.std.proofs.lemmas.Int.{ints, by_lt_z}
use Rattle.std.proofs.lemmas.Bool.{cases_Bool, both_ways, and_from, and_left, or_cases}
use Rattle.cost.specs.declared.Cost.{Ghosts}
use Rattle.cost.specs.Weights.{weight}
use Rattle.blockset.specs.Has.{has}
use Rattle.pairing.specs.Grid.{at}
use Rattle.matching.specs.declared.chains.Holders.{Holders}
use Rattle.assign.specs.declared.search.Offer.{Offer}
use Rattle.assign.specs.declared.tree.Nearby.{Nearby}
use Rattle.assign.specs.Weighed.{weight_at}
use Rattle.assign.specs.Offers.{Offered, IsOffered, IsFreeOffered, IsNearerOffer, distances}
use Rattle.assign.specs.Trees.{Tells, IsFreeSeen, IsNearestFree, HasFree}

-- x and y are the distance and the left block that an offer leaves at right block c: the tables
-- tell them where it is had, and a free one that is reached takes only what is less
pub record IsPicked (shift : ℤ) (cost : ℕ → ℤ) (from : ℕ) (to reached held : ℕ → Bool)
    (d : ℕ → ℤ) (via : ℕ → ℕ) (d' : ℕ → ℤ) (via' : ℕ → ℕ) (c : ℕ) (x : ℤ) (y : ℕ) : Type 0 where
  pub offered : Offered shift cost from to reached d via (λ _. x) (λ _. y) c
  pub told : held c ≡ true → to c ≡ true → (x ≡ d' c) × (y ≡ via' c)
  pub less : held c ≡ false → to c ≡ true
      → ((reached c ≡ true) × (x ≡ d c) × (y ≡ via c)) ⊎ ((x ≡ shift +ℤ cost c) × (y ≡ from)
      × (reached c ≡ true → x <ℤ d c))

module _ (shift : ℤ) (cost : ℕ → ℤ) (from : ℕ) (to reached held : ℕ → Bool) (d : ℕ → ℤ)
    (via : ℕ → ℕ) (d' : ℕ → ℤ) (via' : ℕ → ℕ) (c : ℕ) where
  abbrev Picked : ℤ → ℕ → Type 0
  Picked = IsPicked shift cost from to reached held d via d' via' c

  -- c is offered nothing
  stays : to c ≡ false → Picked (d c) (via c)
  stays f = record {
    offered = record {
      others = λ _. (refl, refl);
      change = λ t. absurd (both_ways (to c) f t);
      most = λ t. absurd (both_ways (to c) f t);
      less = λ t. absurd (both_ways (to c) f t);
    };
    told = λ _ t. absurd (both_ways (to c) f t);
    less = λ _ t. absurd (both_ways (to c) f t);
  }

  -- it is free, and keeps a distance that is no greater
  keeps : to c ≡ true → held c ≡ false → reached c ≡ true → d c ≤ℤ (shift +ℤ cost c)
      → Picked (d c) (via c)
  keeps t free r le = record {
    offered = record {
      others = λ f. (refl, refl);
      change = λ _. inl (r, refl, refl);
      most = λ _. le;
      less = λ _ _. omega (arith, ints);
    };
    told = λ h. absurd (both_ways (held c) free h);
    less = λ _ _. inl (r, refl, refl);
  }

  -- it is free, and takes the offer
  takes : to c ≡ true → held c ≡ false → (reached c ≡ true → (shift +ℤ cost c) <ℤ d c)
      → Picked (shift +ℤ cost c) from
  takes t free less = record {
    offered = record {
      others = λ f. absurd (both_ways (to c) f t);
      change = λ _. inr (refl, refl);
      most = λ _. omega (arith, ints);
      less = λ _ r. omega (arith, ints, less r);
    };
    told = λ h. absurd (both_ways (held c) free h);
    less = λ _ _. inr (refl, refl, less);
  }

  -- it is had, and the tables tell
  as_told : to c ≡ true → held c ≡ true
      → Offered shift cost from to reached d via (λ _. d' c) (λ _. via' c) c
      → Picked (d' c) (via' c)
  as_told t had offered = record {
    offered = offered;
    told = λ _ _. (refl, refl);
    less = λ f. absurd (both_ways (held c) f had);
  }

  pub pick : (held c ≡ true → to c ≡ true
      → Offered shift cost from to reached d via (λ _. d' c) (λ _. via' c) c)
      → (x : ℤ) × (y : ℕ) × Picked x y
  pick told = ⊎_elim
      (λ (t : to c ≡ true). ⊎_elim
      (λ (h : held c ≡ true). (d' c, via' c, as_told t h (told h t)))
      (λ (f : held c ≡ false). ⊎_elim
      (λ (r : reached c ≡ true). by_lt_z (shift +ℤ cost c) (d c)
      (λ lt. (shift +ℤ cost c, from, takes t f (λ _. lt)))
      (λ le. (d c, via c, keeps t f r le)))
      (λ (n : reached c ≡ false). (
        shift +ℤ cost c,
        from,
        takes t f (λ r. absurd (both_ways (reached c) n r)),
      ))
      (cases_Bool (reached c)))
      (cases_Bool (held c)))
      (λ (f : to c ≡ false). (d c, via c, stays f))
      (cases_Bool (to c))

-- the tables before and after left block `offer.from` is looked at, and a search that they told of
-- before
pub record IsLook {K : Type 0} (kind : Ghosts K) (holders : Holders) (right dist dist' : List K)
    (offer : Offer K) (seen : ℕ → Bool) (via via₁ via' : List ℕ) (free free' : Option (Nearby K))
    (d : ℕ → ℤ) (came : ℕ → ℕ) : Type 0 where
  pub tells : Tells kind holders right dist seen via free d came
  pub known : HasFree kind holders right seen free
  pub found : MatchOption free' ((free ≡ None) × (via₁ ≡ via)
      × ((c : ℕ) → has offer.to c ≡ true → has holders.held c ≡ true))
      (IsFreeOffered kind offer (has holders.held) right free via via₁)
  pub made : (c : ℕ) → IsOffered kind offer (λ k. has offer.to k && has holders.held k) seen
      (distances kind holders dist) (distances kind holders dist') via₁ via' c

module _ {K : Type 0} {kind : Ghosts K} {holders : Holders} {right dist dist' : List K}
    {offer : Offer K} {seen : ℕ → Bool} {via via₁ via' : List ℕ} {free free' : Option (Nearby K)}
    {d : ℕ → ℤ} {came : ℕ → ℕ}
    (look : IsLook kind holders right dist dist' offer seen via via₁ via' free free' d came) where
  abbrev held : ℕ → Bool
  held = has holders.held

  abbrev to : ℕ → Bool
  to = has offer.to

  abbrev way : ℕ → ℤ
  way c = weight (kind.meaning offer.shift) +ℤ weight_at kind offer.costs.now c

  -- where a right block that is had was reached from is as it was before the free ones were offered
  via_same : (c : ℕ) → held c ≡ true → at via₁ c ≡ at via c
  via_same c h = same free' look.found
    where
      same : (r : Option (Nearby K)) → MatchOption r ((free ≡ None) × (via₁ ≡ via)
          × ((c : ℕ) → to c ≡ true → held c ≡ true))
          (IsFreeOffered kind offer held right free via via₁) → at via₁ c ≡ at via c
      same None w = ap (λ z. at z c) w.1
      same (Some near) w = ⊎_elim (λ x. ap (λ z. at z c) x.1)
          (λ x. x.others c (λ e. both_ways (held c) (ap held e ∙ x.free) h)) w.choice

  told : (c : ℕ) → held c ≡ true → to c ≡ true
      → Offered (weight (kind.meaning offer.shift)) (weight_at kind offer.costs.now) offer.from to
      seen d came (λ _. weight (distances kind holders dist' c)) (λ _. at via' c) c
  told c h t =
      let m = look.made c in
      let both = and_from (to c) (held c) t h in
      record {
        others = λ f. absurd (both_ways (to c) f t);
        change = λ _. ⊎_elim
            (λ w. inl (
              w.0,
              w.1 ∙ sym (look.tells.dist c w.0 h),
              w.2 ∙ via_same c h ∙ sym (look.tells.via c w.0 h),
            ))
            inr (m.change both);
        most = λ _. m.most both;
        less = λ _ r. omega (arith, ints, m.less both r, look.tells.dist c r h);
      }

  pub picked : (c : ℕ) → (x : ℤ) × (y : ℕ) × IsPicked (weight (kind.meaning offer.shift))
      (weight_at kind offer.costs.now) offer.from to seen held d came
      (λ k. weight (distances kind holders dist' k)) (at via') c x y
  picked c = pick (weight (kind.meaning offer.shift)) (weight_at kind offer.costs.now) offer.from to
      seen held d came (λ k. weight (distances kind holders dist' k)) (at via') c (told c)

  -- the search after it: its distances, and from where each right block was reached
  abbrev pub dist_then : ℕ → ℤ
  dist_then c = (picked c).0

  abbrev pub via_then : ℕ → ℕ
  via_then c = (picked c).1

  pub then_offered : (c : ℕ) → Offered (weight (kind.meaning offer.shift))
      (weight_at kind offer.costs.now) offer.from to seen d came dist_then via_then c
  then_offered c = let w = (picked c).2.offered in
      record { others = w.others; change = w.change; most = w.most; less = w.less }

  module _ (seen' : ℕ → Bool) (joined : (c : ℕ) → seen' c ≡ (seen c || to c))
    where
      was_seen : (c : ℕ) → seen' c ≡ true → to c ≡ false → seen c ≡ true
      was_seen c r f = ⊎_elim (λ x. x) (λ x. absurd (both_ways (to c) f x))
          (or_cases (seen c) (to c) (sym (joined c) ∙ r))

      -- no free right block is nearer than the nearest one was, or than it is offered to be
      far_enough : (k : ℤ)
          → ((c : ℕ) → seen c ≡ true → held c ≡ false → (k +ℤ weight_at kind right c) ≤ℤ d c)
          → ((c : ℕ) → to c ≡ true → held c ≡ false → (k +ℤ weight_at kind right c) ≤ℤ way c)
          → (c : ℕ) → seen' c ≡ true → held c ≡ false
          → (k +ℤ weight_at kind right c) ≤ℤ dist_then c
      far_enough k before now c r f = ⊎_elim
          (λ (t : to c ≡ true). ⊎_elim
          (λ w. omega (arith, ints, before c w.0 f, w.1))
          (λ w. omega (arith, ints, now c t f, w.0))
          ((then_offered c).change t))
          (λ (n : to c ≡ false). omega
          (arith, ints, before c (was_seen c r n) f, ((then_offered c).others n).0))
          (cases_Bool (to c))

      -- what is nearer than the nearest free one is nearer than all
      nearer_than : (k : ℤ) → (f : Option (Nearby K)) → HasFree kind holders right seen f
          → IfSome f (IsNearestFree kind holders right seen via d came)
          → IfSome f (λ old. k <ℤ weight (kind.meaning old.key)) → (c : ℕ) → seen c ≡ true
          → held c ≡ false → (k +ℤ weight_at kind right c) <ℤ d c
      nearer_than k None none _ _ c r f = absurd (both_ways (held c) f (none c r))
      nearer_than k (Some old) _ near less c r f = omega (arith, ints, near.least c r f, less)

      -- where a free right block was reached from is as it was after the free ones were offered
      via_kept : (c : ℕ) → held c ≡ false → at via' c ≡ at via₁ c
      via_kept c f = ((look.made c).others (ap (λ z. to c && z) f ∙ and-false (to c))).1

      -- the nearest one that stays is offered no less than it has
      stays_nearest : (near : Nearby K) → IsFreeOffered kind offer held right free via via₁ near
          → IsFreeSeen kind holders right seen near
          → IsNearestFree kind holders right seen via d came near → via₁ ≡ via
          → IsNearestFree kind holders right seen' via' dist_then via_then near
      stays_nearest near w is old unchanged =
          let b = near.block in
          let same : (dist_then near.block ≡ d near.block)
          × (via_then near.block ≡ came near.block) = ⊎_elim
          (λ (t : to near.block ≡ true). ⊎_elim (λ x. (x.1, x.2))
          (λ x. let y = x.2 is.seen in let z = w.least b t is.free in
          absurd (omega (arith, ints, y, z, x.0, old.dist)))
          ((picked b).2.less is.free t))
          (λ (n : to near.block ≡ false). (then_offered b).others n) (cases_Bool (to b)) in
          record {
            dist = same.0 ∙ old.dist;
            via = same.1 ∙ old.via ∙ sym (ap (λ z. at z b) unchanged) ∙ sym (via_kept b is.free);
            least = far_enough (weight (kind.meaning near.key)) old.least w.least;
          }

      -- one that is nearer takes what it is offered
      takes_nearest : (near : Nearby K) → IsFreeOffered kind offer held right free via via₁ near
          → IsNearerOffer kind offer held right free via via₁ near
          → IsNearestFree kind holders right seen' via' dist_then via_then near
      takes_nearest near w new =
          let b = near.block in
          let k = weight (kind.meaning near.key) in
          let all = nearer_than k free look.known look.tells.nearest new.less in
          let took : (dist_then near.block ≡ way near.block) × (via_then near.block ≡ offer.from) =
          ⊎_elim
          (λ x. let y = all b x.0 new.free in let z = (then_offered b).most new.member in
          absurd (omega (arith, ints, x.1, y, z, new.key)))
          (λ x. (x.0, x.1)) ((picked b).2.less new.free new.member) in
          record {
            dist = took.0 ∙ sym new.key;
            via = took.1 ∙ sym new.from ∙ sym (via_kept b new.free);
            least = far_enough k (λ c r f. let y = all c r f in omega (arith, ints, y)) w.least;
          }

      nearest_then : (r : Option (Nearby K)) → MatchOption r ((free ≡ None) × (via₁ ≡ via)
          × ((c : ℕ) → to c ≡ true → held c ≡ true))
          (IsFreeOffered kind offer held right free via via₁)
          → IfSome r (IsNearestFree kind holders right seen' via'
          dist_then via_then)
      nearest_then None w = tt
      nearest_then (Some near) w = ⊎_elim
          (λ same. stays_nearest near w (rw same.0 at look.known) (rw same.0 at look.tells.nearest)
          same.1)
          (λ new. takes_nearest near w new) w.choice

      pub then_tells : Tells kind holders right dist' seen' via' free'
          dist_then via_then
      then_tells = record {
        dist = λ c r h. ⊎_elim
            (λ (t : to c ≡ true). ((picked c).2.told h t).0)
            (λ (n : to c ≡ false). ((then_offered c).others n).0
            ∙ look.tells.dist c (was_seen c r n) h
            ∙ sym ((look.made c).others (and_left (to c) (held c) n)).0)
            (cases_Bool (to c));
        via = λ c r h. ⊎_elim
            (λ (t : to c ≡ true). ((picked c).2.told h t).1)
            (λ (n : to c ≡ false). ((then_offered c).others n).1
            ∙ look.tells.via c (was_seen c r n) h ∙ sym (via_same c h)
            ∙ sym ((look.made c).others (and_left (to c) (held c) n)).1)
            (cases_Bool (to c));
        nearest = nearest_then free' look.found;
      }
