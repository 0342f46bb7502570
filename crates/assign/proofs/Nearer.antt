-- The nearest right block of a set, from the nearest of its free and of its held ones, or from the
-- nearest of any part of it and of the others.
-- Idea: each right block of the set is free or held, and so at least as far as the nearest of its
-- part. The free one is taken unless the held one is nearer. Any part stands for the free ones.
use Rattle.std.proofs.Common.{◌≡◌, ℕ, Bool, true, false, not, ◌&&◌, ℤ, ◌+ℤ◌, ◌≤ℤ◌, ◌<ℤ◌}
use Rattle.std.proofs.Common.{List, refl, sym, ◌∙◌, subst, ⊎_elim, arith, Option, Some, None}
use Rattle.std.proofs.Common.{MatchOption, inl, inr}
use Rattle.std.proofs.lemmas.Int.{ints}
use Rattle.std.proofs.lemmas.Bool.{and_parts, and_from, cases_Bool, both_ways, not-true}
use Rattle.std.proofs.lemmas.Bool.{not_from_false}
use Rattle.std.proofs.Math.Bool.{and-false}
use Rattle.cost.specs.declared.Cost.{Ghosts}
use Rattle.cost.specs.Weights.{weight}
use Rattle.assign.specs.declared.tree.Nearby.{Nearby}
use Rattle.assign.specs.Weighed.{weight_at}
use Rattle.assign.specs.Offers.{NearestWithKey, FreeFirst, Nearer}

module _ {K : Type 0} (kind : Ghosts K) (set held free other : ℕ → Bool)
    (free_is : (j : ℕ) → free j ≡ (set j && not (held j)))
    (other_is : (j : ℕ) → other j ≡ (set j && held j)) (right : List K) (d : ℕ → List ℤ) where
  abbrev v : ℕ → ℤ
  v = weight_at kind right

  abbrev w : ℕ → ℤ
  w = λ c. weight (d c)

  in_free : (c : ℕ) → set c ≡ true → held c ≡ false → free c ≡ true
  in_free c s f = free_is c ∙ and_from (set c) (not (held c)) s (not_from_false (held c) f)

  in_other : (c : ℕ) → set c ≡ true → held c ≡ true → other c ≡ true
  in_other c s t = other_is c ∙ and_from (set c) (held c) s t

  was_free : (c : ℕ) → free c ≡ true → (set c ≡ true) × (held c ≡ false)
  was_free c t = let x = and_parts (set c) (not (held c)) (sym (free_is c) ∙ t) in
      (x.0, not-true (held c) x.1)

  was_other : (c : ℕ) → other c ≡ true → (set c ≡ true) × (held c ≡ true)
  was_other c t = and_parts (set c) (held c) (sym (other_is c) ∙ t)

  abbrev pub Found : Nearby K → Type 0
  Found near = NearestWithKey kind set right d near
      × FreeFirst set held (weight_at kind right) (λ c. weight (d c)) near.block

  -- the nearest free one is the nearest of all if no held one is nearer
  free_found : (a : Nearby K) → NearestWithKey kind free right d a
      → ((c : ℕ) → set c ≡ true → held c ≡ true → (w a.block +ℤ v c) ≤ℤ (w c +ℤ v a.block))
      → Found a
  free_found a h le = (
    record {
      inside = h.inside;
      nearest = record {
        member = (was_free a.block h.nearest.member).0;
        least = λ c s. ⊎_elim (λ (t : held c ≡ true). le c s t)
            (λ (f : held c ≡ false). h.nearest.least c (in_free c s f)) (cases_Bool (held c));
      };
      key = h.key;
      bound = h.bound;
      reach = h.reach;
    },
    λ t. absurd (both_ways (held a.block) (was_free a.block h.nearest.member).1 t),
  )

  -- the nearest held one is the nearest of all if each free one is farther
  other_found : (b : Nearby K) → NearestWithKey kind other right d b
      → ((c : ℕ) → set c ≡ true → held c ≡ false → (w b.block +ℤ v c) <ℤ (w c +ℤ v b.block))
      → Found b
  other_found b h less = (
    record {
      inside = h.inside;
      nearest = record {
        member = (was_other b.block h.nearest.member).0;
        least = λ c s. ⊎_elim (λ (t : held c ≡ true). h.nearest.least c (in_other c s t))
            (λ (f : held c ≡ false). omega (arith, ints, less c s f)) (cases_Bool (held c));
      };
      key = h.key;
      bound = h.bound;
      reach = h.reach;
    },
    λ t c s f. less c s f,
  )

  pub nearer_found : (a b r : Option (Nearby K))
      → MatchOption a ((c : ℕ) → free c ≡ false) (NearestWithKey kind free right d)
      → MatchOption b ((c : ℕ) → other c ≡ false) (NearestWithKey kind other right d)
      → Nearer kind a b r → MatchOption r ((c : ℕ) → set c ≡ false) Found
  nearer_found None None r f h e = subst (λ z. MatchOption z ((c : ℕ) → set c ≡ false) Found)
      (sym e)
      (λ c. ⊎_elim (λ (s : set c ≡ true). absurd (⊎_elim
      (λ (t : held c ≡ true). both_ways (other c) (h c) (in_other c s t))
      (λ (n : held c ≡ false). both_ways (free c) (f c) (in_free c s n)) (cases_Bool (held c))))
      (λ (n : set c ≡ false). n) (cases_Bool (set c)))
  nearer_found None (Some b) r f h e = subst
      (λ z. MatchOption z ((c : ℕ) → set c ≡ false) Found) (sym e)
      (other_found b h (λ c s n. absurd (both_ways (free c) (f c) (in_free c s n))))
  nearer_found (Some a) None r f h e = subst
      (λ z. MatchOption z ((c : ℕ) → set c ≡ false) Found) (sym e)
      (free_found a f (λ c s t. absurd (both_ways (other c) (h c) (in_other c s t))))
  nearer_found (Some a) (Some b) r f h (inl e) = subst
      (λ z. MatchOption z ((c : ℕ) → set c ≡ false) Found) (sym e.0)
      (free_found a f (λ c s t. omega
      (arith, ints, e.1, f.key, h.key, h.nearest.least c (in_other c s t))))
  nearer_found (Some a) (Some b) r f h (inr e) = subst
      (λ z. MatchOption z ((c : ℕ) → set c ≡ false) Found) (sym e.0)
      (other_found b h (λ c s n. omega
      (arith, ints, e.1, f.key, h.key, f.nearest.least c (in_free c s n))))

-- a part of the set and the others of it: nothing more is asked than which one is nearest
module _ {K : Type 0} (kind : Ghosts K) (set part other : ℕ → Bool)
    (within : (j : ℕ) → part j ≡ true → set j ≡ true)
    (other_is : (j : ℕ) → other j ≡ (set j && not (part j))) (right : List K)
    (d : ℕ → List ℤ) where
  part_is : (j : ℕ) → part j ≡ (set j && not (not (part j)))
  part_is j = ⊎_elim
      (λ (t : part j ≡ true). rw (t, within j t) refl)
      (λ (f : part j ≡ false). rw f (sym (and-false (set j))))
      (cases_Bool (part j))

  nearest_of : (r : Option (Nearby K)) → MatchOption r ((c : ℕ) → set c ≡ false)
      (λ near. NearestWithKey kind set right d near × FreeFirst set (λ j. not (part j))
      (weight_at kind right) (λ c. weight (d c)) near.block)
      → MatchOption r ((c : ℕ) → set c ≡ false) (NearestWithKey kind set right d)
  nearest_of None h = h
  nearest_of (Some a) h = h.0

  pub nearest_parts : (a b r : Option (Nearby K))
      → MatchOption a ((c : ℕ) → part c ≡ false) (NearestWithKey kind part right d)
      → MatchOption b ((c : ℕ) → other c ≡ false) (NearestWithKey kind other right d)
      → Nearer kind a b r
      → MatchOption r ((c : ℕ) → set c ≡ false) (NearestWithKey kind set right d)
  nearest_parts a b r f h e = nearest_of r (nearer_found kind set (λ j. not (part j)) part other
      part_is other_is right d a b r f h e)
