-- What is said of the pairs that stand can be said by any other test that agrees on the blocks
-- there are.
-- Idea: every statement asks only about pairs of blocks below n, so one direction suffices: the
-- other is the same with the tests exchanged.
use Rattle.std.proofs.Common.{◌≡◌, ℕ, zero, suc, ◌+◌, ◌-◌, ◌<◌, Bool, ◌&&◌, ◌||◌, ◌↔◌, List, sym}
use Rattle.std.proofs.Common.{refl, ap, ◌∙◌, ap₂, arith}
use Rattle.std.specs.List.{range_with_len, list_any}
use Rattle.std.proofs.lemmas.Bool.Decides.{Decides-like}
use Rattle.blockset.specs.Sets.{members, bit}
use Rattle.blockset.proofs.Members.{members_like}
use Rattle.pairing.specs.Grid.{at, IsPerfect}
use Rattle.pairing.specs.Largest.{IsPartial, IsLargest, IsInCrowd, around, shortage, HasNoPerfect}
use Rattle.pairing.specs.Inside.{AreAlike}

pub alike_back : (n : ℕ) (s t : ℕ → ℕ → Bool) → AreAlike n s t → AreAlike n t s
alike_back n s t e l r i j = sym (e l r i j)

some_like : (C D : ℕ → Bool) (a n : ℕ) → ((k : ℕ) → k < a + n → C k ≡ D k)
    → list_any C (range_with_len a n) ≡ list_any D (range_with_len a n)
some_like C D a zero e = refl
some_like C D a (suc n) e = ap₂ ◌||◌ (e a (omega arith))
    (some_like C D (a + 1) n (λ k h. e k (omega arith)))

module _ (n : ℕ) (s t : ℕ → ℕ → Bool) (e : AreAlike n s t) where
  pub perfect_like : (p : List ℕ) → IsPerfect n s p → IsPerfect n t p
  perfect_like p h = record {
    len = h.len;
    below = h.below;
    standing = λ l i. sym (e l (at p l) i (h.below l i)) ∙ h.standing l i;
    once = h.once;
  }

  pub partial_like : (p : List ℕ) (out : ℕ → Bool) → IsPartial n s p out → IsPartial n t p out
  partial_like p out h = record {
    len = h.len;
    below = h.below;
    standing = λ l i f. sym (e l (at p l) i (h.below l i f)) ∙ h.standing l i f;
    once = h.once;
  }

  around_like : (X : ℕ → Bool) (r : ℕ) → r < n → around n s X r ≡ around n t X r
  around_like X r j = some_like (λ l. X l && s l r) (λ l. X l && t l r) 0 n
      (λ l i. ap (λ b. X l && b) (e l r (omega arith) j))

  pub shortage_like : (X : ℕ → Bool) → shortage n s X ≡ shortage n t X
  shortage_like X =
      ap (λ k. members n X - k) (members_like n (around n t X) (around n s X) (around_like X))

module _ (n : ℕ) (s t : ℕ → ℕ → Bool) (e : AreAlike n s t) where
  pub largest_like : (p : List ℕ) (out : ℕ → Bool) → IsLargest n s p out → IsLargest n t p out
  largest_like p out h = record {
    part = partial_like n s t e p out h.part;
    most = λ q out' k. h.most q out' (partial_like n t s (alike_back n s t e) q out' k);
  }

  pub crowd_like : (l : ℕ) → IsInCrowd n s l → IsInCrowd n t l
  crowd_like l h = record {
    pairing = h.pairing;
    out = h.out;
    largest = largest_like h.pairing h.out h.largest;
    inside = h.inside;
    left_out = h.left_out;
  }

module _ (n : ℕ) (s t : ℕ → ℕ → Bool) (e : AreAlike n s t) where
  pub perfect_alike : (p : List ℕ) → IsPerfect n s p ↔ IsPerfect n t p
  perfect_alike p = (perfect_like n s t e p, perfect_like n t s (alike_back n s t e) p)

  pub unpaired_like : (crowd short : ℕ) → HasNoPerfect n s crowd short
      → HasNoPerfect n t crowd short
  unpaired_like crowd short h = record {
    none = λ p k. h.none p (perfect_like n t s (alike_back n s t e) p k);
    crowd_set = λ l. Decides-like (bit crowd l) (crowd_like n s t e l)
        (crowd_like n t s (alike_back n s t e) l) (h.crowd_set l);
    shortage_is = sym (shortage_like n s t e (bit crowd)) ∙ h.shortage_is;
  }
