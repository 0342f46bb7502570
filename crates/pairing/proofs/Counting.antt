-- The one counting lemma: a pairing that gives n left blocks different right blocks below n reaches
-- every right block, so that a sum over the right blocks of the pairs is the sum over all right
-- blocks.
-- Idea: strike the right blocks off one by one as the left blocks take them. After m of them the
-- sum over all right blocks is the sum over the m taken plus the sum over those not yet struck off.
-- With n ones for the summands nothing is left after n steps.
use Rattle.std.proofs.Common.{◌≡◌, ℕ, zero, suc, ◌<◌, Bool, true, false, cond, ◌||◌, eqb, List, ℤ}
use Rattle.std.proofs.Common.{pos, ◌+ℤ◌, ◌≤ℤ◌, sym, refl, inl, inr, arith}
use Rattle.std.proofs.lemmas.Int.{ints}
use Rattle.std.proofs.lemmas.Bool.{cases_Bool, cond-true, cond-false, eqb-true, or_cases}
use Rattle.std.proofs.lemmas.Bool.{true≢false}
use Rattle.pairing.specs.Grid.{at, IsPerfect}
use Rattle.pairing.specs.Theorems.{GivenAlike}
use Rattle.pairing.proofs.Sums.{sum_z, sum_same, sum-zero, sum_tight, without, sum_without}

-- r is p l for some l below m
abbrev hit : (ℕ → ℕ) → ℕ → ℕ → Bool
hit p zero r = false
hit p (suc m) r = eqb r (p m) || hit p m r

hit_by : (p : ℕ → ℕ) (m r : ℕ) → hit p m r ≡ true → (l : ℕ) × (l < m) × (p l ≡ r)
hit_by p zero r h = absurd (true≢false (sym h))
hit_by p (suc m) r h =
    elim (or_cases (eqb r (p m)) (hit p m r) h) [
      | inl e ↦ (m, omega arith, sym (eqb-true r (p m) e))
      | inr k ↦ let w = hit_by p m r k in (w.0, omega arith, w.2)
    ]

-- f where p misses, and 0 where it hits
abbrev missed : (ℕ → ℕ) → ℕ → (ℕ → ℤ) → ℕ → ℤ
missed p m f r = cond (hit p m r) (pos 0) (f r)

cond_or : (a b : Bool) (x : ℤ) → cond a (pos 0) (cond b (pos 0) x) ≡ cond (a || b) (pos 0) x
cond_or true b x = refl
cond_or false b x = refl

struck : (n : ℕ) (p : ℕ → ℕ) (m : ℕ) → ((l : ℕ) → l < m → p l < n)
    → ((l k : ℕ) → l < m → k < m → p l ≡ p k → l ≡ k) → (f : ℕ → ℤ)
    → sum_z n f ≡ sum_z m (λ l. f (p l)) +ℤ sum_z n (missed p m f)
struck n p zero below once f = omega (arith, ints)
struck n p (suc m) below once f =
    let before = struck n p m (λ l h. below l (omega arith))
    (λ l k i j. once l k (omega arith) (omega arith)) f in
    let taken = sum_without n (p m) (missed p m f) (below m (omega arith)) in
    let fresh : hit p m (p m) ≡ false =
    elim (cases_Bool (hit p m (p m))) [
      | inl h ↦ let w = hit_by p m (p m) h in
          absurd (omega (arith, once w.0 m (omega arith) (omega arith) w.2))
      | inr h ↦ h
    ] in
    let here : missed p m f (p m) ≡ f (p m) = cond-false (hit p m (p m)) (pos 0) (f (p m)) fresh in
    let rest = sum_same n (without (p m) (missed p m f)) (missed p (suc m) f)
    (λ r h. cond_or (eqb r (p m)) (hit p m r) (f r)) in
    omega (arith, ints)

module _ (n : ℕ) (stands : ℕ → ℕ → Bool) (p : List ℕ) (h : IsPerfect n stands p) where
  all_hit : (r : ℕ) → r < n → hit (at p) n r ≡ true
  all_hit r i =
      let e = struck n (at p) n h.below h.once (λ _. pos 1) in
      let none : sum_z n (missed (at p) n (λ _. pos 1)) ≤ℤ sum_z n (λ _. pos 0) =
      omega (arith, ints, sum-zero n) in
      let zero-here = sum_tight n (λ _. pos 0) (missed (at p) n (λ _. pos 1))
      (λ l k. grind (arith, ints)) none r i in
      grind arith

  -- each right block is some left block's
  pub onto : (r : ℕ) → r < n → (l : ℕ) × (l < n) × (at p l ≡ r)
  onto r i = hit_by (at p) n r (all_hit r i)

  pub sum_shuffle : (f : ℕ → ℤ) → sum_z n (λ l. f (at p l)) ≡ sum_z n f
  sum_shuffle f =
      let gone = sum_same n (missed (at p) n f) (λ _. pos 0)
      (λ r i. cond-true (hit (at p) n r) (pos 0) (f r) (all_hit r i)) in
      omega (arith, ints, struck n (at p) n h.below h.once f, sum-zero n)

-- ---- as many left blocks are given a right block of a set by one perfect pairing as by another

abbrev one_if : Bool → ℤ
one_if b = cond b (pos 1) (pos 0)

implies_le : (a b : Bool) → (a ≡ true → b ≡ true) → one_if a ≤ℤ one_if b
implies_le a b h = grind (arith, ints)

same_if : (a b : Bool) → one_if a ≡ one_if b → a ≡ b
same_if a b e = grind arith

module _ (n : ℕ) (stands stands' : ℕ → ℕ → Bool) (p q : List ℕ) (h : IsPerfect n stands p)
    (k : IsPerfect n stands' q) (C : ℕ → Bool)
    (more : (l : ℕ) → l < n → C (at p l) ≡ true → C (at q l) ≡ true) where
  given_same : (l : ℕ) → l < n → C (at p l) ≡ C (at q l)
  given_same l i =
      let sp = sum_shuffle n stands p h (λ r. one_if (C r)) in
      let sq = sum_shuffle n stands' q k (λ r. one_if (C r)) in
      let e = sum_tight n (λ m. one_if (C (at p m))) (λ m. one_if (C (at q m)))
      (λ m j. implies_le (C (at p m)) (C (at q m)) (more m j)) (omega (arith, ints)) l i in
      same_if (C (at p l)) (C (at q l)) e

pub given_alike : GivenAlike
given_alike = record {
  alike = given_same;
  closed = λ n tight p q h k C shut. given_same n tight tight p q h k C
      (λ l i t. shut l (at q l) i (k.below l i) t (k.standing l i));
}
