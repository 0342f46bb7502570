-- Sums of integers over the numbers below n.
-- Idea: each law is an induction on n, and the step is linear arithmetic on the last summand.
use Rattle.std.proofs.Common.{◌≡◌, ℕ, zero, suc, ◌<◌, cond, eqb, ℤ, pos, ◌+ℤ◌, ◌≤ℤ◌, sym, refl, ap}
use Rattle.std.proofs.Common.{ap₂, inl, inr, arith}
use lib.Signed.{≤ℤ_refl}
use Rattle.std.proofs.lemmas.Int.{ints}
use Rattle.std.proofs.lemmas.Bool.{cases_eq, eq-eqb, ne_eqb, cond-true, cond-false}

abbrev pub sum_z : ℕ → (ℕ → ℤ) → ℤ
sum_z zero f = pos 0
sum_z (suc n) f = sum_z n f +ℤ f n

pub sum-le : (n : ℕ) (f g : ℕ → ℤ) → ((l : ℕ) → l < n → f l ≤ℤ g l) → sum_z n f ≤ℤ sum_z n g
sum-le zero f g h = ≤ℤ_refl (pos 0)
sum-le (suc n) f g h =
    omega (arith, ints, sum-le n f g (λ l k. h l (omega arith)), h n (omega arith))

pub sum_same : (n : ℕ) (f g : ℕ → ℤ) → ((l : ℕ) → l < n → f l ≡ g l) → sum_z n f ≡ sum_z n g
sum_same zero f g h = refl
sum_same (suc n) f g h = ap₂ ◌+ℤ◌ (sum_same n f g (λ l k. h l (omega arith))) (h n (omega arith))

pub sum_add : (n : ℕ) (f g : ℕ → ℤ) → sum_z n (λ l. f l +ℤ g l) ≡ sum_z n f +ℤ sum_z n g
sum_add zero f g = refl
sum_add (suc n) f g = omega (arith, ints, sum_add n f g)

pub sum-zero : (n : ℕ) → sum_z n (λ _. pos 0) ≡ pos 0
sum-zero zero = refl
sum-zero (suc n) = omega (arith, ints, sum-zero n)

-- two sums that agree, one below the other at each place, agree at each place
pub sum_tight : (n : ℕ) (f g : ℕ → ℤ) → ((l : ℕ) → l < n → f l ≤ℤ g l) → sum_z n g ≤ℤ sum_z n f
    → (l : ℕ) → l < n → f l ≡ g l
sum_tight zero f g h e l k = absurd (omega arith)
sum_tight (suc n) f g h e l k =
    let under = sum-le n f g (λ m j. h m (omega arith)) in
    let last = h n (omega arith) in
    elim (cases_eq l n) [
      | inl s ↦ rw s (omega (arith, ints))
      | inr d ↦ sum_tight n f g (λ m j. h m (omega arith)) (omega (arith, ints)) l (omega arith)
    ]

-- f with the value at x put to 0
abbrev pub without : ℕ → (ℕ → ℤ) → ℕ → ℤ
without x f r = cond (eqb r x) (pos 0) (f r)

pub sum_without : (n x : ℕ) (f : ℕ → ℤ) → x < n → sum_z n f ≡ f x +ℤ sum_z n (without x f)
sum_without zero x f h = absurd (omega arith)
sum_without (suc n) x f h =
    elim (cases_eq n x) [
      | inl s ↦
          let rest : sum_z n f ≡ sum_z n (without x f) =
          sum_same n f (without x f)
          (λ l k. sym (cond-false (eqb l x) (pos 0) (f l) (ne_eqb l x (omega arith)))) in
          let last : without x f n ≡ pos 0 = cond-true (eqb n x) (pos 0) (f n) (eq-eqb n x s) in
          let same : f n ≡ f x = ap f s in
          omega (arith, ints)
      | inr d ↦
          let last : without x f n ≡ f n = cond-false (eqb n x) (pos 0) (f n) (ne_eqb n x d) in
          omega (arith, ints, sum_without n x f (omega arith))
    ]
