-- The bits of a number: of masks and shifts, the lowest one, and how many there are.
-- Idea: a number is its last bit and half of it, so an induction over the place of the bit, or over
-- the width, halves once.
use Rattle.std.proofs.Common.{◌≡◌, ℕ, zero, suc, ◌-◌, ◌/◌, ◌%◌, ◌^◌, ◌<◌, ◌≤◌, min, max, Bool}
use Rattle.std.proofs.Common.{true, false, cond, not, ◌&&◌, ◌||◌, eqb, ltb, sym, refl, ap, ◌∙◌}
use Rattle.std.proofs.Common.{pow-suc, arith}
use lib.Bits.{bit_and, bit_or, and_step, or_step}
use lib.Count.{ones, ones_step, count_trailing_zeros, under}
use Rattle.std.proofs.lemmas.Nat.{pow_pos, shr-shr}
use Rattle.std.proofs.lemmas.Bool.Decides.{nat_tests}
use Rattle.std.proofs.lemmas.Bool.{both_ways, eqb-true, eqb-false, ne_eqb, le-ltb, lt-ltb}
use Rattle.blockset.specs.Sets.{bit, members}

low_or : (x y : ℕ) → x < 2 → y < 2 → eqb (max x y) 1 ≡ (eqb x 1 || eqb y 1)
low_or x y h k = grind (arith, nat_tests)

low_and : (x y : ℕ) → x < 2 → y < 2 → eqb (min x y) 1 ≡ (eqb x 1 && eqb y 1)
low_and x y h k = grind (arith, nat_tests)

pub bit-or : (a b i : ℕ) → bit (bit_or a b) i ≡ (bit a i || bit b i)
unfolding bit
bit-or a b zero =
    let e : bit_or a b % 2 ≡ max (a % 2) (b % 2) = omega (arith, or_step a b) in
    ap (λ x. eqb x 1) e ∙ low_or (a % 2) (b % 2) (omega arith) (omega arith)
bit-or a b (suc i) =
    let e : bit_or a b / 2 ≡ bit_or (a / 2) (b / 2) = omega (arith, or_step a b) in
    ap (λ x. bit x i) e ∙ bit-or (a / 2) (b / 2) i

pub bit-and : (a b i : ℕ) → bit (bit_and a b) i ≡ (bit a i && bit b i)
unfolding bit
bit-and a b zero =
    let e : bit_and a b % 2 ≡ min (a % 2) (b % 2) = omega (arith, and_step a b) in
    ap (λ x. eqb x 1) e ∙ low_and (a % 2) (b % 2) (omega arith) (omega arith)
bit-and a b (suc i) =
    let e : bit_and a b / 2 ≡ bit_and (a / 2) (b / 2) = omega (arith, and_step a b) in
    ap (λ x. bit x i) e ∙ bit-and (a / 2) (b / 2) i

pub bit-zero : (i : ℕ) → bit 0 i ≡ false
unfolding bit
bit-zero zero = refl
bit-zero (suc i) = bit-zero i

pub bit-pow : (i j : ℕ) → bit (2 ^ i) j ≡ eqb j i
unfolding bit
bit-pow zero zero = refl
bit-pow zero (suc j) = bit-zero j ∙ sym (ne_eqb (suc j) 0 (λ e. omega arith))
bit-pow (suc i) zero = let e : 2 ^ suc i % 2 ≡ 0 = omega (arith, pow-suc 2 i) in ap (λ x. eqb x 1) e
    ∙ sym (ne_eqb 0 (suc i) (λ e. omega arith))
bit-pow (suc i) (suc j) = let e : 2 ^ suc i / 2 ≡ 2 ^ i = omega (arith, pow-suc 2 i) in
    ap (λ x. bit x j) e ∙ bit-pow i j ∙ grind (arith, nat_tests)

pub bit_ones : (n j : ℕ) → bit (2 ^ n - 1) j ≡ ltb j n
unfolding bit
bit_ones zero j = bit-zero j ∙ sym (le-ltb j 0 (omega arith))
bit_ones (suc n) zero = let e : (2 ^ suc n - 1) % 2 ≡ 1 = omega (arith, pow-suc 2 n, pow_pos n) in
    ap (λ x. eqb x 1) e ∙ sym (lt-ltb 0 (suc n) (omega arith))
bit_ones (suc n) (suc j) = let e : (2 ^ suc n - 1) / 2 ≡ 2 ^ n - 1 =
    omega (arith, pow-suc 2 n, pow_pos n) in ap (λ x. bit x j) e ∙ bit_ones n j
    ∙ grind (arith, nat_tests)

-- above the bits of m
pub bit_past : (w m i : ℕ) → m < 2 ^ w → w ≤ i → bit m i ≡ false
unfolding bit
bit_past zero m i h l = let e : m ≡ 0 = omega arith in ap (λ x. bit x i) e ∙ bit-zero i
bit_past (suc w) m zero h l = absurd (omega arith)
bit_past (suc w) m (suc i) h l = bit_past w (m / 2) i (omega (arith, pow-suc 2 w)) (omega arith)

low_not : (x : ℕ) → x < 2 → eqb (1 - x) 1 ≡ not (eqb x 1)
low_not x h = grind (arith, nat_tests)

pub bit_not : (w m i : ℕ) → m < 2 ^ w → i < w → bit (2 ^ w - 1 - m) i ≡ not (bit m i)
unfolding bit
bit_not zero m i h l = absurd (omega arith)
bit_not (suc w) m zero h l =
    let e : (2 ^ suc w - 1 - m) % 2 ≡ 1 - m % 2 = omega (arith, pow-suc 2 w) in
    ap (λ x. eqb x 1) e ∙ low_not (m % 2) (omega arith)
bit_not (suc w) m (suc i) h l =
    let e : (2 ^ suc w - 1 - m) / 2 ≡ 2 ^ w - 1 - m / 2 = omega (arith, pow-suc 2 w) in
    ap (λ x. bit x i) e ∙ bit_not w (m / 2) i (omega (arith, pow-suc 2 w)) (omega arith)

-- a & !b
pub bit-minus : (w a b i : ℕ) → b < 2 ^ w → i < w
    → bit (bit_and a (2 ^ w - 1 - b)) i ≡ (bit a i && not (bit b i))
bit-minus w a b i h l = bit-and a (2 ^ w - 1 - b) i ∙ ap (λ x. bit a i && x) (bit_not w b i h l)

pub bit_is : (m i : ℕ) → bit m i ≡ eqb (m / 2 ^ i % 2) 1
unfolding bit
bit_is m zero = let e : m % 2 ≡ m / 1 % 2 = omega arith in ap (λ x. eqb x 1) e
bit_is m (suc i) = bit_is (m / 2) i ∙ ap (λ x. eqb (x % 2) 1)
    (shr-shr m 1 i ∙ ap (λ x. m / 2 ^ x) (omega arith))

pub none_set : (w m : ℕ) → m < 2 ^ w → ((i : ℕ) → bit m i ≡ false) → m ≡ 0
unfolding bit
none_set zero m h f = omega arith
none_set (suc w) m h f =
    let e = none_set w (m / 2) (omega (arith, pow-suc 2 w)) (λ i. f (suc i)) in
    let low : m % 2 ≡ 1 → ⊥ = eqb-false (m % 2) 1 (f 0) in
    omega arith

-- the lowest bit that is set
lowest_at : (m d t k : ℕ) → m % 2 ≡ d → (t < k → bit (m / 2) t ≡ true) → under d t < suc k
    → bit m (under d t) ≡ true
unfolding bit
lowest_at m zero t k e ih h = ih (omega arith)
lowest_at m (suc d) t k e ih h = let e : m % 2 ≡ 1 = omega arith in ap (λ x. eqb x 1) e

pub lowest : (k m : ℕ) → count_trailing_zeros k m < k → bit m (count_trailing_zeros k m) ≡ true
unfolding count_trailing_zeros
lowest zero m h = absurd (omega arith)
lowest (suc k) m h = lowest_at m (m % 2) (count_trailing_zeros k (m / 2)) k refl (lowest k (m / 2))
    h

below_at : (m d t j : ℕ) → m % 2 ≡ d → ((i : ℕ) → i < t → bit (m / 2) i ≡ false) → j < under d t
    → bit m j ≡ false
unfolding bit
below_at m zero t zero e ih h = ap (λ x. eqb x 1) e
below_at m zero t (suc j) e ih h = ih j (omega arith)
below_at m (suc d) t j e ih h = absurd (omega arith)

pub below_lowest : (k m j : ℕ) → j < count_trailing_zeros k m → bit m j ≡ false
unfolding count_trailing_zeros
below_lowest zero m j h = absurd (omega arith)
below_lowest (suc k) m j h = below_at m (m % 2) (count_trailing_zeros k (m / 2)) j refl
    (below_lowest k (m / 2)) h

-- a number with a bit below 2 ^ w
pub lowest_lt : (w m : ℕ) → m < 2 ^ w → (m ≡ 0 → ⊥) → count_trailing_zeros w m < w
unfolding count_trailing_zeros
lowest_lt zero m h ne = absurd (ne (omega arith))
lowest_lt (suc w) m h ne =
    under_lt (m % 2) (λ e. lowest_lt w (m / 2) (omega (arith, pow-suc 2 w)) (λ z. ne (omega arith)))
  where
    under_lt : (d : ℕ) → (d ≡ 0 → count_trailing_zeros w (m / 2) < w)
        → under d (count_trailing_zeros w (m / 2)) < suc w
    under_lt zero ih = omega (arith, ih refl)
    under_lt (suc d) ih = omega arith

both : (b : Bool) → (b && b) ≡ (b && true)
both true = refl
both false = refl

-- taking 1 away lets go of the lowest bit, sets those below it and leaves those above
and_before : (m t i : ℕ) → bit m t ≡ true → ((j : ℕ) → j < t → bit m j ≡ false)
    → (bit m i && bit (m - 1) i) ≡ (bit m i && not (eqb i t))
unfolding bit
and_before m zero zero s b =
    let odd : m % 2 ≡ 1 = eqb-true (m % 2) 1 s in
    let e : (m - 1) % 2 ≡ 0 = omega arith in
    rw e refl
and_before m zero (suc i) s b =
    let odd : m % 2 ≡ 1 = eqb-true (m % 2) 1 s in
    let e : (m - 1) / 2 ≡ m / 2 = omega arith in
    rw (e, ne_eqb (suc i) 0 (λ z. omega arith)) (both (bit (m / 2) i))
and_before m (suc t) zero s b = rw (b 0 (omega arith)) refl
and_before m (suc t) (suc i) s b =
    let even : m % 2 ≡ 1 → ⊥ = eqb-false (m % 2) 1 (b 0 (omega arith)) in
    let some : m / 2 ≡ 0 → ⊥ =
    λ z. both_ways (bit (m / 2) t) (ap (λ x. bit x t) z ∙ bit-zero t) s in
    let e : (m - 1) / 2 ≡ m / 2 - 1 = omega (arith, some) in
    rw e (and_before (m / 2) t i s (λ j h. b (suc j) (omega arith)) ∙ grind (arith, nat_tests))

-- a number and the one before it: all its bits but the lowest
pub without_lowest : (m t i : ℕ) → bit m t ≡ true → ((j : ℕ) → j < t → bit m j ≡ false)
    → bit (bit_and m (m - 1)) i ≡ (bit m i && not (eqb i t))
without_lowest m t i s b = bit-and m (m - 1) i ∙ and_before m t i s b

pub ones_members : (w m : ℕ) → m < 2 ^ w → ones m ≡ members w (bit m)
unfolding bit ones members
ones_members zero m h = let e : m ≡ 0 = omega arith in ap ones e ∙ refl
ones_members (suc w) m h =
    let ih = ones_members w (m / 2) (omega (arith, pow-suc 2 w)) in
    let low : cond (eqb (m % 2) 1) 1 0 ≡ m % 2 = one (m % 2) (omega arith) in
    omega (arith, ones_step m)
  where
    one : (x : ℕ) → x < 2 → cond (eqb x 1) 1 0 ≡ x
    one x h = grind (arith, nat_tests)
