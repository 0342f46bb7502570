-- Where the rail is not reached, sums and differences are exact.
-- Idea: column by column, the size of a sum or difference is at most the sizes together, and a
-- number on the rail is its own nearest one.
use Rattle.std.proofs.Common.{◌≡◌, ℕ, zero, suc, ◌+◌, ◌≤◌, leb, List, [], ◌∷◌, length, ℤ, pos}
use Rattle.std.proofs.Common.{negsuc, ◌+ℤ◌, ◌-ℤ◌, nat_abs, sum_by, Decides, inl, inr, refl, ap}
use Rattle.std.proofs.Common.{◌∙◌, arith}
use Rattle.std.proofs.lemmas.Int.{ints}
use Rattle.std.proofs.lemmas.Bool.{leb-true, le-leb, cases_lt}
use Rattle.std.proofs.ByRecursion.{Decides-by_and}
use Rattle.cost.specs.declared.TheConstants.{RAIL}
use Rattle.cost.specs.Columns.{rail_of, AreWithin, within, columnwise, zeros, plus, minus}
use Rattle.cost.specs.Laws.{IsExact}

pub rail_of_same : (z : ℤ) → nat_abs z ≤ RAIL → rail_of z ≡ z
rail_of_same (pos n) h = ap pos (omega arith)
rail_of_same (negsuc n) h = ap negsuc (omega arith)

-- what lies on the rail is not moved again
rail_of_twice : (z : ℤ) → rail_of (rail_of z) ≡ rail_of z
rail_of_twice (pos n) = ap pos (omega arith)
rail_of_twice (negsuc n) = ap negsuc (omega arith)

-- so a number that was bounded means itself
pub bounded_means : (x z : ℤ) → x ≡ rail_of z → ◌≡◌ {A = List ℤ} (rail_of x ∷ []) (rail_of z ∷ [])
bounded_means x z e = ap (λ t. rail_of t ∷ []) e ∙ ap (λ t. t ∷ []) (rail_of_twice z)

abs_plus : (x y : ℤ) → nat_abs (x +ℤ y) ≤ nat_abs x + nat_abs y
abs_plus x y = omega (arith, ints)

abs_minus : (x y : ℤ) → nat_abs (x -ℤ y) ≤ nat_abs x + nat_abs y
abs_minus x y = omega (arith, ints)

-- one column operation whose result is at most as large as both numbers together
module _ (f : ℤ → ℤ → ℤ) (small : (x y : ℤ) → nat_abs (f x y) ≤ nat_abs x + nat_abs y) where
  pub columnwise-within : (a b : ℕ) (xs ys : List ℤ) → AreWithin a xs → AreWithin b ys
      → AreWithin (a + b) (columnwise f xs ys)
  columnwise-within a b [] ys h k = tt
  columnwise-within a b (x ∷ xs) [] h k = tt
  columnwise-within a b (x ∷ xs) (y ∷ ys) h k =
      (omega (arith, small x y, h.0, k.0), columnwise-within a b xs ys h.1 k.1)

  pub columnwise_exact : (a b : ℕ) (xs ys : List ℤ) → a + b ≤ RAIL → AreWithin a xs
      → AreWithin b ys → columnwise (λ x y. rail_of (f x y)) xs ys ≡ columnwise f xs ys
  columnwise_exact a b [] ys l h k = refl
  columnwise_exact a b (x ∷ xs) [] l h k = refl
  columnwise_exact a b (x ∷ xs) (y ∷ ys) l h k =
      let e : rail_of (f x y) ≡ f x y = rail_of_same (f x y) (omega (arith, small x y, h.0, k.0)) in
      let t : columnwise (λ u v. rail_of (f u v)) xs ys ≡ columnwise f xs ys =
      columnwise_exact a b xs ys l h.1 k.1 in
      cc

pub plus-within : (a b : ℕ) (xs ys : List ℤ) → AreWithin a xs → AreWithin b ys
    → AreWithin (a + b) (plus xs ys)
plus-within = columnwise-within ◌+ℤ◌ abs_plus

pub minus-within : (a b : ℕ) (xs ys : List ℤ) → AreWithin a xs → AreWithin b ys
    → AreWithin (a + b) (minus xs ys)
minus-within = columnwise-within ◌-ℤ◌ abs_minus

pub exact : IsExact RAIL
exact a b xs ys l h k = (
  columnwise_exact ◌+ℤ◌ abs_plus a b xs ys l h k,
  columnwise_exact ◌-ℤ◌ abs_minus a b xs ys l h
      k,
)

-- beyond that the rail stops a sum: one column at its end, and 1 more
too_far : IsExact (RAIL + 1) → ⊥
too_far h =
    let stopped : ◌≡◌ {A = List ℤ} (pos RAIL ∷ []) (pos (RAIL + 1) ∷ []) =
    (h RAIL 1 (pos RAIL ∷ []) (pos 1 ∷ []) (omega arith)
    (omega arith, tt) (omega arith, tt)).0 in
    let same_size : sum_by nat_abs (pos RAIL ∷ []) ≡
    sum_by nat_abs (pos (RAIL + 1) ∷ []) = ap (sum_by nat_abs) stopped in
    omega arith

pub most : (reach : ℕ) → IsExact reach → reach ≤ RAIL
most reach h =
    elim (cases_lt RAIL reach) [
      | inl l ↦ absurd (too_far (λ a b xs ys fits. h a b xs ys (omega arith)))
      | inr l ↦ l
    ]

pub length-columnwise : (f : ℤ → ℤ → ℤ) (xs ys : List ℤ) → length xs ≡ length ys
    → length (columnwise f xs ys) ≡ length xs
length-columnwise f [] ys e = refl
length-columnwise f (x ∷ xs) [] e = absurd (omega arith)
length-columnwise f (x ∷ xs) (y ∷ ys) e = ap suc (length-columnwise f xs ys (omega arith))

pub within_more : (a b : ℕ) (xs : List ℤ) → a ≤ b → AreWithin a xs → AreWithin b xs
within_more a b [] l h = tt
within_more a b (x ∷ xs) l h = (omega (arith, h.0), within_more a b xs l h.1)

pub zeros_within : (a n : ℕ) → AreWithin a (zeros n)
zeros_within a zero = tt
zeros_within a (suc n) = (omega arith, zeros_within a n)

-- the test tells the fact
pub within_tells : (k : ℕ) (xs : List ℤ) → Decides (within k xs) (AreWithin k xs)
within_tells k = Decides-by_and (λ x. leb (nat_abs x) k) (λ x. nat_abs x ≤ k) (within k)
    (λ x. (leb-true (nat_abs x) k, le-leb (nat_abs x) k)) refl (λ _ _. refl)
