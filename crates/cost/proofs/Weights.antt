-- Weights compare and add up as the columns do, so chains of comparisons become linear arithmetic.
-- Idea: the columns are digits in base 2^64 (Horner's rule). Columns are far smaller than the base,
-- so the first column that differs outweighs all that follow it, and the order of the columns is
-- the order of the numbers; sums of columns are sums of the numbers.
use Rattle.std.proofs.Common.{◌≡◌, ℕ, zero, suc, ◌^◌, List, [], ◌∷◌, length, ℤ, pos, ◌+ℤ◌, ◌-ℤ◌}
use Rattle.std.proofs.Common.{◌*ℤ◌, ◌≤ℤ◌, ◌<ℤ◌, Ordering, Less, Equal, Greater, sym, refl, ap, ◌∙◌}
use Rattle.std.proofs.Common.{subst, arith}
use Rattle.std.proofs.lemmas.Int.{ints}
use Rattle.std.proofs.lemmas.Cmp.{by_ranked}
use Rattle.std.specs.Cmp.{int_cmp_is}
use Rattle.std.specs.Ordering.{MatchOrdering}
use Rattle.cost.specs.Columns.{columnwise, zeros, lex}
use Rattle.cost.specs.Weights.{weight_from, weight, IsLight, WeightsCompare, SumsWeigh}
use Rattle.cost.specs.Weights.{DifferencesWeigh}
use Rattle.cost.proofs.Order.{head}
use Rattle.cost.proofs.Order.Head.{below, same, above}

-- what the columns are digits in
abbrev base : ℤ
base = pos (2 ^ 64)

-- a difference so far outweighs what follows
less_from : (a b : ℤ) (xs ys : List ℤ) → length xs ≡ length ys → IsLight xs → IsLight ys → a <ℤ b
    → weight_from a xs <ℤ weight_from b ys
less_from a b [] [] e h k l = l
less_from a b [] (y ∷ ys) e h k l = absurd (omega arith)
less_from a b (x ∷ xs) [] e h k l = absurd (omega arith)
less_from a b (x ∷ xs) (y ∷ ys) e h k l =
    less_from (a *ℤ base +ℤ x) (b *ℤ base +ℤ y) xs ys (omega arith) h.1 k.1
    (omega (arith, ints, h.0, k.0))

ranked_map : {P Q R P' Q' R' : Type 0} (o : Ordering) → MatchOrdering o P Q R → (P → P') → (Q → Q')
    → (R → R') → MatchOrdering o P' Q' R'
ranked_map Less x p q r = p x
ranked_map Equal x p q r = q x
ranked_map Greater x p q r = r x

ranked_from : (a : ℤ) (xs ys : List ℤ) → length xs ≡ length ys → IsLight xs → IsLight ys
    → MatchOrdering (lex xs ys) (weight_from a xs <ℤ weight_from a ys) (xs ≡ ys)
    (weight_from a ys <ℤ weight_from a xs)
ranked_from a [] [] e h k = refl
ranked_from a [] (y ∷ ys) e h k = absurd (omega arith)
ranked_from a (x ∷ xs) [] e h k = absurd (omega arith)
ranked_from a (x ∷ xs) (y ∷ ys) e h k =
    let u : ℤ = a *ℤ base +ℤ x in
    let v : ℤ = a *ℤ base +ℤ y in
    let P : Ordering → Type 0 = λ o. MatchOrdering o (weight_from u xs <ℤ weight_from v ys)
    (◌≡◌ {A = List ℤ} (x ∷ xs) (y ∷ ys)) (weight_from v ys <ℤ weight_from u xs) in
    let n : length xs ≡ length ys = omega arith in
    elim (head x y (lex xs ys)) [
      | below l o ↦ subst P (sym o) (less_from u v xs ys n h.1 k.1 (omega (arith, ints)))
      | same i o ↦ subst P (sym o) (ranked_map (lex xs ys) (ranked_from u xs ys n h.1 k.1)
          (λ l. subst (λ (t : ℤ). weight_from u xs <ℤ weight_from (a *ℤ base +ℤ t) ys) i l)
          (λ q. cc)
          (λ l. subst (λ (t : ℤ). weight_from (a *ℤ base +ℤ t) ys <ℤ weight_from u xs) i l))
      | above l o ↦ subst P (sym o) (less_from v u ys xs (sym n) k.1 h.1 (omega (arith, ints)))
    ]

-- the order of two lists by their weights
module _ (xs ys : List ℤ) (e : length xs ≡ length ys) (h : IsLight xs) (k : IsLight ys) where
  ranked : MatchOrdering (lex xs ys) (weight xs <ℤ weight ys) (xs ≡ ys) (weight ys <ℤ weight xs)
  ranked = ranked_from (pos 0) xs ys e h k

  by_weight : {G : Type 0} → (lex xs ys ≡ Less → weight xs <ℤ weight ys → G)
      → (lex xs ys ≡ Equal → xs ≡ ys → G) → (lex xs ys ≡ Greater → weight ys <ℤ weight xs → G) → G
  by_weight = by_ranked (weight xs <ℤ weight ys) (xs ≡ ys) (weight ys <ℤ weight xs) (lex xs ys)
      ranked

  pub less_is : lex xs ys ≡ Less → weight xs <ℤ weight ys
  less_is o = by_weight (λ _ l. l) (λ p _. cc (sym o ∙ p)) (λ p _. cc (sym o ∙ p))

  pub not_less_is : (lex xs ys ≡ Less → ⊥) → weight ys ≤ℤ weight xs
  not_less_is o = by_weight (λ p _. absurd (o p))
      (λ _ q. let w : weight xs ≡ weight ys = ap weight q in omega (arith, ints))
      (λ _ l. omega (arith, ints))

  pub upto_is : (lex xs ys ≡ Greater → ⊥) → weight xs ≤ℤ weight ys
  upto_is o = by_weight (λ _ l. omega (arith, ints))
      (λ _ q. let w : weight xs ≡ weight ys = ap weight q in omega (arith, ints))
      (λ p _. absurd (o p))

  pub upto_from : weight xs ≤ℤ weight ys → lex xs ys ≡ Greater → ⊥
  upto_from l o = by_weight (λ p _. cc (sym o ∙ p)) (λ p _. cc (sym o ∙ p))
      (λ _ m. omega (arith, ints))

  pub same_from : weight xs ≡ weight ys → xs ≡ ys
  same_from w = by_weight (λ _ l. absurd (omega (arith, ints))) (λ _ q. q)
      (λ _ l. absurd (omega (arith, ints)))

pub weights_compare : WeightsCompare
weights_compare xs ys e h k =
    sym (int_cmp_is (weight xs) (weight ys) (lex xs ys)
    (ranked_map (lex xs ys) (ranked xs ys e h k) (λ l. l) (λ q. ap weight q) (λ l. l)))

-- what a linear operation on columns gives weighs what it gives of the weights
module _ (f : ℤ → ℤ → ℤ) (linear : (a b x y : ℤ) → (f a b *ℤ base +ℤ f x y) ≡
    f (a *ℤ base +ℤ x) (b *ℤ base +ℤ y)) where
  columnwise_from : (a b : ℤ) (xs ys : List ℤ) → length xs ≡ length ys
      → weight_from (f a b) (columnwise f xs ys) ≡ f (weight_from a xs) (weight_from b ys)
  columnwise_from a b [] [] e = refl
  columnwise_from a b [] (y ∷ ys) e = absurd (omega arith)
  columnwise_from a b (x ∷ xs) [] e = absurd (omega arith)
  columnwise_from a b (x ∷ xs) (y ∷ ys) e =
      ap (λ t. weight_from t (columnwise f xs ys)) (linear a b x y)
      ∙ columnwise_from (a *ℤ base +ℤ x) (b *ℤ base +ℤ y) xs ys (omega arith)

pub weight_plus : SumsWeigh
weight_plus = columnwise_from ◌+ℤ◌ (λ a b x y. omega (arith, ints)) (pos 0) (pos 0)

pub weight_minus : DifferencesWeigh
weight_minus = columnwise_from ◌-ℤ◌ (λ a b x y. omega (arith, ints)) (pos 0) (pos 0)

pub weight_zeros : (n : ℕ) → weight (zeros n) ≡ pos 0
weight_zeros zero = refl
weight_zeros (suc n) = weight_zeros n
