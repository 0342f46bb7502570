-- How many numbers below n are in a set.
-- Idea: inductions over n, from the low end. A set that is mapped into another, no two members to
-- one, has no more members: take the image of its first member out of the other set, and go on with
-- the rest.
use Rattle.std.proofs.Common.{◌≡◌, ℕ, zero, suc, ◌+◌, ◌<◌, ◌≤◌, Bool, true, false, cond, not, ◌&&◌}
use Rattle.std.proofs.Common.{◌||◌, eqb, sym, refl, ap, ◌∙◌, ap₂, inl, inr, arith}
use Rattle.std.proofs.lemmas.Bool.Decides.{nat_tests}
use Rattle.std.proofs.lemmas.Bool.{cases_Bool, cases_eq, cond-true, cond-false, and_from, and_right}
use Rattle.std.proofs.lemmas.Bool.{not_from_false, not_from_true, ne_eqb, eq-eqb, both_ways}
use Rattle.blockset.specs.Sets.{members}

-- sets alike below n
pub members_like : (n : ℕ) (C D : ℕ → Bool) → ((j : ℕ) → j < n → D j ≡ C j)
    → members n D ≡ members n C
unfolding members
members_like zero C D e = refl
members_like (suc n) C D e = ap₂ ◌+◌ (ap (λ b. cond b 1 0) (e 0 (omega arith)))
    (members_like n (λ x. C (suc x)) (λ x. D (suc x)) (λ j h. e (suc j) (omega arith)))

suc_eqb : (j c : ℕ) → eqb (suc j) (suc c) ≡ eqb j c
suc_eqb j c = grind (arith, nat_tests)

-- one more
pub members_with : (n : ℕ) (C D : ℕ → Bool) (c : ℕ) → c < n → C c ≡ false
    → ((j : ℕ) → D j ≡ (eqb j c || C j)) → members n D ≡ suc (members n C)
unfolding members
members_with zero C D c h f e = absurd (omega arith)
members_with (suc n) C D zero h f e =
    let rest = members_like n (λ x. C (suc x)) (λ x. D (suc x))
    (λ j _. e (suc j) ∙ grind (arith, nat_tests)) in
    let top : D 0 ≡ true = e 0 in
    grind arith
members_with (suc n) C D (suc c) h f e =
    let ih = members_with n (λ x. C (suc x)) (λ x. D (suc x)) c (omega arith) f
    (λ j. e (suc j) ∙ ap (λ b. b || C (suc j)) (suc_eqb j c)) in
    let top : D 0 ≡ C 0 = e 0 ∙ grind (arith, nat_tests) in
    let same : cond {A = ℕ} (D 0) 1 0 ≡ cond (C 0) 1 0 = ap (λ b. cond b 1 0) top in
    omega arith

taking : (C : ℕ → Bool) (c j : ℕ) → C c ≡ true → C j ≡ (eqb j c || (C j && not (eqb j c)))
taking C c j t =
    elim (cases_eq j c) [
      | inl e ↦ (let s : C j ≡ true = ap C e ∙ t in grind (arith, nat_tests))
      | inr ne ↦ grind (arith, nat_tests)
    ]

-- one fewer
pub members_without : (n : ℕ) (C : ℕ → Bool) (c : ℕ) → c < n → C c ≡ true
    → members n C ≡ suc (members n (λ j. C j && not (eqb j c)))
members_without n C c h t =
    members_with n (λ j. C j && not (eqb j c)) C c h
    (and_right _ _ (not_from_true _ (eq-eqb c c refl))) (λ j. taking C c j t)

-- those in a set, and those outside it
one_split : (a b : Bool) → cond {A = ℕ} a 1 0 ≡ cond (a && b) 1 0 + cond (a && not b) 1 0
one_split true true = refl
one_split true false = refl
one_split false b = refl

pub members_split : (n : ℕ) (A B : ℕ → Bool) → members n A ≡ members n (λ x. A x && B x) + members n
    (λ x. A x && not (B x))
unfolding members
members_split zero A B = refl
members_split (suc n) A B = let ih = members_split n (λ x. A (suc x)) (λ x. B (suc x)) in
    omega (arith, one_split (A 0) (B 0))

pub members_none : (n : ℕ) (A : ℕ → Bool) → members n A ≡ 0 → (l : ℕ) → l < n → A l ≡ false
unfolding members
members_none zero A e l h = absurd (omega arith)
members_none (suc n) A e zero h =
    elim (cases_Bool (A 0)) [
      | inl t ↦ absurd (let one : cond {A = ℕ} (A 0) 1 0 ≡ 1 = cond-true (A 0) 1 0 t in omega arith)
      | inr f ↦ f
    ]
members_none (suc n) A e (suc l) h = members_none n (λ x. A (suc x)) (omega arith) l (omega arith)

pub members_all : (n : ℕ) → members n (λ _. true) ≡ n
unfolding members
members_all zero = refl
members_all (suc n) = omega (arith, members_all n)

pub members_no : (n : ℕ) → members n (λ _. false) ≡ 0
unfolding members
members_no zero = refl
members_no (suc n) = omega (arith, members_no n)

-- a set that goes into another, no two to one, has no more members; only what is below m has to go
pub inject_below : (m n : ℕ) (A C : ℕ → Bool) (f : (l : ℕ) → l < m → A l ≡ true → ℕ)
    → ((l : ℕ) (i : l < m) (t : A l ≡ true) → (f l i t < n) × (C (f l i t) ≡ true))
    → ((l k : ℕ) (i : l < m) (j : k < m) (t : A l ≡ true) (s : A k ≡ true) → f l i t ≡ f k j s
    → l ≡ k)
    → members m A ≤ members n C
unfolding members
inject_below zero n A C f into once = omega arith
inject_below (suc m) n A C f into once =
    elim (cases_Bool (A 0)) [
      | inr z ↦
          let ih = inject_below m n (λ x. A (suc x)) C (λ l i t. f (suc l) (up l i) t)
          (λ l i t. into (suc l) (up l i) t)
          (λ l k i j t s e. omega (arith, once (suc l) (suc k) (up l i) (up k j) t s e)) in
          let none : cond {A = ℕ} (A 0) 1 0 ≡ 0 = cond-false (A 0) 1 0 z in
          omega arith
      | inl o ↦
          let c = f 0 first o in
          let D : ℕ → Bool = λ x. C x && not (eqb x c) in
          let ih = inject_below m n (λ x. A (suc x)) D (λ l i t. f (suc l) (up l i) t)
          (λ l i t. let w = into (suc l) (up l i) t in (
            w.0,
            and_from _ _ w.1
                (not_from_false _ (ne_eqb (f (suc l) (up l i) t) c
                (λ e. omega (arith, once (suc l) 0 (up l i) first t o e)))),
          ))
          (λ l k i j t s e. omega (arith, once (suc l) (suc k) (up l i) (up k j) t s e)) in
          let in_c = into 0 first o in
          let less : members n C ≡ suc (members n D) = members_without n C c in_c.0 in_c.1 in
          let one : cond {A = ℕ} (A 0) 1 0 ≡ 1 = cond-true (A 0) 1 0 o in
          omega arith
    ]
  where
    first : 0 < suc m
    first = omega arith

    up : (l : ℕ) → l < m → suc l < suc m
    up l i = omega arith

pub inject_le : (m n : ℕ) (A C : ℕ → Bool) (f : (l : ℕ) → A l ≡ true → ℕ)
    → ((l : ℕ) (t : A l ≡ true) → l < m → (f l t < n) × (C (f l t) ≡ true))
    → ((l k : ℕ) (t : A l ≡ true) (s : A k ≡ true) → l < m → k < m → f l t ≡ f k s → l ≡ k)
    → members m A ≤ members n C
inject_le m n A C f into once = inject_below m n A C (λ l _ t. f l t) (λ l i t. into l t i)
    (λ l k i j t s. once l k t s i j)

pub members-le : (n : ℕ) (C : ℕ → Bool) → members n C ≤ n
unfolding members
members-le zero C = omega arith
members-le (suc n) C = let ih = members-le n (λ x. C (suc x)) in grind arith

-- at most one more
pub members-insert : (n : ℕ) (C D : ℕ → Bool) (c : ℕ) → c < n → ((j : ℕ) → D j ≡ (eqb j c || C j))
    → members n D ≤ suc (members n C)
members-insert n C D c h e = elim (cases_Bool (C c)) [
  | inl t ↦ omega (arith, members_like n C D (λ j _. e j ∙ sym (already j t)))
  | inr f ↦ omega (arith, members_with n C D c h f e)
]
  where
    already : (j : ℕ) → C c ≡ true → C j ≡ (eqb j c || C j)
    already j t =
        elim (cases_eq j c) [
          | inl s ↦ (let u : C j ≡ true = ap C s ∙ t in grind arith)
          | inr ne ↦
              (let s = ne_eqb j c ne in grind arith)
        ]

-- a set within another that lacks a member of it has fewer
pub members_less : (n : ℕ) (C D : ℕ → Bool) (c : ℕ) → c < n → ((j : ℕ) → D j ≡ true → C j ≡ true)
    → C c ≡ true → D c ≡ false → members n D < members n C
members_less n C D c h sub t f =
    omega (
      arith,
      members_without n C c h t,
      inject_le n n D (λ j. C j && not (eqb j c)) (λ j _. j)
          (λ j d i. (
            i,
            and_from (C j) (not (eqb j c)) (sub j d)
                (not_from_false _ (ne_eqb j c (λ e. both_ways (D j) (ap D e ∙ f) d))),
          ))
          (λ j k d e i l s. s),
    )

-- a set within the numbers below n has as many members below n as below any greater number
pub members-within : (m n : ℕ) (C : ℕ → Bool) → n ≤ m → ((j : ℕ) → C j ≡ true → j < n)
    → members m C ≡ members n C
members-within m n C le low =
    omega (
      arith,
      inject_le m n C C (λ j _. j) (λ j t _. (low j t, t)) (λ j k _ _ _ _ e. e),
      inject_le n m C C (λ j _. j) (λ j t i. (omega arith, t)) (λ j k _ _ _ _ e. e),
    )
