-- What is reached by steps from a start can be told by a test, and each reached number knows a
-- shorter way back.
-- Idea: begin with the start, and while some step leaves the set take in where it leads, with a
-- rank above all ranks so far. Each time one number fewer is missing, so this ends, and then no
-- step leaves the set. A number is reached from one of smaller rank, so following the ranks down
-- never comes round again: the way back is a simple path.
use Rattle.std.proofs.Common.{◌≡◌, ℕ, zero, suc, ◌<◌, Bool, true, false, cond, not, ◌&&◌, ◌||◌, eqb}
use Rattle.std.proofs.Common.{◌⊎◌, sym, refl, ap, ◌∙◌, subst, inl, inr, arith}
use Rattle.std.proofs.lemmas.Bool.Decides.{nat_tests}
use Rattle.std.proofs.lemmas.Bool.{cases_eq, or_cases, or_left, or_right, and_parts}
use Rattle.std.proofs.lemmas.Bool.{eqb-true, eq-eqb, ne_eqb, both_ways, not-true}
use Rattle.std.proofs.lemmas.Bool.{not_from_true, cond-true, cond-false}
use Rattle.blockset.specs.Sets.{members}
use Rattle.blockset.proofs.Members.{members_with}
use Rattle.pairing.proofs.Members.{some_two}

module _ (n : ℕ) (start : ℕ → Bool) (edge : ℕ → ℕ → Bool) where
  -- y is of the start, or one step behind an x of smaller rank
  abbrev pub Back : (D : ℕ → Bool) (rank : ℕ → ℕ) → ℕ → Type 0
  Back D rank y = (start y ≡ true) ⊎ ((x : ℕ) × (x < n) × (D x ≡ true) × (edge x y ≡ true)
      × (rank x < rank y))

  -- D is what is reached
  pub record Closure (D : ℕ → Bool) (rank : ℕ → ℕ) : Type 0 where
    pub has : (x : ℕ) → x < n → start x ≡ true → D x ≡ true
    pub closed : (x y : ℕ) → x < n → y < n → D x ≡ true → edge x y ≡ true → D y ≡ true
    pub back : (y : ℕ) → y < n → D y ≡ true → Back D rank y

  -- C is reached, with ranks below t
  record Growing (C : ℕ → Bool) (rank : ℕ → ℕ) (t : ℕ) : Type 0 where
    has : (x : ℕ) → x < n → start x ≡ true → C x ≡ true
    back : (y : ℕ) → y < n → C y ≡ true → Back C rank y
    low : (y : ℕ) → y < n → C y ≡ true → rank y < t

  -- a step that leaves C
  leaves : (ℕ → Bool) → ℕ → ℕ → Bool
  leaves C x y = C x && (edge x y && not (C y))

  leaving : (C : ℕ → Bool) (x y : ℕ) → leaves C x y ≡ true
      → (C x ≡ true) × (edge x y ≡ true) × (C y ≡ false)
  unfolding leaves
  leaving C x y e =
      let a = and_parts (C x) (edge x y && not (C y)) e in
      let b = and_parts (edge x y) (not (C y)) a.1 in
      (a.0, b.0, not-true (C y) b.1)

  staying : (C : ℕ → Bool) (x y : ℕ) → leaves C x y ≡ false → C x ≡ true → edge x y ≡ true
      → C y ≡ true
  unfolding leaves
  staying C x y e a t = grind arith

  module _ (C : ℕ → Bool) (rank : ℕ → ℕ) (t : ℕ) (g : Growing C rank t) (x y : ℕ) (i : x < n)
      (j : y < n) (a : C x ≡ true) (e : edge x y ≡ true) (out : C y ≡ false) where
    C' : ℕ → Bool
    C' z = eqb z y || C z

    rank' : ℕ → ℕ
    rank' z = cond (eqb z y) t (rank z)

    kept : (z : ℕ) → C z ≡ true → C' z ≡ true
    unfolding C'
    kept z c = or_right (eqb z y) (C z) c

    old : (z : ℕ) → C' z ≡ true → (z ≡ y → ⊥) → C z ≡ true
    unfolding C'
    old z c ne = elim (or_cases (eqb z y) (C z) c) [
      | inl s ↦ absurd (ne (eqb-true z y s))
      | inr s ↦
          s
    ]

    apart : (z : ℕ) → C z ≡ true → z ≡ y → ⊥
    apart z c s = both_ways (C z) (ap C s ∙ out) c

    rank_old : (z : ℕ) → (z ≡ y → ⊥) → rank' z ≡ rank z
    unfolding rank'
    rank_old z ne = cond-false (eqb z y) t (rank z) (ne_eqb z y ne)

    rank_new : rank' y ≡ t
    unfolding rank'
    rank_new = cond-true (eqb y y) t (rank y) (eq-eqb y y refl)

    grown : Growing C' rank' (suc t)
    grown = record {
      has = λ z h s. kept z (g.has z h s);
      back = λ z h c. elim (cases_eq z y) [
        | inl s ↦ subst (Back C' rank') (sym s)
            (inr (x, i, kept x a, e, omega (arith, rank_new, rank_old x (apart x a), g.low x i a)))
        | inr ne ↦ elim (g.back z h (old z c ne)) [
          | inl s ↦ inl s
          | inr w ↦
              inr (
                w.0,
                w.1,
                kept w.0 w.2,
                w.3,
                omega (arith, w.4, rank_old z ne, rank_old w.0 (apart w.0 w.2)),
              )
        ]
      ];
      low = λ z h c. elim (cases_eq z y) [
        | inl s ↦ rw (s, rank_new) (omega arith)
        | inr ne ↦ omega (arith, rank_old z ne, g.low z h (old z c ne))
      ];
    }

    missing : (z : ℕ) → not (C z) ≡ (eqb z y || not (C' z))
    unfolding C'
    missing z = elim (cases_eq z y) [
      | inl s ↦ (let f : C z ≡ false = ap C s ∙ out in grind (arith, nat_tests))
      | inr ne ↦ grind (arith, nat_tests)
    ]

    fewer : members n (λ z. not (C z)) ≡ suc (members n (λ z. not (C' z)))
    unfolding C'
    fewer = members_with n (λ z. not (C' z)) (λ z. not (C z)) y j
        (not_from_true _ (or_left (eqb y y) (C y) (eq-eqb y y refl))) missing

  grow : (k : ℕ) (C : ℕ → Bool) (rank : ℕ → ℕ) (t : ℕ) → Growing C rank t
      → members n (λ z. not (C z)) < k → (D : ℕ → Bool) × (rank' : ℕ → ℕ) × Closure D rank'
  grow zero C rank t g small = absurd (omega arith)
  grow (suc k) C rank t g small = elim (some_two n (leaves C)) [
    | inr none ↦ (
      C,
      rank,
      record {
        has = g.has;
        closed = λ x y i j. staying C x y (none x y i j);
        back = g.back;
      },
    )
    | inl (x, y, i, j, e) ↦
        let l = leaving C x y e in
        let f = fewer C rank t g x y i j l.0 l.1 l.2 in
        grow k (C' C rank t g x y i j l.0 l.1 l.2) (rank' C rank t g x y i j l.0 l.1 l.2) (suc t)
        (grown C rank t g x y i j l.0 l.1 l.2) (omega arith)
  ]

  pub closure : (D : ℕ → Bool) × (rank : ℕ → ℕ) × Closure D rank
  closure = grow (suc (members n (λ z. not (start z)))) start (λ _. 0) 1
      (record { has = λ x h s. s; back = λ y h s. inl s; low = λ y h s. omega arith }) (omega arith)

  -- what holds of the start and passes along each step holds of all that is reached
  pub reached_all : (D : ℕ → Bool) (rank : ℕ → ℕ) → Closure D rank → (Q : ℕ → Type 0)
      → ((y : ℕ) → y < n → start y ≡ true → Q y)
      → ((x y : ℕ) → x < n → y < n → Q x → edge x y ≡ true → Q y) → (b y : ℕ) → y < n → rank y < b
      → D y ≡ true → Q y
  reached_all D rank c Q first next zero y h low d = absurd (omega arith)
  reached_all D rank c Q first next (suc b) y h low d = elim (c.back y h d) [
    | inl s ↦ first y h s
    | inr w ↦
        next w.0 y w.1 h (reached_all D rank c Q first next b w.0 w.1 (omega (arith, w.4)) w.2) w.3
  ]
