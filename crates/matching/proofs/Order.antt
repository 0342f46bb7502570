-- The first pairing, and the one that comes next, made left block by left block.
-- Idea: of two pairings that differ, the one comes before that is less at the first left block
-- where they differ. So the first pairing has the least possible right block at left block 0, of
-- those that have it the least at left block 1, and so on. After p comes a pairing that agrees with
-- p up to some left block and is greater there; of these the first one differs from p as late as
-- possible, is as little greater there as possible, and is the first of those that begin so.
use Rattle.std.proofs.Common.{◌≡◌, ℕ, zero, suc, ◌+◌, ◌<◌, ◌≤◌, ◌⊎◌, Bool, true, false, ◌||◌, List}
use Rattle.std.proofs.Common.{[], ◌∷◌, length, sym}
use Rattle.std.proofs.Common.{refl, ap, ◌∙◌, inl, inr, arith}
use Rattle.std.proofs.lemmas.List.{ext_get_or}
use Rattle.std.proofs.lemmas.Bool.{cases_eq, cases_order, both_ways, or_right}
use Rattle.blockset.specs.declared.BlockSet.{BlockSet}
use Rattle.pairing.specs.Grid.{at}
use Rattle.pairing.specs.Optima.{IsBefore}
use Rattle.pairing.specs.Chains.{AgreeBelow}
use Rattle.pairing.specs.Rows.{holds, IsPerfectOver}
use Rattle.pairing.proofs.Counting.{onto}
use Rattle.matching.specs.Improving.{IsImproved, IsUnimproved, IsFirstFrom, HasWantedFrom}

-- `after` is the pairing that comes next after `before`
pub record IsNext (rows : List BlockSet) (before after : List ℕ) : Type 0 where
  pub pairs : IsPerfectOver rows after
  pub later : IsBefore before after
  pub first : (q : List ℕ) → IsPerfectOver rows q → IsBefore before q
      → (q ≡ after) ⊎ IsBefore after q

-- p is less than q at the first left block where they differ, one below l
abbrev pub IsLess : ℕ → List ℕ → List ℕ → Type 0
IsLess l p q = (k : ℕ) × (k < l) × AgreeBelow k p q × (at p k < at q k)

less_before : (n : ℕ) (p q : List ℕ) → length p ≡ n → length q ≡ n → IsLess n p q → IsBefore p q
less_before zero p q e f w = absurd (omega (arith, w.1))
less_before (suc n) [] q e f w = absurd (omega arith)
less_before (suc n) (x ∷ p) [] e f w = absurd (omega arith)
less_before (suc n) (x ∷ p) (y ∷ q) e f (zero, b, a, h) = inl h
less_before (suc n) (x ∷ p) (y ∷ q) e f (suc k, b, a, h) =
    inr (
      sym (a 0 (omega arith)),
      less_before n p q (omega arith) (omega arith)
          (k, omega arith, λ i j. a (suc i) (omega arith), h),
    )

before_less : (n : ℕ) (p q : List ℕ) → length p ≡ n → length q ≡ n → IsBefore p q → IsLess n p q
before_less n [] [] e f w = absurd w
before_less n [] (y ∷ q) e f w = absurd (omega arith)
before_less n (x ∷ p) [] e f w = absurd w
before_less zero (x ∷ p) (y ∷ q) e f w = absurd (omega arith)
before_less (suc n) (x ∷ p) (y ∷ q) e f (inl h) = (0, omega arith, λ i j. absurd (omega arith), h)
before_less (suc n) (x ∷ p) (y ∷ q) e f (inr h) =
    let w = before_less n p q (omega arith) (omega arith) h.1 in
    (suc w.0, omega (arith, w.1), agree_cons w.0 w.2, w.3)
  where
    agree_cons : (k : ℕ) → AgreeBelow k p q → AgreeBelow (suc k) (x ∷ p) (y ∷ q)
    agree_cons k a zero j = sym h.0
    agree_cons k a (suc i) j = a i (omega arith)

agree_more : (l : ℕ) (p q : List ℕ) → AgreeBelow l p q → at q l ≡ at p l → AgreeBelow (l + 1) p q
agree_more l p q a e i h = elim (cases_eq i l) [ inl s ↦ rw s e | inr ne ↦ a i (omega arith) ]

-- no pairing that agrees with p below l comes after it
abbrev pub IsExhausted : (rows : List BlockSet) (l : ℕ) (p : List ℕ) → Type 0
IsExhausted rows l p = (q : List ℕ) → IsPerfectOver rows q → AgreeBelow l p q → IsBefore p q → ⊥

-- of the pairings that agree with start below low, each agrees with p below l or comes later
pub record Settling (rows : List BlockSet) (low l : ℕ) (start p : List ℕ) : Type 0 where
  pub pairs : IsPerfectOver rows p
  pub kept : AgreeBelow low start p
  pub first : (q : List ℕ) → IsPerfectOver rows q → AgreeBelow low start q
      → AgreeBelow l p q ⊎ IsLess l p q

module _ {rows : List BlockSet} {low l : ℕ} {start p : List ℕ} (s : Settling rows low l start p)
  where
    pub settle_more : {p' : List ℕ} → low ≤ l → l < length rows → IsImproved rows l 0 p p'
        → Settling rows low (l + 1) start p'
    settle_more {p' = p'} le inside w = record {
      pairs = w.pairs;
      kept = λ i h. w.kept i (omega arith) ∙ s.kept i h;
      first = λ q g a. elim (s.first q g a) [
        | inr v ↦ inr (
          v.0,
          omega (arith, v.1),
          λ i h. v.2 i h ∙ sym (w.kept i (omega (arith, v.1))),
          omega (arith, v.3, w.kept v.0 v.1),
        )
        | inl b ↦
            let c : AgreeBelow l p' q = λ i h. b i h ∙ sym (w.kept i h) in
            let no_more = w.least q g b (omega arith) in
            elim (cases_eq (at q l) (at p' l)) [
              | inl e ↦ inl (agree_more l p' q c e)
              | inr ne ↦ inr (l, omega arith, c, omega arith)
            ]
      ];
    }

    pub settled : l ≡ length rows → IsFirstFrom rows low start p
    settled e = record {
      pairs = s.pairs;
      kept = s.kept;
      first = λ q g a. elim (s.first q g a) [
        | inl b ↦ inl (ext_get_or 0 q p (g.len ∙ sym s.pairs.len)
            (λ i h. b i (omega (arith, g.len))))
        | inr v ↦
            inr (less_before (length rows) p q s.pairs.len g.len
            (v.0, omega (arith, v.1), v.2, v.3))
      ];
    }

-- no left block from k on may have the right block
abbrev pub IsInNoneFrom : ℕ → List BlockSet → ℕ → Type 0
IsInNoneFrom k rows block = (m : ℕ) → k ≤ m → m < length rows → holds rows m block ≡ true → ⊥

module _ (rows : List BlockSet) (p : List ℕ) (h : IsPerfectOver rows p) where
  less : (q : List ℕ) → IsPerfectOver rows q → IsBefore p q → IsLess (length rows) p q
  less q g b = before_less (length rows) p q h.len g.len b

  pub exhausted_start : IsExhausted rows (length rows) p
  exhausted_start q g a b = let w = less q g b in omega (arith, w.3, a w.0 w.1)

  module _ (l : ℕ) (inside : l < length rows) where
    pub exhausted_more : {p' : List ℕ} → IsExhausted rows (l + 1) p
        → IsUnimproved rows l (at p l + 1) p p' → IsExhausted rows l p
    exhausted_more e w q g a b =
        let top = w.none q g a in
        let v = less q g b in
        elim (cases_eq (at q l) (at p l)) [
          | inl s ↦ e q g (agree_more l p q a s) b
          | inr ne ↦ elim (cases_order v.0 l) [
            | inl s ↦ omega (arith, v.3, ap (at p) s, ap (at q) s)
            | inr o ↦ elim o [ inl lt ↦ omega (arith, v.3, a v.0 lt) | inr gt ↦ ne (v.2 l gt) ]
          ]
        ]

    pub next_is : {p₁ p₂ : List ℕ} → IsExhausted rows (l + 1) p
        → IsImproved rows l (at p l + 1) p p₁
        → IsFirstFrom rows (l + 1) p₁ p₂ → IsNext rows p p₂
    next_is {p₁ = p₁} {p₂ = p₂} e w s = record {
      pairs = s.pairs;
      later = less_before (length rows) p p₂ h.len s.pairs.len
          (l, inside, same, omega (arith, w.above, top));
      first = λ q g b.
          let v = less q g b in
          elim (cases_order v.0 l) [
            | inl z ↦
                let a : AgreeBelow l p q = λ i j. v.2 i (omega arith) in
                let up : at p l < at q l = omega (arith, v.3, ap (at p) z, ap (at q) z) in
                let most = w.least q g a (omega arith) in
                elim (cases_eq (at q l) (at p₁ l)) [
                  | inl s₁ ↦ s.first q g (agree_more l p₁ q (λ i j. a i j ∙ sym (w.kept i j)) s₁)
                  | inr ne ↦ inr (less_before (length rows) p₂ q s.pairs.len g.len
                      (l, inside, λ i j. a i j ∙ sym (same i j), omega (arith, top)))
                ]
            | inr o ↦ elim o [
              | inl lt ↦ inr (less_before (length rows) p₂ q s.pairs.len g.len (
                v.0,
                v.1,
                λ i j. v.2 i j ∙ sym (same i (omega arith)),
                omega (arith, v.3, same v.0 lt),
              ))
              | inr gt ↦ absurd (e q g (λ i j. v.2 i (omega arith)) b)
            ]
          ];
    }
      where
        same : AgreeBelow l p p₂
        same i j = s.kept i (omega arith) ∙ w.kept i j

        top : at p₂ l ≡ at p₁ l
        top = s.kept l (omega arith)

    -- Where no later left block may have the right block of left block l, every pairing that agrees
    -- with p before l gives it to l, since no other left block can have it.
    keeps : IsInNoneFrom (l + 1) rows (at p l) → (q : List ℕ) → IsPerfectOver rows q
        → AgreeBelow l p q → at q l ≡ at p l
    keeps never q g a =
        let o = onto (length rows) (holds rows) q g (at p l) (h.below l inside) in
        elim (cases_order o.0 l) [
          | inl same ↦ ap (at q) (sym same) ∙ o.2
          | inr other ↦ elim other [
            | inl earlier ↦ (let e = h.once o.0 l o.1 inside (sym (a o.0 earlier) ∙ o.2) in
                absurd (omega arith))
            | inr more ↦ absurd (never o.0 (omega arith) o.1
                (ap (holds rows o.0) (sym o.2) ∙ g.standing o.0 o.1))
          ]
        ]

    -- so l cannot have a greater one,
    pub unwanted : (wanted : ℕ → Bool) → HasWantedFrom (l + 1) rows wanted
        → wanted (at p l) ≡ false → IsUnimproved rows l (at p l + 1) p p
    unwanted wanted w free =
        let never : IsInNoneFrom (l + 1) rows (at p l) = λ m i j e.
        both_ways (wanted (at p l)) free (w m (at p l) i j e) in
        record { same = refl; none = λ q g a. omega (arith, keeps never q g a) }

    -- nor a less one
    pub lowest : IsInNoneFrom (l + 1) rows (at p l) → IsImproved rows l 0 p p
    lowest never = record {
      pairs = h;
      kept = λ i j. refl;
      above = omega arith;
      least = λ q g a f. omega (arith, keeps never q g a);
    }

-- what one left block more may be paired with is wanted too
pub wanted_more : (rows : List BlockSet) (l : ℕ) (wanted new : ℕ → Bool)
    → HasWantedFrom (l + 1) rows wanted → ((c : ℕ) → new c ≡ (wanted c || holds rows l c))
    → HasWantedFrom l rows new
wanted_more rows l wanted new w is m c i j h = elim (cases_eq m l) [
  | inl same ↦ is c ∙ or_right (wanted c) (holds rows l c) (ap (λ k. holds rows k c) (sym same) ∙ h)
  | inr other ↦ is c ∙ ap (λ b. b || holds rows l c) (w m c (omega arith) j h)
]
