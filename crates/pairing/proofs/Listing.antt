-- `perfects` holds just the perfect pairings and `optima` just the optimum ones, in dictionary
-- order.
-- Idea: the lists of numbers below n are made in dictionary order, first number by first number,
-- and each list comes up. A test that tells what it should keeps just what it should, and leaves
-- the order. Of finitely many totals one is least, so that the second filter keeps something where
-- the first one does. An ascending list begins with its least member, so it is known by its
-- members.
use Rattle.std.proofs.Common.{◌≡◌, ℕ, zero, suc, ◌+◌, ◌-◌, ◌<◌, ◌≤◌, Bool, true, not, ◌&&◌, eqb}
use Rattle.std.proofs.Common.{ltb, ◌⊎◌, ◌↔◌, List, [], ◌∷◌, ◌++◌, map, filter, length, get_or, ℤ}
use Rattle.std.proofs.Common.{◌≤ℤ◌, Decides, Ordering, Less, Equal, Greater, sym, refl, ap, ◌∙◌}
use Rattle.std.proofs.Common.{subst, ap₂, inl, inr, arith}
use lib.Signed.{le_z}
use Rattle.std.specs.Prelude.{◌≢◌}
use Rattle.std.specs.List.{range_with_len, flat_map, All, AllPairs, Contains}
use Rattle.std.specs.Ordering.{is_le}
use Rattle.std.proofs.lemmas.Int.{ints}
use Rattle.std.proofs.lemmas.Bool.Decides.{Decides-and, Decides-not, Decides-eqb, Decides-like}
use Rattle.std.proofs.lemmas.Bool.Decides.{Decides-by_and}
use Rattle.std.proofs.lemmas.List.{length-map, get_or-map}
use Rattle.std.proofs.lemmas.List.Elements.{All-append, All-contains, All-contains_itself, All-cons}
use Rattle.std.proofs.lemmas.List.Elements.{All-filter, All-map, All-weaker, filter_passes}
use Rattle.std.proofs.lemmas.List.Elements.{Contains-append_cases, Contains-append_left}
use Rattle.std.proofs.lemmas.List.Elements.{Contains-append_right, Contains-get_or}
use Rattle.std.proofs.lemmas.List.Folds.{Any-from_list_any, list_any-from_Any}
use Rattle.std.proofs.lemmas.List.FromFn.{length-range_with_len, get_or-range_with_len}
use Rattle.std.proofs.lemmas.List.Kept.{AllPairs-cons, AllPairs-filter}
use Rattle.std.proofs.lemmas.Bool.{cases_Bool, cases_order, true≢false, cond_both, both_ways}
use Rattle.std.proofs.lemmas.Bool.{eqb-true, eq-eqb, and_parts, and_from, ltb-true, lt-ltb}
use Rattle.cost.specs.Columns.{lex}
use Rattle.cost.specs.Weights.{weight}
use Rattle.pairing.specs.Grid.{Grid, IsSane, at, IsPerfect, IsPerfectIn, IsOptimum, total, IsUpto}
use Rattle.pairing.specs.Optima.{IsBefore, lists, is_perfect, perfects, is_upto, is_least, optima}
use Rattle.pairing.specs.Optima.{has_pair}
use Rattle.pairing.proofs.Members.{all_below, all_tells}
use Rattle.pairing.specs.Theorems.{IsListOf, PerfectsAre, PairsAre, OptimaAre, MarksAre}
use Rattle.pairing.proofs.Weighing.{total_from}

-- ---- members

module _ {X : Type 0} where
  first_in : (xs : List X) (x : X) → Contains (x ∷ xs) x
  first_in xs x = (0, omega arith, refl)

  later_in : (xs : List X) (y x : X) → Contains xs x → Contains (y ∷ xs) x
  later_in xs y x h = (suc h.0, omega (arith, h.1), h.2)

  in_cases : (xs : List X) (y x : X) → Contains (y ∷ xs) x → (x ≡ y) ⊎ Contains xs x
  in_cases xs y x (zero, h, e) = inl (sym e)
  in_cases xs y x (suc k, h, e) = inr (k, omega arith, e)

  module _ (t : X → Bool) (x : X) where
    kept : (xs : List X) → t x ≡ true → Contains xs x → Contains (filter t xs) x
    kept [] p h = absurd (omega (arith, h.1))
    kept (y ∷ ys) p h =
        let w = in_cases ys y x h in
        cond_both (t y) (y ∷ filter t ys) (filter t ys) (λ zs. Contains zs x)
        (λ _. elim w [
          | inl e ↦ subst (λ z. Contains (z ∷ filter t ys) x) e (first_in (filter t ys) x)
          | inr k ↦ later_in (filter t ys) y x (kept ys p k)
        ])
        (λ f. elim w [
          | inl e ↦ absurd (both_ways (t y) f (ap t (sym e) ∙ p))
          | inr k ↦ kept ys p k
        ])

    in_filter : (xs : List X) → Contains (filter t xs) x ↔ (Contains xs x × (t x ≡ true))
    in_filter xs = (
      λ h. (
        All-contains (Contains xs) (filter t xs) x
            (All-filter t (Contains xs) xs (All-contains_itself xs)) h,
        All-contains (λ y. t y ≡ true) (filter t xs) x (filter_passes t xs) h,
      ),
      λ h. kept xs h.1 h.0,
    )

module _ {X Y : Type 0} where
  in_map : (f : X → Y) (y : Y) (xs : List X) → Contains (map f xs) y → (x : X) × Contains xs x
      × (y ≡ f x)
  in_map f y xs =
      let P : Y → Type 0 = λ y. (x : X) × Contains xs x × (y ≡ f x) in
      All-contains P (map f xs) y
      (All-map P f xs (λ k d h. (get_or xs k d, All-contains_itself xs k d h, refl)))

  map_in : (f : X → Y) (x : X) (xs : List X) → Contains xs x → Contains (map f xs) (f x)
  map_in f x xs h =
      (h.0, omega (arith, h.1, length-map xs f), get_or-map f xs h.0 x (f x) h.1 ∙ ap f h.2)

  in_joined : (f : X → List Y) (y : Y) (xs : List X) → Contains (flat_map f xs) y
      → (x : X) × Contains xs x × Contains (f x) y
  in_joined f y [] h = absurd (omega (arith, h.1))
  in_joined f y (x ∷ xs) h = elim (Contains-append_cases (f x) (flat_map f xs) y h) [
    | inl a ↦ (x, first_in xs x, a)
    | inr b ↦ let w = in_joined f y xs b in (w.0, later_in xs x w.0 w.1, w.2)
  ]

  joined_in : (f : X → List Y) (y : Y) (x : X) (xs : List X) → Contains xs x → Contains (f x) y
      → Contains (flat_map f xs) y
  joined_in f y x [] h k = absurd (omega (arith, h.1))
  joined_in f y x (z ∷ xs) h k = elim (in_cases xs z x h) [
    | inl e ↦ Contains-append_left (f z) (flat_map f xs) y (subst (λ w. Contains (f w) y) e k)
    | inr g ↦ Contains-append_right (f z) (flat_map f xs) y (joined_in f y x xs g k)
  ]

in_counting : (x a n : ℕ) → Contains (range_with_len a n) x → (a ≤ x) × (x < a + n)
in_counting x a n h =
    let long = length-range_with_len a n in
    let low : h.0 < n = omega (arith, h.1) in
    let e = get_or-range_with_len a n h.0 x low in
    let is : x ≡ a + h.0 = sym h.2 ∙ e in
    (omega arith, omega arith)

counting_in : (x a n : ℕ) → a ≤ x → x < a + n → Contains (range_with_len a n) x
counting_in x a n h k = (
  x - a,
  omega (arith, length-range_with_len a n),
  get_or-range_with_len a n (x - a) x (omega arith) ∙ omega arith,
)

-- what holds of the members holds of each
of_members : {X : Type 0} (P : X → Type 0) (xs : List X) → ((x : X) → Contains xs x → P x)
    → All P xs
of_members P xs h = All-weaker (Contains xs) P h xs (All-contains_itself xs)

-- ---- the lists of k numbers below n
in_lists : (n k : ℕ) (p : List ℕ) → Contains (lists n k) p → (length p ≡ k)
    × ((l : ℕ) → l < k → at p l < n)
in_lists n zero p h = elim (in_cases [] [] p h) [
  | inl e ↦ (ap length e, λ l j. absurd (omega arith))
  | inr z ↦ absurd (omega (arith, z.1))
]
in_lists n (suc k) p h =
    let w = in_joined (λ r. map (λ t. r ∷ t) (lists n k)) p (range_with_len 0 n) h in
    let v = in_map (λ t. w.0 ∷ t) p (lists n k) w.2 in
    let ih = in_lists n k v.0 v.1 in
    let first : w.0 < n = omega (arith, in_counting w.0 0 n w.1) in (
      ap length v.2 ∙ ap suc ih.0,
      λ l j. subst (λ q. at q l < n) (sym v.2) (below w.0 v.0 l j first ih.1),
    )
  where
    below : (x : ℕ) (xs : List ℕ) (l : ℕ) → l < suc k → x < n → ((l : ℕ) → l < k → at xs l < n)
        → at (x ∷ xs) l < n
    below x xs zero j f g = f
    below x xs (suc l) j f g = g l (omega arith)

lists_in : (n k : ℕ) (p : List ℕ) → length p ≡ k → ((l : ℕ) → l < k → at p l < n)
    → Contains (lists n k) p
lists_in n zero [] e h = first_in [] []
lists_in n zero (x ∷ p) e h = absurd (omega arith)
lists_in n (suc k) [] e h = absurd (omega arith)
lists_in n (suc k) (x ∷ p) e h =
    joined_in (λ r. map (λ t. r ∷ t) (lists n k)) (x ∷ p) x (range_with_len 0 n)
    (counting_in x 0 n (omega arith) (omega (arith, h 0 (omega arith))))
    (map_in (λ t. x ∷ t) p (lists n k)
    (lists_in n k p (omega arith) (λ l j. h (suc l) (omega arith))))

-- ---- the tests
le_tells : (o : Ordering) → Decides (is_le o) (o ≡ Greater → ⊥)
le_tells Less = (λ _ e. cc, λ _. refl)
le_tells Equal = (λ _ e. cc, λ _. refl)
le_tells Greater = (λ e. absurd (true≢false (sym e)), λ f. absurd (f refl))

pub upto_tells : (xs ys : List ℤ) → Decides (is_upto xs ys) (IsUpto xs ys)
upto_tells xs ys = le_tells (lex xs ys)

module _ (n : ℕ) (stands : ℕ → ℕ → Bool) where
  perfect_tells : (p : List ℕ) → Decides (is_perfect n stands p)
      ((l : ℕ) → l < n → (stands l (at p l) ≡ true) × ((m : ℕ) → m < l → at p l ≡ at p m → ⊥))
  perfect_tells p =
      all_tells n (λ l. stands l (at p l) && all_below l (λ m. not (eqb (at p l) (at p m))))
      (λ l. (stands l (at p l) ≡ true) × ((m : ℕ) → m < l → at p l ≡ at p m → ⊥)) (λ l.
      Decides-and _ _ (λ e. e, λ e. e)
      (all_tells l (λ m. not (eqb (at p l) (at p m))) (λ m. at p l ≡ at p m → ⊥)
      (λ m. Decides-not _ (Decides-eqb (at p l) (at p m)))))

  pub in_perfects : (p : List ℕ) → Contains (perfects n stands) p ↔ IsPerfect n stands p
  in_perfects p = (
    λ h.
        let w = (in_filter (is_perfect n stands) p (lists n n)).0 h in
        let v = in_lists n n p w.0 in
        let u = (perfect_tells p).0 w.1 in
        record {
          len = v.0;
          below = v.1;
          standing = λ l j. (u l j).0;
          once = λ l m i j e. elim (cases_order l m) [
            | inl s ↦ s
            | inr d ↦ elim d [
              | inl a ↦ absurd ((u m j).1 l a (sym e))
              | inr b ↦ absurd ((u l i).1 m b e)
            ]
          ];
        },
    λ h.
        (in_filter (is_perfect n stands) p (lists n n)).1 (
          lists_in n n p h.len h.below,
          (perfect_tells p).1
              (λ l j. (h.standing l j, λ m k e. omega (arith, h.once l m j (omega arith) e))),
        ),
  )

module _ (g : Grid) where
  all_perfect : List (List ℕ)
  all_perfect = perfects g.size g.stands

  least_tells : (xs : List ℤ) (qs : List (List ℕ)) → Decides (is_least g xs qs)
      (All (λ q. IsUpto xs (total g q)) qs)
  least_tells xs = Decides-by_and (λ q. is_upto xs (total g q)) (λ q. IsUpto xs (total g q))
      (is_least g xs) (λ q. upto_tells xs (total g q)) refl (λ _ _. refl)

  pub in_optima : (p : List ℕ) → Contains (optima g) p ↔ IsOptimum g p
  unfolding all_perfect
  in_optima p =
      let kept = in_filter (λ p. is_least g (total g p) all_perfect) p all_perfect in
      let tells = least_tells (total g p) all_perfect in
      let are = in_perfects g.size g.stands in (
        λ h. let w = kept.0 h in
            record {
              perfect = (are p).0 w.0;
              least = λ q k. All-contains (λ q. IsUpto (total g p) (total g q)) all_perfect q
                  (tells.0 w.1) ((in_perfects g.size g.stands q).1 k);
            },
        λ o. kept.1 (
          (are p).1 o.perfect,
          tells.1 (of_members _ all_perfect (λ q k. o.least q ((are q).0 k))),
        ),
      )

-- ---- the order

module _ (R : List ℕ → List ℕ → Type 0) (p : List ℕ) (ps : List (List ℕ))
    (h : AllPairs R (p ∷ ps)) where
  head_all : All (R p) ps
  head_all k d l = h 0 (suc k) d (omega arith) (omega arith)

  tail_pairs : AllPairs R ps
  tail_pairs i j d l k = h (suc i) (suc j) d (omega arith) (omega arith)

ascending_map : (r : ℕ) (ps : List (List ℕ)) → AllPairs IsBefore ps
    → AllPairs IsBefore (map (λ t. r ∷ t) ps)
ascending_map r ps h i j d l k =
    let long = length-map ps (λ t. r ∷ t) in
    rw (
      get_or-map (λ t. r ∷ t) ps i [] d (omega arith),
      get_or-map (λ t. r ∷ t) ps j [] d (omega arith),
    ) (inr (refl, h i j [] l (omega arith)))

ascending_append : (ps qs : List (List ℕ)) → AllPairs IsBefore ps → AllPairs IsBefore qs
    → All (λ p. All (IsBefore p) qs) ps → AllPairs IsBefore (ps ++ qs)
ascending_append [] qs h k c = k
ascending_append (p ∷ ps) qs h k c =
    AllPairs-cons IsBefore p (ps ++ qs)
    (All-append (IsBefore p) ps qs (head_all IsBefore p ps h) (c 0 p (omega arith)))
    (ascending_append ps qs (tail_pairs IsBefore p ps h) k (λ j d l. c (suc j) d (omega arith)))

-- the lists that begin with r, for r from a to a + m - 1, over the same tails
ascending_heads : (tails : List (List ℕ)) → AllPairs IsBefore tails → (m a : ℕ)
    → AllPairs IsBefore (flat_map (λ r. map (λ t. r ∷ t) tails) (range_with_len a m))
ascending_heads tails h zero a i j d l k = absurd (omega arith)
ascending_heads tails h (suc m) a i j d l k =
    let behind = flat_map (λ r. map (λ t. r ∷ t) tails) (range_with_len (a + 1) m) in
    ascending_append (map (λ t. a ∷ t) tails) behind (ascending_map a tails h)
    (ascending_heads tails h m (a + 1))
    (of_members _ (map (λ t. a ∷ t) tails) (λ p in_p. of_members (IsBefore p) behind (λ q in_q.
    let u = in_map (λ t. a ∷ t) p tails in_p in
    let w = in_joined (λ r. map (λ t. r ∷ t) tails) q (range_with_len (a + 1) m) in_q in
    let v = in_map (λ t. w.0 ∷ t) q tails w.2 in
    subst (λ x. IsBefore x q) (sym u.2) (subst (IsBefore (a ∷ u.0)) (sym v.2)
    (inl (omega (arith, in_counting w.0 (a + 1) m w.1))))))) i j d l k

ascending_lists : (n k : ℕ) → AllPairs IsBefore (lists n k)
ascending_lists n zero i j d l k = absurd (omega arith)
ascending_lists n (suc k) i j d l h =
    ascending_heads (lists n k) (ascending_lists n k) n 0 i j d l h

pub perfects_ascend : (n : ℕ) (stands : ℕ → ℕ → Bool) → AllPairs IsBefore (perfects n stands)
perfects_ascend n stands =
    AllPairs-filter IsBefore (is_perfect n stands) (lists n n) (ascending_lists n n)

pub optima_ascend : (g : Grid) → AllPairs IsBefore (optima g)
optima_ascend g =
    AllPairs-filter IsBefore _ (perfects g.size g.stands) (perfects_ascend g.size g.stands)

pub before_irrefl : (p : List ℕ) → IsBefore p p → ⊥
before_irrefl [] h = h
before_irrefl (x ∷ p) h = elim h [ inl a ↦ omega arith | inr b ↦ before_irrefl p b.1 ]

pub before_asym : (p q : List ℕ) → IsBefore p q → IsBefore q p → ⊥
before_asym [] [] h k = h
before_asym [] (y ∷ q) h k = k
before_asym (x ∷ p) [] h k = h
before_asym (x ∷ p) (y ∷ q) h k =
    elim h [
      | inl a ↦ elim k [ inl b ↦ omega arith | inr b ↦ omega (arith, b.0) ]
      | inr a ↦
          elim k [ inl b ↦ omega (arith, a.0) | inr b ↦ before_asym p q a.1 b.1 ]
    ]

ascending_distinct : (ps : List (List ℕ)) → AllPairs IsBefore ps → AllPairs ◌≢◌ ps
ascending_distinct ps h i j d l k e = before_irrefl (get_or ps j d)
    (subst (λ x. IsBefore x (get_or ps j d)) e (h i j d l k))

-- the first elements of two ascending lists with the same members
first_same : (x y : List ℕ) (xs ys : List (List ℕ)) → All (IsBefore x) xs → All (IsBefore y) ys
    → Contains (y ∷ ys) x → Contains (x ∷ xs) y → x ≡ y
first_same x y xs ys a b i j = elim (in_cases ys y x i) [
  | inl e ↦ e
  | inr h ↦ elim (in_cases xs x y j) [
    | inl e ↦ sym e
    | inr k ↦ absurd
        (before_asym x y (All-contains (IsBefore x) xs y a k) (All-contains (IsBefore y) ys x b h))
  ]
]

rest_in : (x y : List ℕ) (xs ys : List (List ℕ)) → x ≡ y → All (IsBefore x) xs
    → ((p : List ℕ) → Contains (x ∷ xs) p → Contains (y ∷ ys) p) → (p : List ℕ) → Contains xs p
    → Contains ys p
rest_in x y xs ys e a f p h = elim (in_cases ys y p (f p (later_in xs x p h))) [
  | inl s ↦ absurd (before_irrefl x
      (subst (IsBefore x) (s ∙ sym e) (All-contains (IsBefore x) xs p a h)))
  | inr k ↦ k
]

-- a list is known by its members, if it ascends
pub ascending_same : (xs ys : List (List ℕ)) → AllPairs IsBefore xs → AllPairs IsBefore ys
    → ((p : List ℕ) → Contains xs p ↔ Contains ys p) → xs ≡ ys
ascending_same [] [] h k f = refl
ascending_same [] (y ∷ ys) h k f = absurd (omega (arith, ((f y).1 (first_in ys y)).1))
ascending_same (x ∷ xs) [] h k f = absurd (omega (arith, ((f x).0 (first_in xs x)).1))
ascending_same (x ∷ xs) (y ∷ ys) h k f =
    let a = head_all IsBefore x xs h in
    let b = head_all IsBefore y ys k in
    let e = first_same x y xs ys a b ((f x).0 (first_in xs x)) ((f y).1 (first_in ys y)) in
    let rests = ascending_same xs ys (tail_pairs IsBefore x xs h) (tail_pairs IsBefore y ys k) in
    ap₂ ◌∷◌ e (rests (λ p. (
      rest_in x y xs ys e a (λ p. (f p).0) p,
      rest_in y x ys xs (sym e) b (λ p. (f p).1) p,
    )))

-- ---- an ascending list of just what has the property
module _ (P : List ℕ → Type 0) (ps : List (List ℕ)) (are : (p : List ℕ) → Contains ps p ↔ P p) where
  list_of : AllPairs IsBefore ps → IsListOf P ps
  list_of h = record {
    are = are;
    ascend = h;
    distinct = ascending_distinct ps h;
    only = λ qs k those. ascending_same qs ps k h
        (λ p. (λ i. (are p).1 ((those p).0 i), λ i. (those p).1 ((are p).0 i)));
  }

  -- it holds one exactly if something has the property
  some_of : Decides (ltb 0 (length ps)) ((p : List ℕ) × P p)
  some_of = (
    λ e. (
      get_or ps 0 [],
      (are (get_or ps 0 [])).0
          (Contains-get_or ps 0 [] (ltb-true 0 (length ps) e)),
    ),
    λ w. lt-ltb 0 (length ps) (omega (arith, ((are w.0).1 w.1).1)),
  )

  none_of : (ps ≡ []) ↔ ((p : List ℕ) → P p → ⊥)
  none_of = (
    λ e p h. omega (arith, ap length e, ((are p).1 h).1),
    λ no_one. nothing ps (λ p i. no_one p ((are p).0 i)),
  )
    where
      nothing : (qs : List (List ℕ)) → ((p : List ℕ) → Contains qs p → ⊥) → qs ≡ []
      nothing [] no_one = refl
      nothing (q ∷ qs) no_one = absurd (no_one q (first_in qs q))

pub perfects_are : PerfectsAre
perfects_are n stands =
    let are = in_perfects n stands in
    record {
      list = list_of (IsPerfect n stands) (perfects n stands) are (perfects_ascend n stands);
      none = none_of (IsPerfect n stands) (perfects n stands) are;
      some = some_of (IsPerfect n stands) (perfects n stands) are;
    }

-- ---- where a perfect pairing is, an optimum one is

-- the pairing costs at least what weighs w
abbrev CostsAtLeast : Grid → ℤ → List ℕ → Type 0
CostsAtLeast g w p = w ≤ℤ weight (total g p)

-- one of the pairings has the least total
least : (g : Grid) (q : List ℕ) (qs : List (List ℕ)) → (p : List ℕ) × Contains (q ∷ qs) p
    × All (CostsAtLeast g (weight (total g p))) (q ∷ qs)
least g q [] = (
  q,
  first_in [] q,
  All-cons (CostsAtLeast g (weight (total g q))) q [] (omega (arith, ints))
      (λ k d h. absurd (omega arith)),
)
least g q (x ∷ qs) =
    let w = least g x qs in
    let ours = CostsAtLeast g (weight (total g q)) in
    let theirs = CostsAtLeast g (weight (total g w.0)) in
    elim (cases_Bool (le_z (weight (total g q)) (weight (total g w.0)))) [
      | inl e ↦ (
        q,
        first_in (x ∷ qs) q,
        All-cons ours q (x ∷ qs) (omega (arith, ints))
            (All-weaker theirs ours (λ y h. omega (arith, ints)) (x ∷ qs) w.2),
      )
      | inr e ↦ (
        w.0,
        later_in (x ∷ qs) q w.0 w.1,
        All-cons theirs q (x ∷ qs) (omega (arith, ints)) w.2,
      )
    ]

module _ (g : Grid) (s : IsSane g) where
  some_optimum : (ps : List (List ℕ)) → ((p : List ℕ) → Contains ps p ↔ IsPerfectIn g p)
      → (p : List ℕ) → Contains ps p → (q : List ℕ) × IsOptimum g q
  some_optimum [] are p i = absurd (omega (arith, i.1))
  some_optimum (x ∷ ps) are p i =
      let w = least g x ps in
      let k = (are w.0).0 w.1 in (
        w.0,
        record {
          perfect = k;
          least = λ q h. total_from g s w.0 q k h
              (All-contains (CostsAtLeast g (weight (total g w.0))) (x ∷ ps) q w.2
              ((are q).1 h));
        },
      )

  pub optimum_exists : (p : List ℕ) → IsPerfectIn g p → (q : List ℕ) × IsOptimum g q
  optimum_exists p h = let are = in_perfects g.size g.stands in
      some_optimum (perfects g.size g.stands) are p ((are p).1 h)

-- so some pairing is perfect exactly if some is optimum
pub optima_are : OptimaAre
optima_are g =
    let are = in_optima g in
    let none = none_of (IsOptimum g) (optima g) are in
    record {
      list = list_of (IsOptimum g) (optima g) are (optima_ascend g);
      none = λ s. (
        λ e p h. let o = optimum_exists g s p h in none.0 e o.0 o.1,
        λ no_one. none.1 (λ p o. no_one p o.perfect),
      );
      some = λ s. Decides-like _ (λ o. (o.0, o.1.perfect)) (λ w. optimum_exists g s w.0 w.1)
          (some_of (IsOptimum g) (optima g) are);
    }

-- ---- the pairs
pub has_tells : (l r : ℕ) (ps : List (List ℕ)) → Decides (has_pair l r ps)
    ((p : List ℕ) × Contains ps p × (at p l ≡ r))
has_tells l r ps = (
  λ e. let w = Any-from_list_any (λ p. eqb (at p l) r) ps e in
      (w.1, (w.0, w.2, w.3), eqb-true (at w.1 l) r w.4),
  λ w. list_any-from_Any (λ p. eqb (at p l) r) ps
      (w.1.0, w.0, w.1.1, w.1.2, eq-eqb (at w.0 l) r w.2),
)

pub marks_are : MarksAre
marks_are g l r =
    let h = has_tells l r (optima g) in (
      λ e.
          let b = and_parts (ltb l g.size) (has_pair l r (optima g)) e in
          let w = h.0 b.1 in
          record {
            inside = ltb-true l g.size b.0;
            pairing = w.0;
            optimum = (in_optima g w.0).0 w.1;
            has = w.2;
          },
      λ w. and_from (ltb l g.size) (has_pair l r (optima g)) (lt-ltb l g.size w.inside)
          (h.1 (w.pairing, (in_optima g w.pairing).1 w.optimum, w.has)),
    )

pub pairs_are : PairsAre
pairs_are n stands l r i =
    let h = has_tells l r (perfects n stands) in (
      λ t.
          let w = h.0 t in
          record {
            inside = i;
            pairing = w.0;
            perfect = (in_perfects n stands w.0).0 w.1;
            has = w.2;
          },
      λ w. h.1 (w.pairing, (in_perfects n stands w.pairing).1 w.perfect, w.has),
    )
