-- Which right blocks a left block can be sent to, the left blocks before it keeping theirs.
-- Idea: the right blocks that searches in vain have reached are shut: no pair leads from one of
-- their left blocks to one that is live. So a chain from a shut one never comes to the right block
-- that l has, which is live; by the theorem on chains l cannot be sent there. Where a search comes
-- to that right block, the exchange gives l the one right block that it was offered.
use Rattle.std.proofs.Common.{◌≡◌, ℕ, ◌+◌, ◌<◌, ◌≤◌, Bool, true, false, not, ◌&&◌, ◌||◌, ◌==◌}
use Rattle.std.proofs.Common.{nat_lt, ◌⊎◌, List, length, sym, refl, ap, ◌∙◌, subst, inl, inr, arith}
use Rattle.std.proofs.lemmas.Bool.Decides.{nat_tests}
use Rattle.std.proofs.lemmas.Bool.{cases_eq, cases_lt, cases_Bool, both_ways}
use Rattle.std.proofs.lemmas.Bool.{ltb-false}
use Rattle.blockset.specs.declared.TheConstants.{MOST_BLOCKS, SET_WIDTH}
use Rattle.blockset.specs.declared.BlockSet.{BlockSet}
use Rattle.blockset.specs.Has.{has, IsEmpty, IsLeast}
use Rattle.blockset.specs.Sets.{members}
use Rattle.blockset.proofs.Members.{members_less}
use Rattle.pairing.specs.Grid.{at}
use Rattle.pairing.specs.Chains.{AgreeBelow, HasChain, here, step}
use Rattle.pairing.specs.Rows.{holds, IsPerfectOver}
use Rattle.pairing.proofs.Sending.{sends_if_chain}
use Rattle.matching.specs.declared.chains.Bounds.{Bounds}
use Rattle.matching.specs.declared.chains.Holders.{Holders}
use Rattle.matching.specs.declared.chains.Reach.{Reach}
use Rattle.matching.specs.Exchange.{without, GivesDistinct, AreHolders, AreHoldersFrom, HasWaysBack}
use Rattle.matching.specs.Exchange.{IsExchanged}
use Rattle.matching.specs.Search.{is_along, IsReach, IsComplete}
use Rattle.matching.specs.Improving.{IsImproved, IsUnimproved}
use Rattle.matching.proofs.Alone.{IsAlone, one_in, one_is, one_not, one_other, none_left}
use Rattle.matching.proofs.Held.{after_alone, all_back, ways_from}

-- l's row, the right blocks that are live, and those below a floor
abbrev pub candidate : (rows : List BlockSet) (l floor : ℕ) (live : BlockSet) → ℕ → Bool
candidate rows l floor live c = (holds rows l c && has live c) && not (nat_lt c floor)

-- left block l is to be sent to a right block from floor on: what is kept while one after the other
-- of the candidates is tried
pub record Trying (rows : List BlockSet) (l floor : ℕ) (p : List ℕ) (h : Holders)
    (live candidates : BlockSet) : Type 0 where
  pub few : length rows ≤ MOST_BLOCKS
  pub pairs : IsPerfectOver rows p
  pub room : l < length rows
  pub holders : AreHoldersFrom (l + 1) p h
  pub within : (c : ℕ) → has live c ≡ true → (m : ℕ) × (l ≤ m) × (m < length rows) × (at p m ≡ c)
  pub own : has live (at p l) ≡ true
  pub shut : (m x : ℕ) → l ≤ m → m < length rows → l ≤ x → x < length rows
      → has live (at p m) ≡ false → holds rows m (at p x) ≡ true → has live (at p x) ≡ false
  pub left : (c : ℕ) → has candidates c ≡ candidate rows l floor live c

-- a search that is to send l to right block r
pub record Sending (rows : List BlockSet) (l : ℕ) (p : List ℕ) (b : Bounds) (r : ℕ) : Type 0 where
  pub roots : IsAlone b.roots l
  pub offer : IsAlone b.offer r
  pub goals : IsAlone b.goals (at p l)
  pub stands : holds rows l r ≡ true
  pub live : has b.live r ≡ true

-- before the first search all right blocks of left blocks from l on are live
pub trying_start : {rows : List BlockSet} {l floor : ℕ} {p : List ℕ} {h : Holders}
    {live candidates : BlockSet} → length rows ≤ MOST_BLOCKS → IsPerfectOver rows p
    → l < length rows → AreHoldersFrom (l + 1) p h → {goals : BlockSet} → IsAlone goals (at p l)
    → ((j : ℕ) → has live j ≡ (has h.held j || has goals j))
    → ((j : ℕ) → has candidates j ≡ candidate rows l floor live j)
    → Trying rows l floor p h live candidates
trying_start {rows = rows} {l = l} {p = p} {h = h} {live = live} few pairs room holders
    {goals = goals} own live-is left = record {
      few = few;
      pairs = pairs;
      room = room;
      holders = holders;
      within = λ c t. elim (cases_Bool (has h.held c)) [
        | inl e ↦ (
          at h.owner c,
          omega (arith, holders.low c e),
          omega (arith, holders.high c e, pairs.len),
          holders.owner c e,
        )
        | inr e ↦ (let z = live-is c in (l, omega arith, room, sym (one_is own c (grind arith))))
      ];
      own = all_live l (omega arith) room;
      shut = λ m x le lt _ _ f _. absurd (both_ways (has live (at p m)) f (all_live m le lt));
      left = left;
    }
  where
    all_live : (m : ℕ) → l ≤ m → m < length rows → has live (at p m) ≡ true
    all_live m le lt = let z = live-is (at p m) in elim (cases_eq m l) [
      | inl e ↦ (let g = ap (λ x. has goals (at p x)) e ∙ one_in own in grind arith)
      | inr ne ↦
          (let w = holders.all m (omega arith) (omega (arith, pairs.len)) refl in grind arith)
    ]

module _ {rows : List BlockSet} {l floor : ℕ} {p : List ℕ} {h : Holders}
    {live candidates : BlockSet} (t : Trying rows l floor p h live candidates) where
  stays_shut : (r : ℕ) → has live r ≡ false → (c : ℕ) → HasChain (length rows) l (holds rows) p r c
      → (x : ℕ) → l ≤ x → x < length rows → at p x ≡ c → has live c ≡ false
  stays_shut r f _ here x low high e = f
  stays_shut r f _ (step m c le lt w ok) x low high e =
      ap (has live) (sym e) ∙ t.shut m x le lt low high (stays_shut r f (at p m) w m le lt refl)
      (ap (holds rows m) e ∙ ok)

  -- what a pairing gives l is live, and if not below the floor a candidate
  sent_live : (q : List ℕ) → IsPerfectOver rows q → AgreeBelow l p q → has live (at q l) ≡ true
  sent_live q g a = elim (cases_Bool (has live (at q l))) [
    | inl o ↦ o
    | inr f ↦
        let chain =
        ((sends_if_chain (length rows) l (holds rows) p t.pairs l (at q l)
        (omega arith) t.room (g.below l t.room)).1 (q, g, a, refl)).1 in
        absurd (both_ways (has live (at p l))
        (stays_shut (at q l) f (at p l) chain l (omega arith) t.room refl) t.own)
  ]

  sent_candidate : (q : List ℕ) → IsPerfectOver rows q → AgreeBelow l p q → floor ≤ at q l
      → has candidates (at q l) ≡ true
  sent_candidate q g a up =
      let e = t.left (at q l) in
      let stands = g.standing l t.room in
      let o = sent_live q g a in
      grind (arith, nat_tests)

  -- so no pairing has one below the least candidate
  least : {r : ℕ} → IsLeast candidates r → (q : List ℕ) → IsPerfectOver rows q → AgreeBelow l p q
      → floor ≤ at q l → r ≤ at q l
  least {r = r} first q g a up = elim (cases_lt (at q l) r) [
    | inl less ↦
        absurd (both_ways (has candidates (at q l)) (first.2 (at q l) less)
        (sent_candidate q g a up))
    | inr le ↦ le
  ]

  pub unimproved : IsEmpty candidates → IsUnimproved rows l floor p p
  unimproved none = record {
    same = refl;
    none = λ q g a. elim (cases_lt (at q l) floor) [
      | inl less ↦ less
      | inr up ↦
          absurd (both_ways (has candidates (at q l)) (none (at q l)) (sent_candidate q g a up))
    ];
  }

  above : {r : ℕ} → IsLeast candidates r
      → (holds rows l r ≡ true) × (has live r ≡ true) × (floor ≤ r)
  above {r = r} first =
      let e = t.left r in
      let m = first.1 in
      (grind arith, grind arith, ltb-false r floor (grind arith))

  -- a pairing that gives l the least candidate is improved
  pub improved : {r : ℕ} {q : List ℕ} → IsLeast candidates r → IsPerfectOver rows q
      → AgreeBelow l p q
      → at q l ≡ r → IsImproved rows l floor p q
  improved first g a e = record {
    pairs = g;
    kept = a;
    above = omega (arith, (above first).2);
    least = λ q' g' a' up. omega (arith, least first q' g' a' up);
  }

  pub sending : {r : ℕ} {alone offer goals : BlockSet} → IsLeast candidates r → IsAlone alone l
      → IsAlone goals (at p l)
      → ((j : ℕ) → has offer j ≡ (nat_lt j SET_WIDTH && j == r))
      → Sending rows l p (record { roots = alone; offer = offer; live = live; goals = goals }) r
  sending first alone goals offer-is = record {
    roots = alone;
    offer = record { small = first.0; is = offer-is };
    goals = goals;
    stands = (above first).0;
    live = (above first).1;
  }

module _ {rows : List BlockSet} {l r floor : ℕ} {p : List ℕ} {b : Bounds} {h : Holders}
    {candidates : BlockSet} (f : Sending rows l p b r)
    (t : Trying rows l floor p h b.live candidates) where
  -- the holders of the left blocks from l on, l left out
  hold : AreHolders l p (has b.roots) h
  hold = after_alone f.roots t.holders

  pub along_inside : (m c : ℕ) → is_along rows b m c ≡ true → c < length rows
  along_inside m c a =
      let e = f.offer.is c in
      let at_r = λ (z : c ≡ r). ap (has b.live) z ∙ f.live in
      let v = t.within c (grind (arith, nat_tests)) in
      omega (arith, v.3, t.pairs.below v.0 v.2)

  -- a pair of another left block to a live right block
  along_live : (m c : ℕ) → (m ≡ l → ⊥) → holds rows m c ≡ true → has b.live c ≡ true
      → is_along rows b m c ≡ true
  along_live m c ne x o = let e = one_not f.roots m ne in grind arith

  along_offer : is_along rows b l r ≡ true
  along_offer =
      let e = one_in f.roots in
      let o = one_in f.offer in
      let t = f.stands in
      grind arith

  -- l's own right block is free while l is left out
  pub own_free : {c : ℕ} → has b.goals c ≡ true → (m : ℕ) → m < length p
      → has b.roots m ≡ false → at p m ≡ c → ⊥
  own_free {c = c} g m i o e = one_other f.roots m o
      (t.pairs.once m l (omega (arith, t.pairs.len)) t.room (e ∙ one_is f.goals c g))

  module _ {x : Reach} (w : IsReach rows b h x) where
    pub sending_ways : HasWaysBack p (has b.roots) x
    sending_ways = ways_from t.pairs.len w hold

    -- it came by no left block before l
    from_later : (c : ℕ) → has x.reached c ≡ true → l ≤ at x.from c
    from_later c y = elim (w.back c y) [
      | inl e ↦ (let z = one_is f.roots (at x.from c) e in omega arith)
      | inr v ↦ omega (arith, t.holders.low v.0 v.2, v.3)
    ]

    -- ---- the search was in vain: what it reached is shut

    own-not : IsComplete rows b h x → has x.reached (at p l) ≡ false
    own-not d = let goal = one_in f.goals in let e = d.no_goal (at p l) in grind arith

    module _ (d : IsComplete rows b h x) (live' candidates' : BlockSet)
        (live-is : (j : ℕ) → has live' j ≡ (has b.live j && not (has x.reached j)))
        (left : (j : ℕ) → has candidates' j ≡ (has candidates j && has live' j)) where
      off : (j : ℕ) → has b.live j ≡ false → has live' j ≡ false
      off j y = (let e = live-is j in grind arith)

      gone : (j : ℕ) → has x.reached j ≡ true → has live' j ≡ false
      gone j y = (let e = live-is j in grind arith)

      -- a left block from l on whose right block was live and is shut leads to no live one
      shut_on : (m k : ℕ) → l ≤ m → m < length rows → has b.live (at p m) ≡ true
          → has live' (at p m) ≡ false → holds rows m (at p k) ≡ true
          → has b.live (at p k) ≡ true → has x.reached (at p k) ≡ true
      shut_on m k le lt was f' ok o =
          let seen : has x.reached (at p m) ≡ true =
          (let e = live-is (at p m) in grind arith) in
          let ne : m ≡ l → ⊥ = λ e. both_ways (has x.reached (at p m))
          (ap (λ y. has x.reached (at p y)) e ∙ own-not d) seen in
          let had = hold.all m le (omega (arith, t.pairs.len)) (one_not f.roots m ne) in
          let whose : at h.owner (at p m) ≡ m =
          t.pairs.once (at h.owner (at p m)) m
          (omega (arith, hold.high (at p m) had, t.pairs.len)) lt
          (hold.owner (at p m) had) in
          d.onward (at p m) (at p k) seen had
          (subst (λ j. is_along rows b j (at p k) ≡ true) (sym whose)
          (along_live m (at p k) ne ok o))

      pub trying_more : Trying rows l floor p h live' candidates'
      trying_more = record {
        few = t.few;
        pairs = t.pairs;
        room = t.room;
        holders = t.holders;
        within = λ c o. t.within c (let e = live-is c in grind arith);
        own = (let e = live-is (at p l) in let o = own-not d in let was = t.own in grind arith);
        shut = λ m k le lt low high f' ok. elim (cases_Bool (has b.live (at p m))) [
          | inr z ↦ off (at p k) (t.shut m k le lt low high z ok)
          | inl z ↦ elim (cases_Bool (has b.live (at p k))) [
            | inr y ↦ off (at p k) y
            | inl y ↦ gone (at p k) (shut_on m k le lt z f' ok y)
          ]
        ];
        left = λ j. let e₀ = t.left j in let e₁ = live-is j in let e₂ = left j in grind arith;
      }

      -- and the candidate is none any more
      pub fewer : IsLeast candidates r
          → members SET_WIDTH (has candidates') < members SET_WIDTH (has candidates)
      fewer first =
          let out : has candidates' r ≡ false =
          (let e₁ = left r in
          let e₂ = gone r (d.rooted l r (one_in f.roots) along_offer) in grind arith) in
          members_less SET_WIDTH (has candidates) (has candidates') r first.0
          (λ j y. (let e = left j in grind arith)) first.1 out

    -- ---- it came to l's own right block, and the pairs along the chain were exchanged

    module _ {q : List ℕ} {paired : ℕ} (e : IsExchanged p q (has b.roots) x paired) where
      all : (m : ℕ) → without (has b.roots) paired m ≡ false
      all = none_left f.roots paired e.was_out

      by : (m : ℕ) → has x.reached (at q m) ≡ true → at x.from (at q m) ≡ m
          → is_along rows b m (at q m) ≡ true
      by m y z = subst (λ k. is_along rows b k (at q m) ≡ true) z (w.by (at q m) y)

      came : (m : ℕ) → m < length rows → ((m ≡ paired → ⊥) × (at q m ≡ at p m))
          ⊎ ((has x.reached (at q m) ≡ true) × (at x.from (at q m) ≡ m))
      came m i = e.came m (omega (arith, t.pairs.len))

      pub sent_pairs : IsPerfectOver rows q
      sent_pairs =
          let whole = subst (λ n. GivesDistinct n q (without (has b.roots) paired)) t.pairs.len
          e.distinct in
          record {
            len = whole.len;
            below = λ m j. whole.below m j (all m);
            standing = λ m j. elim (came m j) [
              | inl y ↦ ap (holds rows m) y.1 ∙ t.pairs.standing m j
              | inr y ↦ (let z = by m y.0 y.1 in grind arith)
            ];
            once = λ m k j i o. whole.once m k j i (all m) (all k) o;
          }

      pub sent_improved : IsLeast candidates r → IsImproved rows l floor p q
      sent_improved first = improved t first sent_pairs
          (λ m j. elim (came m (omega (arith, t.room))) [
            | inl y ↦ y.1
            | inr y ↦ absurd (omega (arith, from_later (at q m) y.0, y.1))
          ])
          (elim (came l t.room) [
            | inl y ↦ absurd (y.0 (sym (one_is f.roots paired e.was_out)))
            | inr y ↦ one_is f.offer (at q l)
                (let z = by l y.0 y.1 in let o = one_in f.roots in grind arith)
          ])

      pub sent_holders : {h' : Holders}
          → ((k : ℕ) → ((c : ℕ) → has x.reached c ≡ true → k ≤ at x.from c)
          → AreHolders k p (has b.roots) h → AreHolders k q (without (has b.roots) paired) h')
          → AreHoldersFrom l q h'
      sent_holders told = all_back all (told l from_later hold)

-- a pairing gives different right blocks, whichever left blocks are left out
pub pairs_distinct : (rows : List BlockSet) {p : List ℕ} → IsPerfectOver rows p → (out : ℕ → Bool)
    → GivesDistinct (length p) p out
pairs_distinct rows {p = p} h out = subst (λ n. GivesDistinct n p out) (sym h.len) (record {
  len = h.len;
  below = λ m j _. h.below m j;
  standing = λ m j _. refl;
  once = λ m k j i _ _. h.once m k j i;
})
