-- A search from the left blocks that are left out: the exchange pairs one more, or none can be
-- paired more, and it has found the crowd set.
-- Idea: a search that reaches no free right block has reached, from the left blocks left out, all
-- that can be. So no augmenting path is left and the pairing is largest; and the left blocks that
-- were reached are the crowd set, which is short of as many right blocks as left blocks are left
-- out: these are theorems of the pairing crate.
use Rattle.std.proofs.Common.{◌≡◌, ℕ, zero, suc, ◌<◌, ◌≤◌, Bool, true, ◌&&◌, ◌||◌, ◌⊎◌, nat_lt}
use Rattle.std.proofs.Common.{List, length, ◌↔◌, IsTrue, sym, refl, ap, ◌∙◌, subst, inl, inr, arith}
use Rattle.std.proofs.lemmas.Bool.Decides.{nat_tests, Decides-at, Decides-like}
use Rattle.std.proofs.lemmas.Bool.{cases_Bool, both_ways, and_parts}
use Rattle.std.proofs.lemmas.Bool.{ltb-true}
use mathlib.Core.Path.{fun_ext}
use Rattle.blockset.specs.declared.TheConstants.{MOST_BLOCKS, SET_WIDTH}
use Rattle.blockset.specs.declared.BlockSet.{BlockSet}
use Rattle.blockset.specs.Has.{has, IsEmpty}
use Rattle.blockset.specs.Sets.{members, bit}
use Rattle.blockset.proofs.Members.{members_none, members-within}
use Rattle.pairing.specs.Grid.{at}
use Rattle.pairing.specs.Largest.{IsPartial, IsLargest, IsCrowdSet, HasNoPerfect}
use Rattle.pairing.specs.Chains.{IsReached, free, onward, IsStuck}
use Rattle.pairing.specs.Rows.{holds}
use Rattle.pairing.proofs.Crowds.{stuck_largest, reached_crowd, reached_inside, short_by}
use Rattle.matching.specs.declared.chains.Bounds.{Bounds}
use Rattle.matching.specs.declared.chains.Holders.{Holders}
use Rattle.matching.specs.declared.chains.Reach.{Reach}
use Rattle.matching.specs.Exchange.{without, GivesDistinct, AreHolders, IsExchanged}
use Rattle.matching.specs.Search.{is_along, IsReach, IsComplete}
use Rattle.matching.proofs.Exchanging.{without_from}

-- all right blocks below n are offered, and all are live
pub record IsWide (n : ℕ) (b : Bounds) : Type 0 where
  pub offer : (j : ℕ) → has b.offer j ≡ (nat_lt j SET_WIDTH && nat_lt j n)
  pub live : (j : ℕ) → has b.live j ≡ (nat_lt j SET_WIDTH && nat_lt j n)

along-holds : (rows : List BlockSet) (b : Bounds) (l c : ℕ) → is_along rows b l c ≡ true
    → holds rows l c ≡ true
along-holds rows b l c a = (and_parts (holds rows l c) _ a).0

-- a pairing so far: over the rows, with `out` left out, and the holders are those of it
pub record Pairing (rows : List BlockSet) (p : List ℕ) (out : BlockSet) (h : Holders) : Type 0 where
  pub few : length rows ≤ MOST_BLOCKS
  pub part : IsPartial (length rows) (holds rows) p (has out)
  pub inside : (l : ℕ) → has out l ≡ true → l < length rows
  pub holders : AreHolders 0 p (has out) h

module _ {rows : List BlockSet} {p : List ℕ} {b : Bounds} {h : Holders} {x : Reach}
    (w : IsReach rows b h x) (s : Pairing rows p b.roots h) where
  pub distinct : GivesDistinct (length p) p (has b.roots)
  distinct = subst (λ n. GivesDistinct n p (has b.roots)) (sym s.part.len) (record {
    len = s.part.len;
    below = s.part.below;
    standing = λ m j _. refl;
    once = s.part.once;
  })

  -- the exchange pairs one more
  pub paired_more : {q : List ℕ} {l : ℕ} {out' : BlockSet} {h' : Holders}
      → IsExchanged p q (has b.roots) x l
      → ((j : ℕ) → has out' j ≡ without (has b.roots) l j)
      → AreHolders 0 q (without (has b.roots) l) h'
      → Pairing rows q out' h'
  paired_more {q = q} {l = l} {out' = out'} {h' = h'} f is told = record {
    few = s.few;
    part = subst (IsPartial (length rows) (holds rows) q) (sym (fun_ext is)) (record {
      len = whole.len;
      below = whole.below;
      standing = λ j i o. elim (f.came j (omega (arith, s.part.len))) [
        | inl e ↦ ap (holds rows j) e.1
            ∙ s.part.standing j i (without_from (has b.roots) l j o e.0)
        | inr e ↦ subst (λ k. holds rows k (at q j) ≡ true) e.1
            (along-holds rows b (at x.from (at q j)) (at q j) (w.by (at q j) e.0))
      ];
      once = whole.once;
    });
    inside = λ j t. s.inside j (let e = is j in grind arith);
    holders = subst (λ o. AreHolders 0 q o h') (sym (fun_ext is)) told;
  }
    where
      whole : GivesDistinct (length rows) q (without (has b.roots) l)
      whole = subst (λ n. GivesDistinct n q (without (has b.roots) l)) s.part.len f.distinct

  -- ---- where no free right block is reached

  module _ (d : IsComplete rows b h x) (wide : IsWide (length rows) b)
      (taken : (c : ℕ) → has x.reached c ≡ true → has h.held c ≡ true) where
    abbrev IsReachedFromOut : ℕ → Type 0
    IsReachedFromOut = IsReached (length rows) (holds rows) p (has b.roots)

    inside : (l : ℕ) → IsReachedFromOut l → l < length rows
    inside l v = reached_inside (length rows) (holds rows) p (has b.roots) l v

    owner_below : (c : ℕ) → has h.held c ≡ true → at h.owner c < length rows
    owner_below c t = omega (arith, s.holders.high c t, s.part.len)

    -- the search goes along every pair to a right block below n
    wide_along : (l c : ℕ) → c < length rows → holds rows l c ≡ true → is_along rows b l c ≡ true
    wide_along l c i y =
        let o = wide.offer c in
        let v = wide.live c in
        let few = s.few in
        grind (arith, nat_tests)

    -- what a left block that is left out, or has a reached right block, can take is reached
    takes : (l c : ℕ) → l < length rows → c < length rows → holds rows l c ≡ true
        → (has b.roots l ≡ true) ⊎ (has x.reached (at p l) ≡ true) → has x.reached c ≡ true
    takes l c i j y from-where =
        let on = wide_along l c j y in
        elim (cases_Bool (has b.roots l)) [
          | inl t ↦ d.rooted l c t on
          | inr f ↦
              let had = s.holders.all l (omega arith) (omega (arith, s.part.len)) f in
              let whose : at h.owner (at p l) ≡ l =
              s.part.once (at h.owner (at p l)) l (owner_below (at p l) had) i
              (s.holders.inside (at p l) had) f (s.holders.owner (at p l) had) in
              d.onward (at p l) c
              (elim from-where [ inl t ↦ absurd (both_ways (has b.roots l) f t) | inr t ↦ t ])
              had (subst (λ k. is_along rows b k c ≡ true) (sym whose) on)
        ]

    reached_row : (l : ℕ) → IsReachedFromOut l
        → (has b.roots l ≡ true) ⊎ (has x.reached (at p l) ≡ true)
    reached_row _ (free l i t) = inl t
    reached_row _ (onward l m v i f t) =
        inr (takes l (at p m) (inside l v) (s.part.below m i f) t (reached_row l v))

    -- no augmenting path is left
    stuck : IsStuck (length rows) (holds rows) p (has b.roots)
    stuck l r v j t =
        let had = taken r (takes l r (inside l v) j t (reached_row l v)) in
        (at h.owner r, owner_below r had, s.holders.inside r had, s.holders.owner r had)

    pub most : IsLargest (length rows) (holds rows) p (has b.roots)
    most = stuck_largest (length rows) (holds rows) p (has b.roots) s.part stuck

    from_reached : (k c : ℕ) → at x.rank c < k → has x.reached c ≡ true
        → IsReachedFromOut (at x.from c)
    from_reached zero c less t = absurd (omega arith)
    from_reached (suc k) c less t = elim (w.back c t) [
      | inl r ↦ free (at x.from c) (w.high c t) r
      | inr v ↦
          let e = v.0 in
          subst IsReachedFromOut v.3
          (onward (at x.from e) (at h.owner e) (from_reached k e (omega (arith, v.4)) v.1)
          (owner_below e v.2) (s.holders.inside e v.2)
          (ap (holds rows (at x.from e)) (s.holders.owner e v.2)
          ∙ along-holds rows b (at x.from e) e (w.by e v.1)))
    ]

    module _ (X : ℕ → Bool)
        (is : (l : ℕ) → X l
        ≡ (has b.roots l || (nat_lt l (length p) && has x.reached (at p l)))) where
      crowd_reached : (l : ℕ) → IsTrue (X l) ↔ IsReachedFromOut l
      crowd_reached l = (
        λ t. elim (cases_Bool (has b.roots l)) [
          | inl o ↦ free l (s.inside l o) o
          | inr f ↦
              let both : (nat_lt l (length p) && has x.reached (at p l)) ≡ true =
              (let e = is l in grind arith) in
              let c = at p l in
              let t' : has x.reached c ≡ true = grind arith in
              onward (at x.from c) l (from_reached (suc (at x.rank c)) c (omega arith) t')
              (omega (arith, ltb-true l (length p) (grind arith), s.part.len)) f
              (along-holds rows b (at x.from c) c (w.by c t'))
        ],
        λ v.
            let e = is l in
            elim (reached_row l v) [
              | inl o ↦ grind arith
              | inr t ↦
                  let i = inside l v in
                  let len = s.part.len in
                  grind (arith, nat_tests)
            ],
      )

      -- so the crowd set and its shortage are known, where some left block is left out
      pub unpaired : (crowd short : ℕ) → ((l : ℕ) → bit crowd l ≡ X l)
          → short ≡ members SET_WIDTH (has b.roots) → (IsEmpty b.roots → ⊥)
          → HasNoPerfect (length rows) (holds rows) crowd short
      unpaired crowd short bits counted some =
          let crowd_set : IsCrowdSet (length rows) (holds rows) (bit crowd) = λ l.
          let e = reached_crowd (length rows) (holds rows) p (has b.roots) most l in
          Decides-at (bit crowd l) (X l) (bits l) (Decides-like (X l) e.0 e.1 (crowd_reached l)) in
          let number : members (length rows) (has b.roots) ≡ short =
          sym (counted ∙ members-within SET_WIDTH (length rows) (has b.roots) s.few s.inside) in
          let t = short_by (length rows) (holds rows) p (has b.roots) (bit crowd) most crowd_set in
          record {
            none = λ q g.
                let gone = members_none (length rows) (has b.roots) (t.2.1 (q, g)) in
                some (λ l. let here = s.inside l in let z = gone l in grind arith);
            crowd_set = crowd_set;
            shortage_is = t.0 ∙ number;
          }
