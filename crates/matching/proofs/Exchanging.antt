-- The exchange along a chain, step by step.
-- Idea: at each step one right block is free and the left block from which it was reached is to
-- take it: the state that the pairing crate calls a hole. A left block of `out` has rank 0, any
-- other one more than the rank of its right block, so ranks fall along the chain and what comes
-- later is still as it was. The holders tell of every right block but the free one.
use Rattle.std.proofs.Common.{◌≡◌, ℕ, suc, ◌<◌, ◌≤◌, Bool, true, false, if◌then◌else◌, ◌||◌, ◌⊎◌}
use Rattle.std.proofs.Common.{List, length, slice_set, sym, refl, ap, ◌∙◌, subst, inl, inr, arith}
use Rattle.std.proofs.lemmas.List.{get_or-set_same, get_or-set_other, length-set}
use Rattle.std.proofs.lemmas.Bool.Decides.{nat_tests}
use Rattle.std.proofs.lemmas.Bool.{cases_eq, cases_Bool, or_left, or_right, both_ways, cond-true}
use Rattle.std.proofs.lemmas.Bool.{cond-false}
use Rattle.blockset.specs.Has.{has}
use Rattle.pairing.specs.Grid.{at}
use Rattle.pairing.proofs.Filling.{Hole, took, next}
use Rattle.matching.specs.declared.chains.Holders.{Holders}
use Rattle.matching.specs.declared.chains.Reach.{Reach}
use Rattle.matching.specs.Exchange.{without, AreHolders, HasWaysBack, IsExchanged}

-- a left block that is out of the set without another one is out of the set
pub without_from : (out : ℕ → Bool) (l x : ℕ) → without out l x ≡ false → (x ≡ l → ⊥)
    → out x ≡ false
without_from out l x f ne = grind (arith, nat_tests)

pub without_itself : (out : ℕ → Bool) (l : ℕ) → without out l l ≡ false
without_itself out l = grind (arith, nat_tests)

pub without_other : (out : ℕ → Bool) (l x : ℕ) → out x ≡ false → without out l x ≡ false
without_other out l x f = grind arith

module _ (p : List ℕ) (out : ℕ → Bool) (x : Reach) where
  -- the left blocks that a chain passes, and their ranks
  abbrev pub passed : ℕ → Bool
  passed l = out l || has x.reached (at p l)

  abbrev pub height : ℕ → ℕ
  height l = if out l then 0 else suc (at x.rank (at p l))

  -- the pairing q with a hole at `block`, and what has changed in it since `goal` was reached
  pub record Exchanging (goal : ℕ) (q : List ℕ) (block : ℕ) : Type 0 where
    pub hole : Hole (length p) (λ _ _. true) p out out passed height (suc (suc (at x.rank goal))) q
        block (at x.from block)
    pub member : has x.reached block ≡ true
    pub came : (l : ℕ) → l < length p → (at q l ≡ at p l)
        ⊎ ((has x.reached (at q l) ≡ true) × (at x.from (at q l) ≡ l))

  -- right block c is a left block's from k on that is not in `out`
  abbrev pub Owned : (k : ℕ) (out : ℕ → Bool) (q : List ℕ) (h : Holders) (c : ℕ) → Type 0
  Owned k out q h c = (k ≤ at h.owner c) × (at h.owner c < length p) × (out (at h.owner c) ≡ false)
      × (at q (at h.owner c) ≡ c)

  -- the holders tell of the left blocks of q from k on, but for the hole
  pub record Telling (k : ℕ) (q : List ℕ) (h : Holders) (block : ℕ) : Type 0 where
    pub taken : has h.held block ≡ true
    pub had : (l : ℕ) → k ≤ l → l < length p → out l ≡ false → has h.held (at q l) ≡ true
    pub owner : (c : ℕ) → has h.held c ≡ true → (c ≡ block → ⊥) → Owned k out q h c

module _ {p : List ℕ} {out : ℕ → Bool} {x : Reach} {goal block : ℕ} {q : List ℕ}
    (w : HasWaysBack p out x) (s : Exchanging p out x goal q block) where
  -- the left block that takes the right block, and the pairing then
  abbrev taker : ℕ
  taker = at x.from block

  abbrev given : List ℕ
  given = slice_set q taker block

  height_out : (l : ℕ) → out l ≡ true → height p out x l ≡ 0
  height_out l t = cond-true (out l) 0 (suc (at x.rank (at p l))) t

  height_in : (l : ℕ) → out l ≡ false → height p out x l ≡ suc (at x.rank (at p l))
  height_in l f = cond-false (out l) 0 (suc (at x.rank (at p l))) f

  at_taker : (m : ℕ) → m ≡ taker → at given m ≡ block
  at_taker m e = ap (at given) e
      ∙ get_or-set_same q taker block 0 (omega (arith, s.hole.part.len, s.hole.taker))

  at_other : (m : ℕ) → (m ≡ taker → ⊥) → at given m ≡ at q m
  at_other m ne = get_or-set_other q taker m block 0 ne

  came : (m : ℕ) → m ≡ taker → (has x.reached (at given m) ≡ true) × (at x.from (at given m) ≡ m)
  came m e = (ap (has x.reached) (at_taker m e) ∙ s.member, ap (at x.from) (at_taker m e) ∙ sym e)

  -- ---- the chain goes on

  module _ (f : out taker ≡ false) where
    same : at q taker ≡ at p taker
    same = s.hole.ahead taker s.hole.taker (omega arith)

    onward : (has x.reached (at p taker) ≡ true) × (at x.rank (at p taker) < at x.rank block)
    onward = w.back block s.member f

    -- the next left block of it
    passes : (passed p out x (at x.from (at p taker)) ≡ true)
        × (height p out x (at x.from (at p taker)) < height p out x taker)
    passes = let m = at x.from (at p taker) in elim (cases_Bool (out m)) [
      | inl r ↦ (or_left (out m) _ r, omega (arith, height_out m r, height_in taker f))
      | inr g ↦
          let v = w.back (at p taker) onward.0 g in
          (or_right (out m) _ v.0, omega (arith, height_in m g, height_in taker f, v.1))
    ]

    pub exchange_more : Exchanging p out x goal given (at q taker)
    exchange_more = record {
      hole = subst
          (λ m. Hole (length p) (λ _ _. true) p out out (passed p out x) (height p out x)
          (suc (suc (at x.rank goal))) given (at q taker) m) (ap (at x.from) (sym same))
          (next (length p) (λ _ _. true) p out out (passed p out x) (height p out x)
          (suc (suc (at x.rank goal))) q block taker s.hole f
          (at x.from (at p taker)) (w.taker (at p taker) onward.0) passes.0 refl passes.1);
      member = ap (has x.reached) same ∙ onward.0;
      came = λ m i. elim (cases_eq m taker)
          [ inl e ↦ inr (came m e) | inr ne ↦ rw (at_other m ne) (s.came m i) ];
    }

  -- ---- the chain ends

  pub exchange_done : out taker ≡ true → IsExchanged p given out x taker
  exchange_done t = record {
    inside = s.hole.taker;
    was_out = t;
    distinct = took (length p) (λ _ _. true) p out out (passed p out x) (height p out x)
        (suc (suc (at x.rank goal))) q block taker s.hole (without out taker)
        (without_from out taker);
    came = λ m i. elim (cases_eq m taker) [
      | inl e ↦ inr (came m e)
      | inr ne ↦ rw (at_other m ne)
          (elim (s.came m i) [ inl e ↦ inl (ne, e) | inr v ↦ inr v ])
    ];
    kept = λ m i o ne. at_other m ne ∙ s.hole.ahead m i (omega (arith, height_out m o));
  }

  -- ---- the holders

  module _ {k : ℕ} {h : Holders} (t : Telling p out x k q h block)
      (high : (c : ℕ) → has x.reached c ≡ true → k ≤ at x.from c) (wide : length p ≤ length h.owner)
    where
      abbrev told : Holders
      told = record { held = h.held; owner = slice_set h.owner block taker }

      row_here : (c : ℕ) → c ≡ block → at told.owner c ≡ taker
      row_here c e = ap (at told.owner) e
          ∙ get_or-set_same h.owner block taker 0 (omega (arith, s.hole.inside))

      has_it : (m : ℕ) → k ≤ m → m < length p → ((m ≡ taker → ⊥) → out m ≡ false)
          → has h.held (at given m) ≡ true
      has_it m le i f = elim (cases_eq m taker) [
        | inl e ↦ ap (has h.held) (at_taker m e) ∙ t.taken
        | inr ne ↦ ap (has h.held) (at_other m ne) ∙ t.had m le i (f ne)
      ]

      -- whose each right block is, told by those that are left out then
      owner : (rest : ℕ → Bool) → rest taker ≡ false → ((m : ℕ) → out m ≡ false → rest m ≡ false)
          → (c : ℕ) → has h.held c ≡ true → ((c ≡ block → ⊥) → at h.owner c ≡ taker → ⊥)
          → Owned p out x k rest given told c
      owner rest here others c held apart = elim (cases_eq c block) [
        | inl e ↦ rw (row_here c e)
            (high block s.member, s.hole.taker, here, at_taker taker refl ∙ sym e)
        | inr ne ↦
            let v = t.owner c held ne in
            rw (get_or-set_other h.owner block c taker 0 ne)
            (v.0, v.1, others (at h.owner c) v.2, at_other (at h.owner c) (apart ne) ∙ v.3)
      ]

      pub telling_more : out taker ≡ false → Telling p out x k given told (at q taker)
      telling_more f = record {
        taken = t.had taker (high block s.member) s.hole.taker f;
        had = λ m le i g. has_it m le i (λ _. g);
        owner = λ c held ne. owner out f (λ m g. g) c held
            (λ a e. ne (sym (t.owner c held a).3 ∙ ap (at q) e));
      }

      pub telling_done : out taker ≡ true → AreHolders k given (without out taker) told
      telling_done o = record {
        all = λ m le i g. has_it m le (omega (arith, long)) (without_from out taker m g);
        low = λ c held. (whose c held).0;
        high = λ c held. omega (arith, long, (whose c held).1);
        inside = λ c held. (whose c held).2;
        owner = λ c held. (whose c held).3;
      }
        where
          long : length given ≡ length p
          long = length-set q taker block ∙ s.hole.part.len

          whose : (c : ℕ) → has h.held c ≡ true → Owned p out x k (without out taker) given told c
          whose c held = owner (without out taker) (without_itself out taker)
              (without_other out taker) c held
              (λ ne e. both_ways (out taker) (ap out (sym e) ∙ (t.owner c held ne).2) o)
