-- A left block can be sent to a right block, what some left blocks have being kept, exactly if a
-- chain leads back to its own right block.
-- Idea: leave l out, and let it stand with r alone: an augmenting path then ends at the right block
-- that l gave up, and its exchange makes a perfect pairing in which l has r. The chain is such a
-- path. The other way round, the right blocks that chains from r lead to are a set that no step
-- leaves; a pairing that gives l the block r gives it one of that set, so by counting p does too.
use Rattle.std.proofs.Common.{◌≡◌, ℕ, suc, ◌<◌, ◌≤◌, Bool, true, false, not, ◌&&◌, ◌||◌, eqb, ltb}
use Rattle.std.proofs.Common.{◌⊎◌, ◌↔◌, List, sym, refl, ap, ◌∙◌, subst, inl, inr, arith}
use Rattle.std.proofs.lemmas.Bool.Decides.{nat_tests}
use Rattle.std.proofs.lemmas.Bool.{cases_eq, cases_lt, and_parts, and_from, eqb-true, eq-eqb}
use Rattle.std.proofs.lemmas.Bool.{eqb-false}
use Rattle.pairing.specs.Grid.{at, IsPerfect}
use Rattle.pairing.specs.Largest.{IsPartial}
use Rattle.pairing.specs.Chains.{IsReached, free, onward, AgreeBelow, HasChain, here, step, Sends}
use Rattle.pairing.specs.Theorems.{SendsIfChain}
use Rattle.pairing.proofs.Members.{some_below, some_tells}
use Rattle.pairing.proofs.Closures.{closure, reached_all}
use Rattle.pairing.proofs.Counting.{given_alike}
use Rattle.pairing.proofs.Crowds.{augmented, partial_perfect}

-- the tight pairs of which those of left blocks below k are p's
abbrev pub pinned : ℕ → List ℕ → (ℕ → ℕ → Bool) → ℕ → ℕ → Bool
pinned k p tight l r = tight l r && (not (ltb l k) || eqb r (at p l))

pub pinned_agree : (n k : ℕ) (tight : ℕ → ℕ → Bool) (p q : List ℕ) → k ≤ n
    → IsPerfect n (pinned k p tight) q ↔ (IsPerfect n tight q × AgreeBelow k p q)
pinned_agree n k tight p q b = (
  λ h. (
    record {
      len = h.len;
      below = h.below;
      standing = λ l j. let t = h.standing l j in
          grind (arith, nat_tests);
      once = h.once;
    },
    λ l j. let t = h.standing l (omega arith) in grind (arith, nat_tests),
  ),
  λ h. record {
    len = h.0.len;
    below = h.0.below;
    standing = λ l j. let t = h.0.standing l j in
        let e = h.1 l in grind (arith, nat_tests);
    once = h.0.once;
  },
)

module _ (n k : ℕ) (tight : ℕ → ℕ → Bool) (p : List ℕ) (h : IsPerfect n tight p) (l r : ℕ)
    (from : k ≤ l) (i : l < n) (j : r < n) (t : tight l r ≡ true) where
  -- ---- a chain is exchanged

  -- as pinned, but l with r alone
  abbrev sent : ℕ → ℕ → Bool
  sent x c = pinned k p tight x c && (not (eqb x l) || eqb c r)

  -- l is left out
  abbrev alone : ℕ → Bool
  alone x = eqb x l

  sent_pinned : (x c : ℕ) → sent x c ≡ true → pinned k p tight x c ≡ true
  sent_pinned x c e = (and_parts (pinned k p tight x c) (not (eqb x l) || eqb c r) e).0

  sent_at : (c : ℕ) → sent l c ≡ true → c ≡ r
  sent_at c e = grind (arith, nat_tests)

  sent_l : sent l r ≡ true
  sent_l = grind (arith, nat_tests)

  sent_other : (x c : ℕ) → k ≤ x → (x ≡ l → ⊥) → tight x c ≡ true → sent x c ≡ true
  sent_other x c le ne e = grind (arith, nat_tests)

  sent_own : (x : ℕ) → x < n → (x ≡ l → ⊥) → sent x (at p x) ≡ true
  sent_own x b ne = let e = h.standing x b in grind (arith, nat_tests)

  part : IsPartial n sent p alone
  part = record {
    len = h.len;
    below = λ x b _. h.below x b;
    standing = λ x b f. sent_own x b (eqb-false x l f);
    once = λ x y a b _ _. h.once x y a b;
  }

  -- a reached left block that can take the right block c
  abbrev Taker : ℕ → Type 0
  Taker c = (x : ℕ) × IsReached n sent p alone x × (sent x c ≡ true)

  -- along a chain each right block has a taker, until the right block of l has one
  taker : (c : ℕ) → HasChain n k tight p r c → Taker (at p l) ⊎ Taker c
  taker _ here = inr (l, free l i (eq-eqb l l refl), sent_l)
  taker _ (step x c le b w e) = elim (taker (at p x) w) [
    | inl v ↦ inl v
    | inr v ↦ elim (cases_eq x l) [
      | inl s ↦ inl (v.0, v.1, subst (λ y. sent v.0 (at p y) ≡ true) s v.2)
      | inr ne ↦ inr (x, onward v.0 x v.1 b (not_alone x ne) v.2, sent_other x c le ne e)
    ]
  ]
    where
      not_alone : (x : ℕ) → (x ≡ l → ⊥) → alone x ≡ false
      not_alone x ne = grind (arith, nat_tests)

  exchanged : Taker (at p l) → Sends n k tight p l r
  exchanged v =
      let w = augmented n sent p alone part v.0 (at p l) v.1 (h.below l i) v.2
      (λ x b f e. eqb-false x l f (h.once x l b i e)) in
      let f-is : w.1 ≡ l = eqb-true w.1 l w.3 in
      let q-is : IsPerfect n sent w.0 = partial_perfect n sent w.0 (λ x. alone x && not (eqb x w.1))
      w.4 (λ x b. emptied w.1 x f-is) in
      let pins : IsPerfect n (pinned k p tight) w.0 =
      record {
        len = q-is.len;
        below = q-is.below;
        standing = λ x b. sent_pinned x (at w.0 x)
            (q-is.standing x b);
        once = q-is.once;
      } in
      let both = (pinned_agree n k tight p w.0 (omega arith)).0 pins in
      (w.0, both.0, both.1, sent_at (at w.0 l) (q-is.standing l i))
    where
      emptied : (f x : ℕ) → f ≡ l → (alone x && not (eqb x f)) ≡ false
      emptied f x e = grind (arith, nat_tests)

  -- ---- where no chain leads

  -- a step from a right block to one that its left block is tight with
  abbrev steps : ℕ → ℕ → Bool
  steps c d = some_below n (λ x. eqb (at p x) c && pinned k p tight x d)

  steps_from : (x d : ℕ) → x < n → pinned k p tight x d ≡ true → steps (at p x) d ≡ true
  steps_from x d b e = (some_tells n (λ y. eqb (at p y) (at p x) && pinned k p tight y d)).1
      (x, b, and_from _ _ (eq-eqb (at p x) (at p x) refl) e)

  -- a step over a left block below k stays where it is
  chained : (c d : ℕ) → HasChain n k tight p r c → steps c d ≡ true → HasChain n k tight p r d
  chained c d w e =
      let v = (some_tells n (λ x. eqb (at p x) c && pinned k p tight x d)).0 e in
      let b = and_parts (eqb (at p v.0) c) (pinned k p tight v.0 d) v.2 in
      let own : at p v.0 ≡ c = eqb-true (at p v.0) c b.0 in
      elim (cases_lt v.0 k) [
        | inl low ↦ subst (HasChain n k tight p r) (sym own ∙ sym (stays v.0 low b.1)) w
        | inr up ↦ step v.0 d up v.1 (subst (HasChain n k tight p r) (sym own) w)
            (and_parts (tight v.0 d) _ b.1).0
      ]
    where
      stays : (x : ℕ) → x < k → pinned k p tight x d ≡ true → d ≡ at p x
      stays x low e = grind (arith, nat_tests)

  led : Sends n k tight p l r → HasChain n k tight p r (at p l)
  led w =
      let c = closure n (λ x. eqb x r) steps in
      let pin-p = (pinned_agree n k tight p p (omega arith)).1 (h, λ _ _. refl) in
      let pin-q = (pinned_agree n k tight p w.0 (omega arith)).1 (w.1, w.2) in
      let inside : c.0 (at p l) ≡ true =
      given_alike.closed n (pinned k p tight) p w.0 pin-p pin-q c.0
      (λ x d a b m e. c.2.closed (at p x) d (h.below x a) b m (steps_from x d a e)) l i
      ∙ ap c.0 w.3 ∙ c.2.has r j (eq-eqb r r refl) in
      reached_all n (λ x. eqb x r) steps c.0 c.1 c.2 (HasChain n k tight p r)
      (λ y _ e. subst (HasChain n k tight p r) (sym (eqb-true y r e)) here)
      (λ x y _ _ v e. chained x y v e) (suc (c.1 (at p l))) (at p l) (h.below l i) (omega arith)
      inside

  pub chain_sends : HasChain n k tight p r (at p l) ↔ Sends n k tight p l r
  chain_sends = (λ w. elim (taker (at p l) w) [ inl v ↦ exchanged v | inr v ↦ exchanged v ], led)

pub sends_if_chain : SendsIfChain
sends_if_chain n k tight p h l r from i j = (
  λ w. (chain_sends n k tight p h l r from i j w.0).0 w.1,
  λ w.
      let t : tight l r ≡ true = subst (λ c. tight l c ≡ true) w.3 (w.1.standing l i) in
      (t, (chain_sends n k tight p h l r from i j t).1 w),
)
