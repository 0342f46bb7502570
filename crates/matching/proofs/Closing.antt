-- Which right blocks chains lead to, told by closing the single steps.
-- Idea: after the rounds of the right blocks below k, whatever leads to one of those leads on from
-- there. A round keeps that for the ones before: what i comes to now it came to before, or by k; so
-- from i to m and on to j there are four ways, and in each of them the old closure at m, where m is
-- not k, gives one of the two ways from i to j. When all right blocks had their round, each step of
-- a chain is one more pair.
use Rattle.std.proofs.Common.{◌≡◌, ℕ, ◌+◌, ◌<◌, ◌≤◌, Bool, true, ◌&&◌, ◌||◌, List, nat_lt, ◌↔◌}
use Rattle.std.proofs.Common.{IsTrue, sym, ap, ◌∙◌, subst, inl, inr, arith}
use Rattle.std.proofs.lemmas.Bool.{cases_eq, and_parts, and_from, or_cases, or_left}
use Rattle.std.proofs.lemmas.Bool.{lt-ltb}
use Rattle.std.proofs.lemmas.Bool.{ltb-true}
use Rattle.pairing.specs.Grid.{at, IsPerfect}
use Rattle.pairing.specs.Chains.{HasChain, here, step}
use Rattle.pairing.proofs.Counting.{onto}

-- a chain and one that goes on where it ends are a chain
pub joined : {n k : ℕ} {tight : ℕ → ℕ → Bool} {p : List ℕ} {r c d : ℕ} → HasChain n k tight p r c
    → HasChain n k tight p c d → HasChain n k tight p r d
joined w here = w
joined {p = p} w (step l d le lt v t) = step l d le lt (joined w v) t

-- after the rounds of the right blocks below k
pub record Closing (n : ℕ) (tight : ℕ → ℕ → Bool) (p : List ℕ) (k : ℕ) (leads : ℕ → ℕ → Bool)
    : Type 0 where
  pub steps : (l c : ℕ) → l < n → c < n → tight l c ≡ true → leads (at p l) c ≡ true
  pub chains : (i j : ℕ) → i < n → leads i j ≡ true → (j < n) × HasChain n 0 tight p i j
  pub closed : (i m j : ℕ) → i < n → m < n → m < k → leads i m ≡ true → leads m j ≡ true
      → leads i j ≡ true

module _ {n : ℕ} {tight : ℕ → ℕ → Bool} {p : List ℕ} (h : IsPerfect n tight p) where
  pub closing_start : {leads : ℕ → ℕ → Bool}
      → ((l c : ℕ) → l < n → leads (at p l) c ≡ (tight l c && nat_lt c n))
      → Closing n tight p 0 leads
  closing_start {leads = leads} is = record {
    steps = λ l c i j t. is l c i ∙ and_from (tight l c) _ t (lt-ltb c n j);
    chains = λ i j low t.
        let o = onto n tight p h i low in
        let both = and_parts (tight o.0 j) (nat_lt j n)
        (sym (is o.0 j o.1) ∙ ap (λ x. leads x j) o.2 ∙ t) in (
          ltb-true j n both.1,
          step o.0 j (omega arith) o.1 (subst (HasChain n 0 tight p i) (sym o.2) here) both.0,
        );
    closed = λ i m j _ _ low _ _. absurd (omega arith);
  }

  module _ {k : ℕ} {leads : ℕ → ℕ → Bool} (s : Closing n tight p k leads) where
    pub closing_more : k < n → {leads' : ℕ → ℕ → Bool}
        → ((i j : ℕ) → i < n → leads' i j ≡ (leads i j || (leads i k && leads k j)))
        → Closing n tight p (k + 1) leads'
    closing_more inside {leads' = leads'} is = record {
      steps = λ l c i j t. is (at p l) c (h.below l i) ∙ or_left _ _ (s.steps l c i j t);
      chains = λ i j low t. elim (or_cases (leads i j) _ (sym (is i j low) ∙ t)) [
        | inl e ↦ s.chains i j low e
        | inr e ↦
            let both = and_parts (leads i k) (leads k j) e in
            let w = s.chains k j inside both.1 in
            (w.0, joined (s.chains i k low both.0).1 w.1)
      ];
      closed = λ i m j low mid less t u.
          let x = is i j low in
          elim (cases_eq m k) [
            | inl e ↦
                let v = subst (λ y. leads' i y ≡ true) e t in
                let w = subst (λ y. leads' y j ≡ true) e u in
                let f = is i k low in
                let g = is k j inside in
                grind arith
            | inr ne ↦
                let older : m < k = omega arith in
                let f = is i m low in
                let g = is m j mid in
                let through = s.closed i m j low mid older in
                let to = s.closed i m k low mid older in
                let from = s.closed k m j inside mid older in
                grind arith
          ];
    }

    -- at the end the pairs are just the chains from right blocks that are had
    pub closing_done : n ≤ k → (l c : ℕ) → l < n → c < n
        → (IsTrue (leads (at p l) c) ↔ (HasChain n 0 tight p (at p l) c))
    closing_done all l c i j =
        (λ t. (s.chains (at p l) c (h.below l i) t).1, λ w. follow c w j)
      where
        follow : (d : ℕ) → HasChain n 0 tight p (at p l) d → d < n → leads (at p l) d ≡ true
        follow _ here low = s.steps l (at p l) i low (h.standing l i)
        follow _ (step m d le lt w t) low =
            s.closed (at p l) (at p m) d (h.below l i) (h.below m lt)
            (omega (arith, h.below m lt)) (follow (at p m) w (h.below m lt))
            (s.steps m d lt low t)
