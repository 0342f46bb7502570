-- The offers of one left block, right block by right block.
-- Idea: the right blocks that are still to be offered are as they were, and with all others the
-- offer is done; each turn moves one from the first to the second.
use Rattle.std.proofs.Common.{◌≡◌, ℕ, ◌+◌, ◌≤◌, Bool, true, false, not, ◌&&◌, eqb, List, ℤ, ◌+ℤ◌}
use Rattle.std.proofs.Common.{◌≤ℤ◌, sym, ap, ◌∙◌, subst, inl, inr, ⊎_elim, arith}
use Rattle.std.proofs.lemmas.Int.{ints}
use Rattle.std.proofs.lemmas.Bool.{cases_eq, both_ways}
use Rattle.cost.specs.declared.TheConstants.{COST_LIMIT}
use Rattle.cost.specs.Columns.{AreWithin}
use Rattle.cost.specs.Weights.{weight}
use Rattle.assign.specs.declared.limits.TheConstants.{SHIFT_LIMIT}
use Rattle.assign.specs.Offers.{Offered}
use Rattle.blockset.proofs.Removing.{still_in, gone}

module _ (shift : List ℤ) (cost : ℕ → List ℤ) (from : ℕ) (to reached : ℕ → Bool) (d : ℕ → List ℤ)
    (via : ℕ → ℕ) where
  -- how far the distance of c can be, if it was not farther where it had one
  abbrev pub Near : (d' : ℕ → List ℤ) → ℕ → Type 0
  Near d' c = (b : ℕ) → AreWithin b shift → b ≤ SHIFT_LIMIT
      → (to c ≡ false → AreWithin (b + COST_LIMIT) (d c))
      → (reached c ≡ true → AreWithin (b + COST_LIMIT) (d c)) → AreWithin (b + COST_LIMIT) (d' c)

  pub record Offering (rest : ℕ → Bool) (d' : ℕ → List ℤ) (via' : ℕ → ℕ) : Type 0 where
    pub part : (c : ℕ) → rest c ≡ true → to c ≡ true
    pub waits : (c : ℕ) → rest c ≡ true → (d' c ≡ d c) × (via' c ≡ via c)
    pub done : (c : ℕ) → rest c ≡ false → Offered (weight shift) (λ c. weight (cost c)) from to
        reached (λ c. weight (d c)) via (λ c. weight (d' c)) via' c
    pub near : (c : ℕ) → rest c ≡ false → Near d' c

  module _ (rest rest' : ℕ → Bool) (c : ℕ) (removed : (j : ℕ) → rest' j ≡ (rest j && not (eqb j c)))
      (member : rest c ≡ true) (d' : ℕ → List ℤ) (via' : ℕ → ℕ) (h : Offering rest d' via') where
    -- c keeps its distance
    pub offering_keep : reached c ≡ true → weight (d' c) ≤ℤ (weight shift +ℤ weight (cost c))
        → Offering rest' d' via'
    offering_keep r le =
        let w = h.waits c member in
        let same : weight (d' c) ≡ weight (d c) = ap weight w.0 in
        record {
          part = λ j t. h.part j (still_in rest rest' c removed j t).0;
          waits = λ j t. h.waits j (still_in rest rest' c removed j t).0;
          done = λ j f. ⊎_elim
              (λ (e : j ≡ c). subst (Offered (weight shift) (λ k. weight (cost k)) from to reached
              (λ k. weight (d k)) via (λ k. weight (d' k)) via') (sym e)
              (record {
                others = λ _. (same, w.1);
                change = λ _. inl (r, same, w.1);
                most =
                    λ _. le;
                less = λ _ _. omega (arith, ints);
              }))
              (λ (ne : j ≡ c → ⊥). h.done j (gone rest rest' c removed j f ne))
              (cases_eq j c);
          near = λ j f. ⊎_elim
              (λ (e : j ≡ c). subst (Near d') (sym e)
              (λ b s lb _ old. subst (AreWithin (b + COST_LIMIT)) (sym w.0) (old r)))
              (λ (ne : j ≡ c → ⊥). h.near j (gone rest rest' c removed j f ne))
              (cases_eq j c);
        }

    -- c takes the distance that it is offered
    pub offering_take : (d'' : ℕ → List ℤ) (via'' : ℕ → ℕ)
        → ((j : ℕ) → (j ≡ c → ⊥) → (d'' j ≡ d' j) × (via'' j ≡ via' j))
        → weight (d'' c) ≡ weight shift +ℤ weight (cost c) → via'' c ≡ from
        → (reached c ≡ true → weight (d'' c) ≤ℤ weight (d' c))
        → ((b : ℕ) → AreWithin b shift → b ≤ SHIFT_LIMIT → AreWithin (b + COST_LIMIT) (d'' c))
        → Offering rest' d'' via''
    offering_take d'' via'' others is by le small =
        let w = h.waits c member in
        let same : weight (d' c) ≡ weight (d c) = ap weight w.0 in
        record {
          part = λ j t. h.part j (still_in rest rest' c removed j t).0;
          waits = λ j t. let s = still_in rest rest' c removed j t in let x = others j s.1 in
              let y = h.waits j s.0 in (x.0 ∙ y.0, x.1 ∙ y.1);
          done = λ j f. ⊎_elim
              (λ (e : j ≡ c). subst (Offered (weight shift) (λ k. weight (cost k)) from to reached
              (λ k. weight (d k)) via (λ k. weight (d'' k)) via'') (sym e)
              (record {
                others = λ t. absurd (both_ways (to c) t (h.part c member));
                change =
                    λ _. inr (is, by);
                most = λ _. omega (arith, ints, is);
                less =
                    λ _ r. omega (arith, ints, le r);
              }))
              (λ (ne : j ≡ c → ⊥).
              let x = others j ne in
              let x' : weight (d'' j) ≡ weight (d' j) = ap weight x.0 in
              let y = h.done j (gone rest rest' c removed j f ne) in
              record {
                others = λ t. let z = y.others t in (x' ∙ z.0, x.1 ∙ z.1);
                change = λ t. ⊎_elim (λ z. inl (z.0, x' ∙ z.1, x.1 ∙ z.2))
                    (λ z. inr (x' ∙ z.0, x.1 ∙ z.1)) (y.change t);
                most = λ t. omega (arith, ints, y.most t);
                less = λ t r. omega (arith, ints, y.less t r);
              })
              (cases_eq j c);
          near = λ j f. ⊎_elim
              (λ (e : j ≡ c). subst (Near d'') (sym e) (λ b s lb _ _. small b s lb))
              (λ (ne : j ≡ c → ⊥) b s lb p q. subst (AreWithin (b + COST_LIMIT)) (sym (others j
              ne).0)
              (h.near j (gone rest rest' c removed j f ne) b s lb p q))
              (cases_eq j c);
        }
