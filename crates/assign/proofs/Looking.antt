-- One look at each right block that an offer goes to: it is offered a way, and how far it is beyond
-- its price then.
-- Idea: the right blocks that are still to be looked at are as they were; one that is offered its
-- way changes no other.
use Rattle.std.proofs.Common.{◌≡◌, ℕ, ◌+◌, ◌≤◌, Bool, true, false, not, ◌&&◌, eqb, List, ℤ}
use Rattle.std.proofs.Common.{◌<◌, length, get_or, ◌-ℤ◌}
use Rattle.std.proofs.Common.{sym, refl, ap, ◌∙◌, subst, inl, inr, ⊎_elim, arith}
use Rattle.std.proofs.lemmas.Int.{ints}
use Rattle.std.proofs.lemmas.Bool.{cases_eq, both_ways}
use Rattle.cost.specs.declared.TheConstants.{COST_LIMIT, RAIL}
use Rattle.cost.specs.declared.Cost.{Ghosts}
use Rattle.cost.specs.Columns.{AreWithin}
use Rattle.cost.specs.Weights.{weight}
use Rattle.assign.specs.declared.limits.TheConstants.{SHIFT_LIMIT}
use Rattle.tables.proofs.Filling.{value_at}
use Rattle.assign.specs.Weighed.{weight_at}
use Rattle.assign.specs.Offers.{Offered, KeyReach}
use Rattle.assign.proofs.Entries.{read_within}
use Rattle.blockset.proofs.Removing.{still_in, gone}

-- an offer is the same where all that it speaks of is the same
offered_like : (shift : ℤ) (cost : ℕ → ℤ) (from : ℕ) (to reached : ℕ → Bool) (d e : ℕ → ℤ)
    (via via' : ℕ → ℕ) (d' e' : ℕ → ℤ) (w w' : ℕ → ℕ) (c : ℕ)
    → e c ≡ d c → via' c ≡ via c → e' c ≡ d' c → w' c ≡ w c
    → Offered shift cost from to reached d via d' w c
    → Offered shift cost from to reached e via' e' w' c
offered_like shift cost from to reached d e via via' d' e' w w' c ed ev ed' ew h = record {
  others = λ f. let x = h.others f in (ed' ∙ x.0 ∙ sym ed, ew ∙ x.1 ∙ sym ev);
  change = λ t. ⊎_elim (λ x. inl (x.0, ed' ∙ x.1 ∙ sym ed, ew ∙ x.2 ∙ sym ev))
      (λ x. inr (ed' ∙ x.0, ew ∙ x.1)) (h.change t);
  most = λ t. let x = h.most t in omega (arith, ints);
  less = λ t r. let x = h.less t r in omega (arith, ints);
}

-- what is offered nothing stays as it is
offered_none : (shift : ℤ) (cost : ℕ → ℤ) (from : ℕ) (to reached : ℕ → Bool) (d : ℕ → ℤ)
    (via : ℕ → ℕ) (c : ℕ) → to c ≡ false → Offered shift cost from to reached d via d via c
offered_none shift cost from to reached d via c f = record {
  others = λ _. (refl, refl);
  change = λ t. absurd (both_ways (to c) f t);
  most = λ t. absurd (both_ways (to c) f t);
  less = λ t. absurd (both_ways (to c) f t);
}

module _ (shift : List ℤ) (cost : ℕ → List ℤ) (from : ℕ) (to : ℕ → Bool) (d : ℕ → List ℤ)
    (via : ℕ → ℕ) where
  -- how far the distance of c can be, if it was not farther before
  abbrev pub NoFarther : (d d' : ℕ → List ℤ) → ℕ → Type 0
  NoFarther d d' c = (b : ℕ) → AreWithin b shift → b ≤ SHIFT_LIMIT
      → AreWithin (b + COST_LIMIT) (d c)
      → AreWithin (b + COST_LIMIT) (d' c)

  -- what comes of the offer for c
  abbrev pub Comes : (d : ℕ → List ℤ) (via : ℕ → ℕ) (d' : ℕ → List ℤ) (via' : ℕ → ℕ) → ℕ → Type 0
  Comes d via d' via' = Offered (weight shift) (λ c. weight (cost c)) from to (λ _. true)
      (λ c. weight (d c)) via (λ c. weight (d' c)) via'

  pub record Looking (rest : ℕ → Bool) (d' : ℕ → List ℤ) (via' : ℕ → ℕ) : Type 0 where
    pub waits : (c : ℕ) → rest c ≡ true → (d' c ≡ d c) × (via' c ≡ via c)
    pub outside : (c : ℕ) → to c ≡ false → d' c ≡ d c
    pub done : (c : ℕ) → rest c ≡ false → Comes d via d' via' c
    pub near : (c : ℕ) → NoFarther d d' c

  pub looking_none : Looking to d via
  looking_none = record {
    waits = λ c t. (refl, refl);
    outside = λ c f. refl;
    done = λ c f. offered_none (weight shift) (λ c. weight (cost c)) from to (λ _. true)
        (λ c. weight (d c)) via c f;
    near = λ c b s le w. w;
  }

  pub looking_one : (rest rest' : ℕ → Bool) (c : ℕ)
      → ((j : ℕ) → rest' j ≡ (rest j && not (eqb j c))) → rest c ≡ true → to c ≡ true
      → (d' : ℕ → List ℤ) (via' : ℕ → ℕ) → Looking rest d' via'
      → (d'' : ℕ → List ℤ) (via'' : ℕ → ℕ)
      → ((j : ℕ) → (j ≡ c → ⊥) → (d'' j ≡ d' j) × (via'' j ≡ via' j))
      → Comes d' via' d'' via'' c → NoFarther d' d'' c → Looking rest' d'' via''
  looking_one rest rest' c removed waiting member d' via' h d'' via'' others here near =
      let w = h.waits c waiting in
      record {
        waits = λ j t. let s = still_in rest rest' c removed j t in let x = others j s.1 in
            let y = h.waits j s.0 in (x.0 ∙ y.0, x.1 ∙ y.1);
        outside = λ j f. (others j (λ e. both_ways (to j) f
            (subst (λ (z : ℕ). to z ≡ true) (sym e) member))).0 ∙ h.outside j f;
        done = λ j f. ⊎_elim
            (λ (e : j ≡ c). subst (Comes d via d'' via'') (sym e)
            (offered_like (weight shift) (λ c. weight (cost c)) from to (λ _. true)
            (λ c. weight (d' c)) (λ c. weight (d c)) via' via (λ c. weight (d'' c))
            (λ c. weight (d'' c)) via'' via'' c (ap weight (sym w.0)) (sym w.1) refl refl here))
            (λ (ne : j ≡ c → ⊥). let x = others j ne in
            offered_like (weight shift) (λ c. weight (cost c)) from to (λ _. true)
            (λ c. weight (d c)) (λ c. weight (d c)) via via (λ c. weight (d' c))
            (λ c. weight (d'' c)) via' via'' j refl refl (ap weight x.0) x.1
            (h.done j (gone rest rest' c removed j f ne)))
            (cases_eq j c);
        near = λ j b s le old. ⊎_elim
            (λ (e : j ≡ c). subst (λ (z : ℕ). AreWithin (b + COST_LIMIT) (d'' z)) (sym e)
            (near b s le (subst (AreWithin (b + COST_LIMIT)) (sym w.0)
            (subst (λ (z : ℕ). AreWithin (b + COST_LIMIT) (d z)) e old))))
            (λ (ne : j ≡ c → ⊥). subst (AreWithin (b + COST_LIMIT)) (sym (others j ne).0)
            (h.near j b s le old))
            (cases_eq j c);
      }

-- how far a right block is beyond its price, from its distance x and its price y, which was read
module _ {K : Type 0} (kind : Ghosts K) (d : ℕ → List ℤ) (right : List K) (i : ℕ) (x y z : K)
    (inside : i < length right) (x-is : kind.meaning x ≡ d i) (y-is : y ≡ get_or right i y) where
  pub key_weighs : weight (kind.meaning z) ≡ weight (kind.meaning x) -ℤ weight (kind.meaning y)
      → weight (kind.meaning z) ≡ weight (d i) -ℤ weight_at kind right i
  key_weighs e =
      let a = ap weight x-is in
      let b = ap weight (value_at kind right i y inside y-is) in
      omega (arith, ints)

  pub key_reaches : ((a b : ℕ) → AreWithin a (kind.meaning x) → AreWithin b (kind.meaning y)
      → a + b ≤ RAIL → AreWithin (a + b) (kind.meaning z)) → KeyReach kind right d i z
  key_reaches bound a b far priced le = bound a b (subst (AreWithin a) (sym x-is) far)
      (read_within kind b b right i y inside y-is (omega arith) priced) le
