-- The pairs that cost least, chosen right block by right block, the least first: each left block
-- takes the first right block that is cheapest with it.
-- Idea: a right block that waits has no left block, so the left block that takes it gets a right
-- block that no other left block has. A left block that is still unpaired has no right block
-- cheapest with it among those that no longer wait; so the one that it takes is its first.
use Rattle.std.proofs.Common.{◌≡◌, ℕ, ◌<◌, ◌≤◌, Bool, true, false, not, ◌&&◌, ◌||◌, eqb, ltb, List}
use Rattle.std.proofs.Common.{length, ◌≢◌, sym, ap, ◌∙◌, subst, ⊎_elim, arith}
use Rattle.std.proofs.lemmas.Bool.{cases_eq, cases_lt, both_ways, and_parts, and_from, ltb-true}
use Rattle.std.proofs.lemmas.Bool.{lt-ltb, ne_eqb}
use Rattle.blockset.specs.Has.{has}
use Rattle.pairing.specs.Grid.{at}
use Rattle.matching.specs.declared.chains.Holders.{Holders}
use Rattle.matching.specs.Exchange.{AreHolders}
use Rattle.matching.proofs.Inserting.{new_in, old_in, old_from}
use Rattle.blockset.proofs.Removing.{still_in, gone, out_of}

-- the pairs so far, and the right blocks of `rest`, which are still to come
pub record Choosing (n : ℕ) (priced : ℕ → Bool) (row : ℕ → ℕ) (rest out : ℕ → Bool) (p : List ℕ)
    (o : Holders) : Type 0 where
  pub sized : length p ≡ n
  pub inside : (l : ℕ) → out l ≡ true → l < n
  pub none : (l : ℕ) → l < n → out l ≡ true → (c : ℕ) → priced c ≡ true → rest c ≡ false → row c ≢ l
  pub cheap : (l : ℕ) → l < n → out l ≡ false → (priced (at p l) ≡ true) × (row (at p l) ≡ l)
  pub first : (l : ℕ) → l < n → out l ≡ false → (c : ℕ) → priced c ≡ true → row c ≡ l → at p l ≤ c
  pub holding : AreHolders 0 p out o
  pub part : (c : ℕ) → rest c ≡ true → priced c ≡ true
  pub free : (c : ℕ) → rest c ≡ true → has o.held c ≡ false

module _ (n : ℕ) (priced : ℕ → Bool) (row : ℕ → ℕ) (inside : (c : ℕ) → priced c ≡ true → (c < n)
    × (row c < n)) where
  -- no left block is paired, and no right block has a left block
  pub choosing_none : (out : ℕ → Bool) (p : List ℕ) (o : Holders) → length p ≡ n → n ≤ 64
      → ((l : ℕ) → out l ≡ (ltb l 64 && ltb l n)) → ((c : ℕ) → has o.held c ≡ false)
      → Choosing n priced row priced out p o
  choosing_none out p o sized few is empty = record {
    sized = sized;
    inside = λ l t. ltb-true l n (and_parts (ltb l 64) (ltb l n) (sym (is l) ∙ t)).1;
    none = λ l h t c m f. absurd (both_ways (priced c) f m);
    cheap = λ l h f. absurd (unpaired l h f);
    first = λ l h f. absurd (unpaired l h f);
    holding = record {
      all = λ l _ h f. absurd (unpaired l (omega (arith, sized)) f);
      low = λ c m. absurd (both_ways (has o.held c) (empty c) m);
      high = λ c m. absurd (both_ways (has o.held c) (empty c) m);
      inside = λ c m. absurd (both_ways (has o.held c) (empty c) m);
      owner = λ c m. absurd (both_ways (has o.held c) (empty c) m);
    };
    part = λ c t. t;
    free = λ c t. empty c;
  }
    where
      unpaired : (l : ℕ) → l < n → out l ≡ false → ⊥
      unpaired l h f =
          both_ways (out l) f (is l ∙ and_from (ltb l 64) (ltb l n) (lt-ltb l 64 (omega arith))
          (lt-ltb l n h))

  module _ (rest out : ℕ → Bool) (p : List ℕ) (o : Holders)
      (so_far : Choosing n priced row rest out p o) (c : ℕ)
      (rest' : ℕ → Bool) (is : (j : ℕ) → rest' j ≡ (rest j && not (eqb j c)))
      (waits : rest c ≡ true) (least : (j : ℕ) → j < c → rest j ≡ false) where
    abbrev held : ℕ → Bool
    held = has o.held

    -- which left block c is cheapest with
    pub cheapest_inside : (c < n) × (row c < n)
    cheapest_inside = inside c (so_far.part c waits)

    -- it is paired already
    pub choosing_skip : out (row c) ≡ false → Choosing n priced row rest' out p o
    choosing_skip paired = record {
      sized = so_far.sized;
      inside = so_far.inside;
      none = λ l h t j m f. ⊎_elim
          (λ (e : j ≡ c) z. both_ways (out l) (subst (λ (y : ℕ). out y ≡ false)
          (sym (ap row e) ∙ z) paired) t)
          (λ (e : j ≡ c → ⊥). so_far.none l h t j m (gone rest rest' c is j f e))
          (cases_eq j c);
      cheap = so_far.cheap;
      first = so_far.first;
      holding = so_far.holding;
      part = λ j t. so_far.part j (still_in rest rest' c is j t).0;
      free = λ j t. so_far.free j (still_in rest rest' c is j t).0;
    }

    -- it takes c if it is unpaired
    pub choosing_take : (out' : ℕ → Bool) (p' : List ℕ) (o' : Holders)
        → length p' ≡ length p
        → ((l : ℕ) → out' l ≡ (out l && not (eqb l (row c))))
        → at p' (row c) ≡ c → ((l : ℕ) → (l ≡ row c → ⊥) → at p' l ≡ at p l)
        → ((j : ℕ) → has o'.held j ≡ (eqb j c || held j)) → at o'.owner c ≡ row c
        → ((j : ℕ) → (j ≡ c → ⊥) → at o'.owner j ≡ at o.owner j)
        → out (row c) ≡ true → Choosing n priced row rest' out' p' o'
    choosing_take out' p' o' long less new same more new-owner same-owner unpaired = record {
      sized = long ∙ so_far.sized;
      inside = λ l t. so_far.inside l (still_in out out' (row c) less l t).0;
      none = λ l h t j m f. let w = still_in out out' (row c) less l t in ⊎_elim
          (λ (e : j ≡ c) z. w.1 (sym z ∙ ap row e))
          (λ (e : j ≡ c → ⊥). so_far.none l h w.0 j m (gone rest rest' c is j f e))
          (cases_eq j c);
      cheap = λ l h f. ⊎_elim
          (λ (e : l ≡ row c). let q : at p' l ≡ c = ap (at p') e ∙ new in (
            subst (λ (z : ℕ). priced z ≡ true) (sym q) (so_far.part c waits),
            ap row q
                ∙ sym e,
          ))
          (λ (e : l ≡ row c → ⊥). subst (λ (z : ℕ). (priced z ≡ true) × (row z ≡ l))
          (sym (same l e)) (so_far.cheap l h (before l f e)))
          (cases_eq l (row c));
      first = λ l h f j m z. ⊎_elim
          (λ (e : l ≡ row c). let q : at p' l ≡ c = ap (at p') e ∙ new in
          ⊎_elim
          (λ (low : j < c). absurd (so_far.none (row c) cheapest_inside.1 unpaired j m (least j low)
          (z ∙ e)))
          (λ (high : c ≤ j). omega arith)
          (cases_lt j c))
          (λ (e : l ≡ row c → ⊥). omega (arith, same l e, so_far.first l h (before l f e) j m z))
          (cases_eq l (row c));
      holding = record {
        all = λ l low h f. ⊎_elim
            (λ (e : l ≡ row c). subst (λ (z : ℕ). has o'.held z ≡ true) (sym (ap (at p') e ∙ new))
            (new_in held (has o'.held) c more))
            (λ (e : l ≡ row c → ⊥). subst (λ (z : ℕ). has o'.held z ≡ true) (sym (same l e))
            (old_in held (has o'.held) c more (at p l)
            (had.all l low (omega (arith, long)) (before l f e))))
            (cases_eq l (row c));
        low = λ j m. omega arith;
        high = λ j m. ⊎_elim
            (λ (e : j ≡ c). let q : at o'.owner j ≡ row c = ap (at o'.owner) e ∙ new-owner in
            omega (arith, cheapest_inside.1, long, so_far.sized))
            (λ (e : j ≡ c → ⊥). omega
            (arith, long, same-owner j e, had.high j (old_from held (has o'.held) c more j m e)))
            (cases_eq j c);
        inside = λ j m. ⊎_elim
            (λ (e : j ≡ c). subst (λ (z : ℕ). out' z ≡ false)
            (sym (ap (at o'.owner) e ∙ new-owner)) (out_of out out' (row c) less))
            (λ (e : j ≡ c → ⊥). subst (λ (z : ℕ). out' z ≡ false) (sym (same-owner j e))
            (still (at o.owner j) (had.inside j (old_from held (has o'.held) c more j m e))))
            (cases_eq j c);
        owner = λ j m. ⊎_elim
            (λ (e : j ≡ c). ap (at p') (ap (at o'.owner) e ∙ new-owner) ∙ new ∙ sym e)
            (λ (e : j ≡ c → ⊥).
            let m' = old_from held (has o'.held) c more j m e in
            ap (at p') (same-owner j e) ∙ same (at o.owner j) (other (at o.owner j) (had.inside j
            m'))
            ∙ had.owner j m')
            (cases_eq j c);
      };
      part = λ j t. so_far.part j (still_in rest rest' c is j t).0;
      free = λ j t. let w = still_in rest rest' c is j t in
          more j ∙ neither j w.1 (so_far.free j w.0);
    }
      where
        had : AreHolders 0 p out o
        had = so_far.holding

        before : (l : ℕ) → out' l ≡ false → (l ≡ row c → ⊥) → out l ≡ false
        before l f e = gone out out' (row c) less l f e

        -- a paired left block is not the one that c is cheapest with
        other : (l : ℕ) → out l ≡ false → l ≡ row c → ⊥
        other l f e = both_ways (out (row c)) (sym (ap out e) ∙ f) unpaired

        -- and it stays paired
        still : (l : ℕ) → out l ≡ false → out' l ≡ false
        still l f = less l ∙ ap (λ (b : Bool). b && not (eqb l (row c))) f

        neither : (j : ℕ) → (j ≡ c → ⊥) → held j ≡ false → (eqb j c || held j) ≡ false
        neither j ne f = ap (λ b. b || held j) (ne_eqb j c ne) ∙ f
