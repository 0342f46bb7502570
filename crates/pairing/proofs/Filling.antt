-- A free right block is filled by exchanging along a chain that goes back to a left block that is
-- left out.
-- Idea: the free right block is taken by the left block before it on the chain, which frees the
-- right block that it had; that one is taken by the left block before it, and so on. Ranks fall
-- along the chain, so each left block is met once, and still has its old right block when it is
-- met. The chain ends at a left block that had nothing: no right block is freed, and one left block
-- fewer is left out.
use Rattle.std.proofs.Common.{◌≡◌, ℕ, zero, suc, ◌<◌, ◌≤◌, Bool, true, false, not, ◌&&◌, eqb, ◌⊎◌}
use Rattle.std.proofs.Common.{List, set, sym, ap, ◌∙◌, inl, inr, arith}
use Rattle.std.proofs.lemmas.List.{get_or-set_same, get_or-set_other, length-set}
use Rattle.std.proofs.lemmas.Bool.Decides.{nat_tests}
use Rattle.std.proofs.lemmas.Bool.{cases_eq}
use Rattle.pairing.specs.Grid.{at}
use Rattle.pairing.specs.Largest.{IsPartial}

-- E: left blocks that the chain may end at; F: those that are left out while it is exchanged; D:
-- those that are reached
module _ (n : ℕ) (stands : ℕ → ℕ → Bool) (p : List ℕ) (E F D : ℕ → Bool) (rank : ℕ → ℕ)
    (top : ℕ) where
  -- in q no left block has right block r, which left block m is to take; blocks of smaller rank
  -- have what p gives them
  pub record Hole (q : List ℕ) (r m : ℕ) : Type 0 where
    pub part : IsPartial n stands q F
    pub inside : r < n
    pub free : (x : ℕ) → x < n → F x ≡ false → at q x ≡ r → ⊥
    pub taker : m < n
    pub wants : stands m r ≡ true
    pub member : D m ≡ true
    pub under : rank m < top
    pub ahead : (x : ℕ) → x < n → rank x ≤ rank m → at q x ≡ at p x

  module _ (q : List ℕ) (r m : ℕ) (h : Hole q r m) where
    at_m : at (set q m r) m ≡ r
    at_m = get_or-set_same q m r 0 (omega (arith, h.part.len, h.taker))

    at_other : (x : ℕ) → (x ≡ m → ⊥) → at (set q m r) x ≡ at q x
    at_other x ne = get_or-set_other q m x r 0 ne

    -- m takes the right block, whether or not it was left out
    pub took : (G : ℕ → Bool) → ((x : ℕ) → G x ≡ false → (x ≡ m → ⊥) → F x ≡ false)
        → IsPartial n stands (set q m r) G
    took G g = record {
      len = length-set q m r ∙ h.part.len;
      below = λ x j f. elim (cases_eq x m) [
        | inl e ↦ rw (e, at_m) h.inside
        | inr ne ↦
            rw (at_other x ne) (h.part.below x j (g x f ne))
      ];
      standing = λ x j f. elim (cases_eq x m) [
        | inl e ↦ rw (e, at_m) h.wants
        | inr ne ↦
            rw (at_other x ne) (h.part.standing x j (g x f ne))
      ];
      once = λ x y i j f e s. elim (cases_eq x m) [
        | inl a ↦ elim (cases_eq y m) [
          | inl b ↦ a ∙ sym b
          | inr b ↦
              absurd (h.free y j (g y e b) (sym (at_other y b) ∙ sym s ∙ ap (at (set q m r)) a
              ∙ at_m))
        ]
        | inr a ↦ elim (cases_eq y m) [
          | inl b ↦
              absurd (h.free x i (g x f a) (sym (at_other x a) ∙ s ∙ ap (at (set q m r)) b ∙ at_m))
          | inr b ↦ h.part.once x y i j (g x f a) (g y e b) (sym (at_other x a) ∙ s ∙ at_other y b)
        ]
      ];
    }

    -- m had a right block, which is free now, and m' is to take it
    pub next : F m ≡ false → (m' : ℕ) → m' < n → D m' ≡ true → stands m' (at p m) ≡ true
        → rank m' < rank m → Hole (set q m r) (at q m) m'
    next held m' i d w less = record {
      part = took F (λ x f ne. f);
      inside = h.part.below m h.taker held;
      free = λ x j f e. elim (cases_eq x m) [
        | inl s ↦ h.free m h.taker held (sym e ∙ ap (at (set q m r)) s ∙ at_m)
        | inr ne ↦ ne (h.part.once x m j h.taker f held (sym (at_other x ne) ∙ e))
      ];
      taker = i;
      wants = ap (stands m') (h.ahead m h.taker (omega arith)) ∙ w;
      member = d;
      under = omega (arith, h.under);
      ahead = λ x j le. at_other x (λ e. omega (arith, ap rank e)) ∙ h.ahead x j (omega arith);
    }

  module _ (back : (x : ℕ) → x < n → D x ≡ true → rank x < top
      → (E x ≡ true)
      ⊎ ((F x ≡ false) × ((m : ℕ) × (m < n) × (D m ≡ true) × (stands m (at p x) ≡ true)
      × (rank m < rank x)))) where
    pub fill : (b : ℕ) (q : List ℕ) (r m : ℕ) → Hole q r m → rank m < b → (q' : List ℕ) × (f : ℕ)
        × (f < n) × (E f ≡ true) × IsPartial n stands q' (λ x. F x && not (eqb x f))
    fill zero q r m h low = absurd (omega arith)
    fill (suc b) q r m h low = elim (back m h.taker h.member h.under) [
      | inl e ↦ (
        set q m r,
        m,
        h.taker,
        e,
        took q r m h (λ x. F x && not (eqb x m))
            (λ x f ne. grind (arith, nat_tests)),
      )
      | inr w ↦ let v = w.1 in fill b (set q m r) (at q m) v.0
          (next q r m h w.0 v.0 v.1 v.2 v.3 v.4) (omega (arith, v.4))
    ]
