-- The crowd sets of the two worked examples that have no perfect pairing.
-- Idea: a largest pairing is written down, with no augmenting path left; the crowd set is then what
-- is reached from the left blocks that it leaves out, which is each left block.
use Rattle.std.proofs.Common.{◌≡◌, ℕ, zero, suc, ◌-◌, ◌^◌, ◌<◌, Bool, true, false, eqb, ltb, List}
use Rattle.std.proofs.Common.{[], ◌∷◌, sym, refl, arith}
use Rattle.std.proofs.lemmas.Bool.{true≢false, eqb-true, eqb-false, ltb-true, lt-ltb}
use Rattle.std.proofs.lemmas.Bool.Decides.{Decides-at}
use Rattle.blockset.specs.Sets.{bit, members}
use Rattle.blockset.proofs.Bits.{bit_ones}
use Rattle.cost.specs.declared.Cost.{Ghosts}
use Rattle.cost.specs.declared.free_kind.Free.{Free}
use Rattle.pairing.specs.Grid.{at}
use Rattle.pairing.specs.Largest.{IsPartial, IsCrowdSet, HasNoPerfect}
use Rattle.pairing.specs.Chains.{IsReached, free, onward, IsStuck}
use Rattle.pairing.specs.Examples.{crowded_grid, bare_grid}
use Rattle.pairing.proofs.Listing.{perfects_are}
use Rattle.pairing.proofs.Crowds.{stuck_largest, reached_crowd, reached_inside}
use Rattle.pairing.proofs.Tests.{passes, standing_pass}

-- where each left block is reached, the crowd set has the bits of 2^n - 1
crowd_all : (n : ℕ) (stands : ℕ → ℕ → Bool) (p : List ℕ) (out : ℕ → Bool)
    → IsPartial n stands p out → IsStuck n stands p out
    → ((l : ℕ) → l < n → IsReached n stands p out l) → IsCrowdSet n stands (bit (2 ^ n - 1))
crowd_all n stands p out part stuck all l =
    let largest = stuck_largest n stands p out part stuck in
    Decides-at (bit (2 ^ n - 1) l) (ltb l n) (bit_ones n l) (
      λ e. (reached_crowd n stands p out largest l).0 (all l (ltb-true l n e)),
      λ w. lt-ltb l n w.inside,
    )

-- ---- two left blocks for one right block: left block 0 is paired

first_out : ℕ → Bool
first_out l = eqb l 1

module _ (kind : Ghosts Free) where
  pairing : List ℕ
  pairing = 0 ∷ 0 ∷ []

  crowded_part : IsPartial 2 (crowded_grid kind).stands pairing first_out
  unfolding pairing first_out
  crowded_part = record {
    len = refl;
    below = λ l i _. ltb-true (at pairing l) 2 (passes 2 (λ l. ltb (at pairing l) 2) refl l i);
    standing = standing;
    once = λ l m i j f e _. omega (arith, eqb-false l 1 f, eqb-false m 1 e);
  }
    where
      standing : (l : ℕ) → l < 2 → eqb l 1 ≡ false
          → (crowded_grid kind).stands l (at (0 ∷ 0 ∷ []) l) ≡ true
      standing zero i f = refl
      standing (suc zero) i f = absurd (true≢false f)
      standing (suc (suc l)) i f = absurd (omega arith)

  crowded_stuck : IsStuck 2 (crowded_grid kind).stands pairing first_out
  unfolding pairing first_out
  crowded_stuck l r w j t =
      let i = reached_inside 2 (crowded_grid kind).stands pairing first_out l w in (
        0,
        omega arith,
        refl,
        sym (eqb-true r 0
            (standing_pass (crowded_grid kind) (λ _ c. eqb c 0) refl l r i j t)),
      )

  each_reached : (l : ℕ) → l < 2 → IsReached 2 (crowded_grid kind).stands pairing first_out l
  unfolding pairing first_out
  each_reached zero i = onward 1 0 (free 1 (omega arith) refl) (omega arith) refl refl
  each_reached (suc zero) i = free 1 (omega arith) refl
  each_reached (suc (suc l)) i = absurd (omega arith)

  pub crowded : HasNoPerfect 2 (crowded_grid kind).stands 3 1
  unfolding bit members
  crowded = record {
    none = (perfects_are 2 (crowded_grid kind).stands).none.0 refl;
    crowd_set = crowd_all 2 (crowded_grid kind).stands pairing first_out crowded_part crowded_stuck
        each_reached;
    shortage_is = refl;
  }

-- ---- nothing stands: nothing is paired

module _ (kind : Ghosts Free) where
  bare_part : IsPartial 1 (bare_grid kind).stands (0 ∷ []) (λ _. true)
  bare_part = record {
    len = refl;
    below = λ l i f. absurd (true≢false f);
    standing = λ l i f. absurd (true≢false f);
    once = λ l m i j f. absurd (true≢false f);
  }

  bare_stuck : IsStuck 1 (bare_grid kind).stands (0 ∷ []) (λ _. true)
  bare_stuck l r w j t =
      let i = reached_inside 1 (bare_grid kind).stands (0 ∷ []) (λ _. true) l w in
      absurd (true≢false (sym (standing_pass (bare_grid kind) (λ _ _. false) refl l r i j t)))

  pub bare : HasNoPerfect 1 (bare_grid kind).stands 1 1
  unfolding bit members
  bare = record {
    none = (perfects_are 1 (bare_grid kind).stands).none.0 refl;
    crowd_set = crowd_all 1 (bare_grid kind).stands (0 ∷ []) (λ _. true) bare_part bare_stuck
        (λ l i. free l i refl);
    shortage_is = refl;
  }
