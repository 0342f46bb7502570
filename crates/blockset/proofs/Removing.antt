-- A loop that takes one block after another out of a set.
-- Idea: the set has the block no more, all others as before, and so one member fewer.
use Rattle.std.proofs.Common.{◌≡◌, ℕ, ◌<◌, Bool, true, false, not, ◌&&◌, eqb, sym, refl, ◌∙◌}
use Rattle.std.proofs.Common.{⊎_elim}
use Rattle.std.proofs.lemmas.Bool.{cases_Bool, both_ways, and_parts, and_from, not-true}
use Rattle.std.proofs.lemmas.Bool.{not_from_false, ne_eqb, eq-eqb}
use Rattle.blockset.specs.declared.TheConstants.{SET_WIDTH}
use Rattle.blockset.specs.Sets.{members}
use Rattle.blockset.proofs.Members.{members_less}

module _ (rest rest' : ℕ → Bool) (c : ℕ)
    (removed : (j : ℕ) → rest' j ≡ (rest j && not (eqb j c))) where
  pub still_in : (j : ℕ) → rest' j ≡ true → (rest j ≡ true) × (j ≡ c → ⊥)
  still_in j t = let w = and_parts (rest j) (not (eqb j c)) (sym (removed j) ∙ t) in
      (w.0, λ e. both_ways (eqb j c) (not-true (eqb j c) w.1) (eq-eqb j c e))

  pub gone : (j : ℕ) → rest' j ≡ false → (j ≡ c → ⊥) → rest j ≡ false
  gone j f ne =
      ⊎_elim (λ (t : rest j ≡ true). absurd
      (both_ways (rest' j) f
      (removed j ∙ and_from (rest j) (not (eqb j c)) t (not_from_false (eqb j c) (ne_eqb j c ne)))))
      (λ (t : rest j ≡ false). t) (cases_Bool (rest j))

  pub out_of : rest' c ≡ false
  out_of = ⊎_elim (λ (t : rest' c ≡ true). absurd ((still_in c t).1 refl)) (λ t. t)
      (cases_Bool (rest' c))

  pub fewer : c < SET_WIDTH → rest c ≡ true → members SET_WIDTH rest' < members SET_WIDTH rest
  fewer h t = members_less SET_WIDTH rest rest' c h (λ j s. (still_in j s).0) t out_of
