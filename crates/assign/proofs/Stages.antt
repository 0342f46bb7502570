-- What the sets of a search tell of the stage of a right block.
-- Idea: a stage is read off from two sets and a turn, by cases on the two.
use Rattle.std.proofs.Common.{◌≡◌, ℕ, ◌+◌, ◌<◌, ◌≤◌, Bool, true, false, List, ◌∙◌, ⊎_elim, arith}
use Rattle.std.proofs.lemmas.Bool.{cases_Bool, cond-true, cond-false}
use Rattle.pairing.specs.Grid.{at}
use Rattle.assign.specs.Trees.{stage}

module _ (taken seen : ℕ → Bool) (turn : List ℕ) (c : ℕ) where
  pub stage_taken : taken c ≡ true → stage taken seen turn c ≡ at turn c + 2
  stage_taken t = cond-true (taken c) _ _ t

  pub stage_reached : taken c ≡ false → seen c ≡ true → stage taken seen turn c ≡ 1
  stage_reached f r = cond-false (taken c) _ _ f ∙ cond-true (seen c) 1 0 r

  pub stage_none : taken c ≡ false → seen c ≡ false → stage taken seen turn c ≡ 0
  stage_none f r = cond-false (taken c) _ _ f ∙ cond-false (seen c) 1 0 r

  pub taken_is : 2 ≤ stage taken seen turn c → taken c ≡ true
  taken_is h = ⊎_elim (λ (t : taken c ≡ true). t)
      (λ (f : taken c ≡ false). ⊎_elim
      (λ (r : seen c ≡ true). absurd (omega (arith, stage_reached f r)))
      (λ (r : seen c ≡ false). absurd (omega (arith, stage_none f r)))
      (cases_Bool (seen c)))
      (cases_Bool (taken c))

  pub untaken_is : stage taken seen turn c < 2 → taken c ≡ false
  untaken_is h = ⊎_elim (λ (t : taken c ≡ true). absurd (omega (arith, stage_taken t)))
      (λ (f : taken c ≡ false). f) (cases_Bool (taken c))

  pub reached_is : stage taken seen turn c ≡ 1 → (taken c ≡ false) × (seen c ≡ true)
  reached_is e =
      let f = untaken_is (omega arith) in (
        f,
        ⊎_elim (λ (r : seen c ≡ true). r)
            (λ (r : seen c ≡ false). absurd (omega (arith, stage_none f r)))
            (cases_Bool (seen c)),
      )
