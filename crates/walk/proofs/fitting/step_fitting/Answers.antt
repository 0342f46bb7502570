-- The pairings over the rows are the optimum ones, so what is none there is no optimum pairing, and
-- a step there is one among them.
use Rattle.std.proofs.Common.{List, ℕ, ◌+◌, sym, refl, ap, ◌∙◌, subst}
use Rattle.std.proofs.lemmas.Bool.{false≢true}
use Rattle.std.proofs.lemmas.Bool.Decides.{not_from_Decides}
use Rattle.pairing.specs.Grid.{Grid, IsOptimum}
use Rattle.pairing.specs.Optima.{optima}
use Rattle.pairing.specs.Rows.{IsPerfectOver, pairings}
use Rattle.matching.specs.Answers.{Follows}
use Rattle.matching.specs.declared.stepping.Step.{Step}
use Rattle.matching.specs.declared.stepping.Step.TheVariants.{Next, End}
use Rattle.matching.proofs.Nth.{nth_optimum}
use Rattle.tables.specs.Lent.{grid}
use Rattle.walk.proofs.Judging.{optimum_over}
use Rattle.walk.proofs.fitting.step_fitting.Goals as goal

-- what a step leaves in its list is an optimum pairing
step_optimum : (g : Grid) (before after : List ℕ) (s : Step)
    → Follows (optima g) before after s → IsOptimum g after
step_optimum g before after Next h = nth_optimum g (h.0 + 1) after h.2
step_optimum g before after End h = subst (IsOptimum g) (sym h.3) (nth_optimum g h.0 before h.1)

pub returns-then-not-pairs_each_row-clause-accepted :
    goal.returns-then-not-pairs_each_row-clause-accepted
returns-then-not-pairs_each_row-clause-accepted g c =
    let walk = c.args.walk.now in (
      λ e. absurd (false≢true e),
      λ h. absurd (not_from_Decides c.pairs_each_row.result c.pairs_each_row.ensures
          c.if-not-pairs_each_row.true (subst (λ rs. IsPerfectOver rs walk) (sym
          c.as_slice.ensures.rows)
          ((optimum_over g.K.Cost c.args.tables.now c.in-Some.rows c.in-Some.ensures.certified
          walk).1 h.1))),
    )

pub returns-clause-accepted : goal.returns-clause-accepted
returns-clause-accepted g c =
    let walk = c.args.walk.now in
    let known = c.in-Some.ensures.certified in (
      λ _. (
        known.together,
        (optimum_over g.K.Cost c.args.tables.now c.in-Some.rows known walk).0
            (subst (λ rs. IsPerfectOver rs walk) c.as_slice.ensures.rows
            (c.pairs_each_row.ensures.0 c.if-not-pairs_each_row.false)),
      ),
      λ _. refl,
    )

pub returns-clause-steps : goal.returns-clause-steps
returns-clause-steps g c =
    subst (λ ps. Follows ps c.args.walk.now c.advance.new.p c.advance.result)
    (ap pairings c.as_slice-2.ensures.rows ∙ c.in-Some.ensures.certified.optima_are)
    c.advance.ensures

pub returns-clause-optimum : goal.returns-clause-optimum
returns-clause-optimum g c = step_optimum (grid g.K.Cost c.args.tables.now) c.args.walk.now
    c.advance.new.p c.advance.result (returns-clause-steps g c)
