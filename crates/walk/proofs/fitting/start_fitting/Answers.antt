-- The pairings over the rows are the optimum ones, so the first of them is the first optimum
-- pairing.
use Rattle.std.proofs.Common.{subst, ap, ◌∙◌}
use Rattle.pairing.specs.Rows.{pairings}
use Rattle.matching.specs.Answers.{IsNth}
use Rattle.matching.proofs.Nth.{nth_optimum}
use Rattle.tables.specs.Lent.{grid}
use Rattle.walk.proofs.fitting.start_fitting.Goals as goal

pub returns-clause-optimum : goal.returns-clause-optimum
returns-clause-optimum g c = nth_optimum (grid g.K.Cost c.args.tables.now) 0 c.make_first.new.p
    (subst (λ ps. IsNth ps 0 c.make_first.new.p)
    (ap pairings c.as_slice.ensures.rows ∙ c.in-Some.ensures.certified.optima_are)
    c.make_first.ensures)
