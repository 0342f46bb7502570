-- The marks of the pairings over the rows are those of the optimum pairings, since the two lists
-- are one.
use Rattle.std.proofs.Common.{length, subst}
use Rattle.pairing.specs.Rows.{pairings}
use Rattle.matching.specs.Answers.{AreMarksOf}
use Rattle.walk.proofs.fitting.mark_fitting.Goals as goal

pub returns-clause-marks : goal.returns-clause-marks
returns-clause-marks g c =
    let known = c.in-Some.ensures.certified in
    let table = c.mark_all.new.table in
    subst (λ ps. AreMarksOf c.args.tables.now.size ps table) known.optima_are
    (subst (λ n. AreMarksOf n (pairings c.in-Some.rows) table) known.long
    (subst (λ rs. AreMarksOf (length rs) (pairings rs) table) c.as_slice.ensures.rows
    c.mark_all.ensures))
