-- The step is one over the lent tables, whose parts the call was made with.
use Rattle.std.proofs.Common.{subst}
use Rattle.pairing.specs.Optima.{optima}
use Rattle.matching.specs.Answers.{Follows}
use Rattle.tables.specs.Lent.{grid}
use Rattle.orderfile.specs.Loading.{plain_kind}
use Rattle.report.proofs.Accepting.{same_tables}
use Rattle.report.proofs.list_file.step.Goals as goal

pub returns : goal.returns
returns c =
    subst (λ t. Follows (optima (grid plain_kind t)) c.args.list.now c.next.new.list c.in-Ok.step)
    (same_tables c.args.tables.now _ _ _ _ _ _ _ c.requires.size c.tables.view_is)
    c.in-Ok.ensures.1.follows
