-- What no later left block may have is kept.
use Rattle.std.proofs.Common.{sym, ◌∙◌}
use Rattle.blockset.specs.Has.{has}
use Rattle.matching.proofs.Order.{unwanted}
use Rattle.matching.proofs.stepping.raise.Goals as goal

pub returns-then-not-contains-clause-improved : goal.returns-then-not-contains-clause-improved
returns-then-not-contains-clause-improved c =
    unwanted c.args.rows.now c.args.p.now c.requires.pairs c.args.l c.requires.inside
    (has c.args.wanted) c.requires.wanted (sym c.contains.ensures ∙ c.if-not-contains.true)
