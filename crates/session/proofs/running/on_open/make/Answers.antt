-- A call on an open sheet is a step of a program, or is not made.
-- Idea: a call that none of the arms takes is one that the state does not have.
use Rattle.session.specs.declared.call.Act.TheVariants.{Settle}
use Rattle.session.specs.declared.state.State.TheVariants.{Open}
use Rattle.session.specs.Runs.{tables_of}
use Rattle.session.proofs.Allowing.{open_allows}
use Rattle.session.proofs.Handing.{not_made, makes_for}
use Rattle.session.proofs.running.on_open.make.Goals as goal

pub returns-in-Settle : goal.returns-in-Settle
returns-in-Settle g c =
    makes_for g.K.Cost (Open c.args.sheet) (tables_of c.args.tables.now) c.args.call Settle
    c.settle.result _ c.in-Settle.is c.settle.ensures

pub returns-in_default : goal.returns-in_default
returns-in_default g c =
    not_made g.K.Cost (Open c.args.sheet) (tables_of c.args.tables.now) c.args.call
    c.requires.right c.requires.lent (open_allows c.args.call.act c.in_default.not-Enter
    c.in_default.not-Strike c.in_default.not-Read c.in_default.not-Settle)
