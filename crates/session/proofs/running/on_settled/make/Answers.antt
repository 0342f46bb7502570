-- A call on a settled sheet is a step of a program, or is not made.
-- Idea: a call that none of the arms takes is one that the state does not have.
use Rattle.std.proofs.Common.{inl, refl, ap}
use Rattle.session.specs.declared.answer.Answer.TheVariants.{Done}
use Rattle.session.specs.declared.call.Act.TheVariants.{Marks, Start, Reopen}
use Rattle.session.specs.declared.state.State.TheVariants.{Open, Settled}
use Rattle.session.specs.Book.{opened}
use Rattle.session.specs.Exchange.{gives}
use Rattle.session.specs.Lists.{TableLists}
use Rattle.session.specs.Program.{state_at}
use Rattle.session.specs.Runs.{tables_of}
use Rattle.session.proofs.Allowing.{settled_allows}
use Rattle.session.proofs.Handing.{reads, not_made, made_for, makes_for}
use Rattle.session.proofs.running.on_settled.make.Goals as goal

pub returns-in-Marks : goal.returns-in-Marks
returns-in-Marks g c =
    makes_for g.K.Cost (Settled c.args.sheet) (tables_of c.args.tables.now) c.args.call Marks
    (Settled c.args.sheet, c.marks-answer.result) _ c.in-Marks.is c.marks-answer.ensures

pub returns-in-Start : goal.returns-in-Start
returns-in-Start g c =
    makes_for g.K.Cost (Settled c.args.sheet) (tables_of c.args.tables.now) c.args.call Start
    c.start.result _ c.in-Start.is c.start.ensures

pub returns-in-Reopen : goal.returns-in-Reopen
returns-in-Reopen g c =
    let own : TableLists g.row.K.Denot = tables_of c.args.tables.now in
    let state = Settled c.args.sheet in
    let next = Open c.reopen.result in
    made_for g.K.Cost state own c.args.call Reopen Done next own c.in-Reopen.is
    (reads g.K.Cost state own Reopen c.args.call.handed (gives tt) Done next own refl
    c.requires.right c.requires.lent refl
    (inl (refl, (refl, refl, ap (state_at opened) c.reopen.ensures))))

pub returns-in_default : goal.returns-in_default
returns-in_default g c =
    not_made g.K.Cost (Settled c.args.sheet) (tables_of c.args.tables.now) c.args.call
    c.requires.right c.requires.lent (settled_allows c.args.call.act c.in_default.not-Quote
    c.in_default.not-Total c.in_default.not-Marks c.in_default.not-Start c.in_default.not-Reopen)
