-- A call on a walk is a step of a program, or is not made.
-- Idea: a call that none of the arms takes is one that the state does not have.
use Rattle.std.proofs.Common.{inl, refl, ap}
use Rattle.session.specs.declared.answer.Answer.TheVariants.{Done}
use Rattle.session.specs.declared.call.Act.TheVariants.{Next, Close}
use Rattle.session.specs.declared.state.State.TheVariants.{Settled, Walking}
use Rattle.session.specs.Book.{settled}
use Rattle.session.specs.Exchange.{gives}
use Rattle.session.specs.Lists.{TableLists}
use Rattle.session.specs.Program.{state_at}
use Rattle.session.specs.Runs.{tables_of}
use Rattle.session.proofs.Allowing.{walk_allows}
use Rattle.session.proofs.Handing.{reads, not_made, made_for, makes_for}
use Rattle.session.proofs.running.on_walk.make.Goals as goal

pub returns-in-Next : goal.returns-in-Next
returns-in-Next g c =
    makes_for g.K.Cost (Walking c.args.walk) (tables_of c.args.tables.now) c.args.call Next
    (Walking c.args.walk, c.next-answer.result) _ c.in-Next.is c.next-answer.ensures

pub returns-in-Close : goal.returns-in-Close
returns-in-Close g c =
    let own : TableLists g.row.K.Denot = tables_of c.args.tables.now in
    let state = Walking c.args.walk in
    let next = Settled c.close.result in
    made_for g.K.Cost state own c.args.call Close Done next own c.in-Close.is
    (reads g.K.Cost state own Close c.args.call.handed (gives tt) Done next own refl
    c.requires.right c.requires.lent refl
    (inl (refl, (refl, refl, ap (state_at settled) c.close.ensures))))

pub returns-in_default : goal.returns-in_default
returns-in_default g c =
    not_made g.K.Cost (Walking c.args.walk) (tables_of c.args.tables.now) c.args.call
    c.requires.right c.requires.lent (walk_allows c.args.call.act c.in_default.not-Next
    c.in_default.not-Close)
