-- A step of a walk is a step of a program.
-- Idea: the call reads all tables but the walk list, and leaves that as its contract says.
use Rattle.std.proofs.Common.{inl, refl}
use Rattle.session.specs.declared.call.Act.TheVariants.{Next}
use Rattle.session.specs.declared.state.State.TheVariants.{Walking}
use Rattle.session.specs.Lists.{TableLists}
use Rattle.session.specs.Program.{reply_by, pairing_by}
use Rattle.session.specs.Runs.{tables_of, IsOnwardAnswer}
use Rattle.session.proofs.Handing.{cut, walk_part, was_made}
use Rattle.session.proofs.Saying.{says_reply, says_step}
use Rattle.session.proofs.running.on_walk.next.Goals as goal

pub returns : goal.returns
returns g c =
    let state = Walking c.args.walk.now in
    let a = c.next-outcome.result in
    let list = c.next-outcome.new.list in
    let copy = c.copy_from_slice.new.self in
    let answer = c.step_answer.result in
    let seen : TableLists g.row.K.Denot = record (tables_of c.args.tables.now) {
      costs = c.as_slice.result.now;
      standing = c.as_slice-2.result.now;
      partners = c.as_slice-3.result.now;
      left = c.as_slice-4.result.now;
      right = c.as_slice-5.result.now;
      walk = c.as_mut_slice.result.now;
    } in
    let x = cut c.args.h seen in
    was_made g.K.Cost state (tables_of c.args.tables.now) Next c.args.h
    (reply_by (pairing_by list) a) answer state x (record x { walk = list }) _ c.requires.right
    (walk_part c.args.h c.args.tables.now seen (cc) c.requires.lent list c.next-outcome.auto.list)
    (says_reply Next answer (pairing_by list) a (λ step. IsOnwardAnswer step copy answer)
    (says_step answer copy list c.copy_from_slice.ensures.items) c.step_answer.ensures)
    (inl (refl, (a, refl, c.next-outcome.ensures, refl, refl)))
