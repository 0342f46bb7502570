-- The start of a walk is a step of a program.
-- Idea: the call reads all tables but the walk list, and leaves that as its contract says.
use Rattle.std.proofs.Common.{◌≡◌, inl, refl}
use Rattle.session.specs.declared.answer.Answer.TheVariants.{Pairing}
use Rattle.session.specs.declared.call.Act.TheVariants.{Start}
use Rattle.session.specs.declared.state.State.TheVariants.{Settled}
use Rattle.session.specs.Lists.{TableLists}
use Rattle.session.specs.Program.{reply_of}
use Rattle.session.specs.Runs.{tables_of}
use Rattle.session.proofs.Handing.{cut, walk_part, was_made}
use Rattle.session.proofs.Saying.{says_change}
use Rattle.session.proofs.running.on_settled.start.Goals as goal

pub returns : goal.returns
returns g c =
    let a = c.start-outcome.result in
    let list = c.start-outcome.new.list in
    let copy = c.copy_from_slice.new.self in
    let answer = c.after_start-state.result.1 in
    let seen : TableLists g.row.K.Denot = record (tables_of c.args.tables.now) {
      costs = c.as_slice.result.now;
      standing = c.as_slice-2.result.now;
      partners = c.as_slice-3.result.now;
      left = c.as_slice-4.result.now;
      right = c.as_slice-5.result.now;
      walk = c.as_mut_slice.result.now;
    } in
    let x = cut c.args.h seen in
    was_made g.K.Cost (Settled c.args.sheet) (tables_of c.args.tables.now) Start c.args.h
    (reply_of list a) answer c.after_start-state.result.0 x (record x { walk = list }) _
    c.requires.right
    (walk_part c.args.h c.args.tables.now seen (cc) c.requires.lent list c.start-outcome.auto.list)
    (says_change Start answer list a (λ walk. answer ≡ Pairing copy)
    (λ walk h. (copy, h, c.copy_from_slice.ensures.items)) c.after_start-state.ensures.answer)
    (inl (refl, (a, refl, c.start-outcome.ensures, refl, c.after_start-state.ensures.state)))
