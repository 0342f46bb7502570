-- Entering a pair is a step of a program.
-- Idea: the call takes the two pair tables, and leaves them as its contract says.
use Rattle.std.proofs.Common.{◌≡◌, inl, refl}
use Rattle.session.specs.declared.answer.Answer.TheVariants.{Done}
use Rattle.session.specs.declared.call.Act.TheVariants.{Enter}
use Rattle.session.specs.declared.state.State.TheVariants.{Open}
use Rattle.session.specs.Lists.{TableLists}
use Rattle.session.specs.Program.{reply_by}
use Rattle.session.specs.Runs.{tables_of}
use Rattle.session.proofs.Handing.{cut, pair_parts, was_made}
use Rattle.session.proofs.Saying.{says_reply}
use Rattle.session.proofs.running.on_open.enter.Goals as goal

pub returns : goal.returns
returns g c =
    let state = Open c.args.sheet.now in
    let act = Enter c.args.left c.args.right c.args.cost in
    let a = c.enter.result in
    let answer = c.done_answer.result in
    let seen : TableLists g.row.K.Denot = record (tables_of c.args.tables.now) {
      costs = c.as_mut_slice.result.now;
      standing = c.as_mut_slice-2.result.now;
    } in
    let x = cut c.args.h seen in
    was_made g.K.Cost state (tables_of c.args.tables.now) act c.args.h (reply_by (λ u. u) a) answer
    state x (record x { costs = c.enter.new.costs; standing = c.enter.new.standing }) _
    c.requires.right
    (pair_parts c.args.h c.args.tables.now seen (cc) c.requires.lent c.enter.new.costs
    c.enter.new.standing c.enter.auto.costs c.enter.auto.standing)
    (says_reply act answer (λ u. u) a (λ u. answer ≡ Done) (λ u h. h) c.done_answer.ensures)
    (inl (refl, (a, refl, c.enter.ensures.call, refl, refl)))
