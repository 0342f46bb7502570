-- Striking a pair is a step of a program.
-- Idea: the call takes the two pair tables, and leaves them as its contract says.
use Rattle.std.proofs.Common.{◌≡◌, inl, refl}
use Rattle.session.specs.declared.answer.Answer.TheVariants.{Done}
use Rattle.session.specs.declared.call.Act.TheVariants.{Strike}
use Rattle.session.specs.declared.state.State.TheVariants.{Open}
use Rattle.session.specs.Lists.{TableLists}
use Rattle.session.specs.Program.{reply_by}
use Rattle.session.specs.Runs.{tables_of}
use Rattle.session.proofs.Handing.{cut, pair_parts, was_made}
use Rattle.session.proofs.Saying.{says_reply}
use Rattle.session.proofs.running.on_open.strike.Goals as goal

pub returns : goal.returns
returns g c =
    let state = Open c.args.sheet.now in
    let act = Strike c.args.left c.args.right in
    let a = c.strike.result in
    let answer = c.done_answer.result in
    let seen : TableLists g.row.K.Denot = record (tables_of c.args.tables.now) {
      costs = c.as_mut_slice.result.now;
      standing = c.as_mut_slice-2.result.now;
    } in
    let x = cut c.args.h seen in
    was_made g.K.Cost state (tables_of c.args.tables.now) act c.args.h (reply_by (λ u. u) a) answer
    state x (record x { costs = c.strike.new.costs; standing = c.strike.new.standing }) _
    c.requires.right
    (pair_parts c.args.h c.args.tables.now seen (cc) c.requires.lent c.strike.new.costs
    c.strike.new.standing c.strike.auto.costs c.strike.auto.standing)
    (says_reply act answer (λ u. u) a (λ u. answer ≡ Done) (λ u h. h) c.done_answer.ensures)
    (inl (refl, (a, refl, c.strike.ensures.call, refl, refl)))
