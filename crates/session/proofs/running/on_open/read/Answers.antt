-- Reading a pair is a step of a program.
-- Idea: the call reads the two pair tables, and leaves all as they are.
use Rattle.std.proofs.Common.{◌≡◌, inl, refl}
use Rattle.session.specs.declared.answer.Answer.TheVariants.{Amount}
use Rattle.session.specs.declared.call.Act.TheVariants.{Read}
use Rattle.session.specs.declared.state.State.TheVariants.{Open}
use Rattle.session.specs.Lists.{TableLists}
use Rattle.session.specs.Program.{reply_by}
use Rattle.session.specs.Runs.{tables_of}
use Rattle.session.proofs.Handing.{reads}
use Rattle.session.proofs.Saying.{says_reply}
use Rattle.session.proofs.running.on_open.read.Goals as goal

pub returns : goal.returns
returns g c =
    let state = Open c.args.sheet.now in
    let act = Read c.args.left c.args.right in
    let a = c.read.result in
    let answer = c.amount_answer.result in
    let seen : TableLists g.row.K.Denot = record (tables_of c.args.tables.now) {
      costs = c.as_slice.result.now;
      standing = c.as_slice-2.result.now;
    } in
    reads g.K.Cost state (tables_of c.args.tables.now) act c.args.h (reply_by (λ x. x) a) answer
    state seen (cc) c.requires.right c.requires.lent
    (says_reply act answer (λ x. x) a (λ x. answer ≡ Amount x) (λ x h. h) c.amount_answer.ensures)
    (inl (refl, (a, refl, c.read.ensures.call, refl, refl)))
