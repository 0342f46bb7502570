-- Asking for the total is a step of a program.
-- Idea: the call reads its tables, and leaves all as they are.
use Rattle.std.proofs.Common.{◌≡◌, inl, refl}
use Rattle.session.specs.declared.answer.Answer.TheVariants.{Amount}
use Rattle.session.specs.declared.call.Act.TheVariants.{Total}
use Rattle.session.specs.declared.state.State.TheVariants.{Settled}
use Rattle.session.specs.Lists.{TableLists}
use Rattle.session.specs.Program.{reply_by}
use Rattle.session.specs.Runs.{tables_of}
use Rattle.session.proofs.Handing.{reads}
use Rattle.session.proofs.Saying.{says_reply}
use Rattle.session.proofs.running.on_settled.total.Goals as goal

pub returns : goal.returns
returns g c =
    let state = Settled c.args.sheet.now in
    let a = c.total-outcome.result in
    let answer = c.amount_answer.result in
    let seen : TableLists g.row.K.Denot = record (tables_of c.args.tables.now) {
      costs = c.as_slice.result.now;
      standing = c.as_slice-2.result.now;
      partners = c.as_slice-3.result.now;
      left = c.as_slice-4.result.now;
      right = c.as_slice-5.result.now;
    } in
    reads g.K.Cost state (tables_of c.args.tables.now) Total c.args.h (reply_by (λ x. x) a)
    answer state seen (cc) c.requires.right c.requires.lent
    (says_reply Total answer (λ x. x) a (λ x. answer ≡ Amount x) (λ x h. h)
    c.amount_answer.ensures)
    (inl (refl, (a, refl, c.total-outcome.ensures, refl, refl)))
