-- A quote is a step of a program.
-- Idea: the call reads its tables, and leaves all as they are.
use Rattle.std.proofs.Common.{◌≡◌, inl, refl}
use Rattle.session.specs.declared.answer.Answer.TheVariants.{Quoted}
use Rattle.session.specs.declared.call.Act.TheVariants.{Quote}
use Rattle.session.specs.declared.state.State.TheVariants.{Settled}
use Rattle.session.specs.Lists.{TableLists}
use Rattle.session.specs.Program.{reply_by}
use Rattle.session.specs.Runs.{tables_of}
use Rattle.session.proofs.Handing.{reads}
use Rattle.session.proofs.Saying.{says_reply}
use Rattle.session.proofs.running.on_settled.quote.Goals as goal

pub returns : goal.returns
returns g c =
    let state = Settled c.args.sheet.now in
    let a = c.quote-outcome.result in
    let answer = c.quote_answer.result in
    let seen : TableLists g.row.K.Denot = record (tables_of c.args.tables.now) {
      costs = c.as_slice.result.now;
      standing = c.as_slice-2.result.now;
      partners = c.as_slice-3.result.now;
      left = c.as_slice-4.result.now;
      right = c.as_slice-5.result.now;
    } in
    let act = Quote c.args.left_block c.args.right_block in
    reads g.K.Cost state (tables_of c.args.tables.now) act c.args.h (reply_by (λ x. x) a) answer
    state seen (cc) c.requires.right c.requires.lent
    (says_reply act answer (λ x. x) a (λ q. answer ≡ Quoted q.0 q.1)
    (λ x h. h) c.quote_answer.ensures) (inl (refl, (a, refl, c.quote-outcome.ensures, refl, refl)))
