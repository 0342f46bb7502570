-- Asking for the marks is a step of a program.
-- Idea: the call reads all tables but the marks, and leaves those as its contract says.
use Rattle.std.proofs.Common.{◌≡◌, inl, refl}
use Rattle.session.specs.declared.answer.Answer.TheVariants.{Marked}
use Rattle.session.specs.declared.call.Act.TheVariants.{Marks}
use Rattle.session.specs.declared.state.State.TheVariants.{Settled}
use Rattle.session.specs.Lists.{TableLists}
use Rattle.session.specs.Program.{reply_by}
use Rattle.session.specs.Runs.{tables_of}
use Rattle.session.proofs.Handing.{cut, marks_part, was_made}
use Rattle.session.proofs.Saying.{says_reply}
use Rattle.session.proofs.running.on_settled.marks.Goals as goal

pub returns : goal.returns
returns g c =
    let state = Settled c.args.sheet.now in
    let a = c.marks-outcome.result in
    let table = c.marks-outcome.new.table in
    let copy = c.copy_from_slice.new.self in
    let answer = c.marks_answer.result in
    let seen : TableLists g.row.K.Denot = record (tables_of c.args.tables.now) {
      costs = c.as_slice.result.now;
      standing = c.as_slice-2.result.now;
      partners = c.as_slice-3.result.now;
      left = c.as_slice-4.result.now;
      right = c.as_slice-5.result.now;
      marks = c.as_mut_slice.result.now;
    } in
    let x = cut c.args.h seen in
    was_made g.K.Cost state (tables_of c.args.tables.now) Marks c.args.h (reply_by (λ u. table) a)
    answer state x (record x { marks = table }) _ c.requires.right
    (marks_part c.args.h c.args.tables.now seen (cc) c.requires.lent table
    c.marks-outcome.auto.table)
    (says_reply Marks answer (λ u. table) a (λ u. answer ≡ Marked copy)
    (λ u h. (copy, h, c.copy_from_slice.ensures.items)) c.marks_answer.ensures)
    (inl (refl, (a, refl, c.marks-outcome.ensures, refl, refl)))
