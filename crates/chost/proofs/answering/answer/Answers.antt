-- The test of the file finds its first fault or the size that it states, which is at most 64.
use Rattle.std.proofs.Common.{◌≤◌, Err, refl, sym, ap, ◌∙◌, subst, arith}
use Rattle.std.proofs.lemmas.Nat.{mul-le}
use Rattle.std.proofs.lemmas.Result.{err_from_is_err_and}
use Rattle.sheet.specs.Needs.{IsFirstUnmet}
use Rattle.orderfile.specs.Loading.{stated_grid}
use Rattle.orderfile.proofs.Ends.{checked_err, checked_ok}
use Rattle.chost.specs.Answers.{AnswersHost, call_needs}
use Rattle.chost.proofs.Stated.{answers_faulty, answers_stated, short_buffer}
use Rattle.chost.proofs.answering.answer.Goals as goal

pub returns-in_err-size : goal.returns-in_err-size
returns-in_err-size c =
    let p = err_from_is_err_and c.from_residual.result c.from_residual.ensures.1 in
    let f = c.in_err-size.field-0.0 in
    let out = c.args.out.now in
    subst (λ a. AnswersHost c.args.call c.args.file.now out a out) (sym (p.1 ∙ ap Err p.2))
    (answers_faulty c.args.call c.args.file.now out c.check.ensures.verdict f
    (checked_err c.in_err-size.ensures))

pub returns-then-out-size : goal.returns-then-out-size
returns-then-out-size c =
    let o = checked_ok c.in_ok-size.ensures in
    let out = c.args.out.now in
    answers_stated c.args.call c.args.file.now out c.check.ensures.verdict o.0 o.1
    (Err c.at.result) out (
      subst (IsFirstUnmet (call_needs (stated_grid o.0) out c.args.call)) (sym c.at.ensures)
          (short_buffer o.0 out (omega (arith, o.2, c.if-out-size.true)) c.args.call),
      refl,
    )

pub answer_for-requires-clause-stated : goal.answer_for-requires-clause-stated
answer_for-requires-clause-stated c = checked_ok c.in_ok-size.ensures

pub answer_for-requires-clause-few : goal.answer_for-requires-clause-few
answer_for-requires-clause-few c =
    let o = checked_ok c.in_ok-size.ensures in
    omega (arith, o.2, o.1.fits.few)

pub answer_for-requires-clause-places : goal.answer_for-requires-clause-places
answer_for-requires-clause-places c =
    let o = checked_ok c.in_ok-size.ensures in
    let n = c.in_ok-size.size in
    let few : n ≤ 64 = omega (arith, o.2, o.1.fits.few) in
    mul-le n n 64 64 few few
