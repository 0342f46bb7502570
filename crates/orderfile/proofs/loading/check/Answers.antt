-- A fault is the first one of the file; where no record is left, the file states what was read.
use Rattle.std.proofs.Common.{Some, None, Ok, Err, sym, ap, ◌∙◌, arith}
use Rattle.std.proofs.lemmas.Result.{err_from_is_err_and}
use Rattle.sheet.proofs.Refused.{from_err}
use Rattle.orderfile.proofs.Reading.{reading_fault, reading_done, passed, next_reads, next_stage}
use Rattle.orderfile.proofs.Reading.{known_still}
use Rattle.orderfile.proofs.Ends.{checked_states, checked_faulty}
use Rattle.orderfile.proofs.Verdicts.{verdict_order, verdict_fault}
use Rattle.orderfile.proofs.loading.check.Goals as goal

pub returns-in_err-record : goal.returns-in_err-record
returns-in_err-record c =
    let p = err_from_is_err_and c.from_residual.result c.from_residual.ensures.1 in
    let f = c.in_err-record.field-0.0 in
    let e = from_err _ _ f c.in_err-record.ensures.answers in
    let first = reading_fault _ _ _ _ c.loop-record.invariant.0 f e in
    checked_faulty (verdict_fault c.args.file.now f first) f first (p.1 ∙ ap Err p.2)

pub loop-record-preserved : goal.loop-record-preserved
loop-record-preserved c =
    let next = passed c.in_ok-record.ensures (Some c.in-Some.record) (ap Ok c.in-Some.is) in (
      next_reads c.args.file.now next c.loop-record.invariant.0
          (λ i. omega (arith, c.type_inv.file i)),
      rw (next_stage next)
          (known_still c.loop-record.records.stage c.in-Some.record c.loop-record.size
          c.in_default-record.not-Size c.loop-record.invariant.1),
    )

pub returns : goal.returns
returns c =
    let was = c.loop-record.records in
    let none = passed c.in_ok-record.ensures None (ap Ok c.in_default.is) in
    let done = reading_done c.args.file.now was.stage was.fields.rest.now was.fields.at
    c.loop-record.size c.loop-record.invariant.0 c.loop-record.invariant.1 none.clear
    (sym none.next) in
    checked_states (verdict_order c.args.file.now done.0 done.1) done.0 done.1 (ap Ok done.2)
