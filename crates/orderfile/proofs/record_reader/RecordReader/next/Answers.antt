-- The faults of a field are those of its tag and value; past them the reader is as far as the field
-- reader.
use Rattle.std.proofs.Common.{◌+◌, drop, Some, Ok, Err, sym, ap, ◌∙◌}
use Rattle.std.proofs.lemmas.Result.{err_from_is_err_and}
use Rattle.std.proofs.lemmas.Bool.{cond-false}
use Rattle.sheet.proofs.Refused.{refused, kept, accepted, renewed, from_err, from_ok}
use Rattle.orderfile.specs.Records.{stage_after}
use Rattle.orderfile.proofs.Handed.{handed_fault, handed_record, handed_stage, open_passed}
use Rattle.orderfile.proofs.record_reader.RecordReader.next.Goals as goal

pub returns-in_err-record : goal.returns-in_err-record
returns-in_err-record c =
    let p = err_from_is_err_and c.from_residual-in_err-record.result
    c.from_residual-in_err-record.ensures.1 in
    let e = handed_fault _ _ _ _ _ c.in_ok-next.ensures.hands c.args.self.now.stage
    c.in_default.not-Ended
    ∙ from_err _ _ c.in_err-record.field-0.0 c.in_err-record.ensures in
    record {
      answers = p.1 ∙ ap Err p.2 ∙ refused _ _ _ e;
      stages = kept _ _ _ _ e;
      passes =
          kept _ _ _ _ e;
      moves = kept _ _ _ _ e;
    }

pub returns : goal.returns
returns c =
    let stage = c.args.self.now.stage in
    let rest = c.args.self.now.fields.rest.now in
    let at = c.args.self.now.fields.at in
    let whole = c.in_ok-next.ensures.hands in
    let found = from_ok _ _ _ c.in_ok-record.ensures in
    let e = handed_fault _ _ _ _ _ whole stage c.in_default.not-Ended ∙ found.0 in
    let long = sym (open_passed stage rest c.in_default.not-Ended) in
    record {
      answers = ap (λ t. Ok (Some t)) found.1
          ∙ ap Ok (sym (handed_record _ _ _ _ _ whole stage c.in_default.not-Ended))
          ∙ accepted _ _ e;
      stages = c.stage_after-self.ensures ∙ ap (stage_after stage) found.1
          ∙ sym (handed_stage _ _ _ _ _ whole stage c.in_default.not-Ended) ∙ renewed _ _ _ e;
      passes = c.next.ensures.passes ∙ cond-false _ _ _ whole.whole ∙ ap (λ k. drop k rest) long
          ∙ renewed _ _ _ e;
      moves = c.next.ensures.moves ∙ cond-false _ _ _ whole.whole ∙ ap (λ k. at + k) long
          ∙ renewed _ _ _ e;
    }
