-- The reader hands out what the file still has, so a pair fits the tables, and once it was entered
-- one pair less is to come.
use Rattle.std.proofs.Common.{◌≡◌, Some, Ok, slice_index, sym, ap, ◌∙◌, w64, to_z, of_z}
use Rattle.std.proofs.lemmas.Int.{to_z-of_z}
use Rattle.tables.specs.PairTables.{costs_entered}
use Rattle.orderfile.specs.Loading.{plain, plain_kind}
use Rattle.orderfile.proofs.Fields.{cost_fits}
use Rattle.orderfile.proofs.Reading.{passed, next_shorter}
use Rattle.orderfile.proofs.Entering.{never_refused, handed_next, passed_next}
use Rattle.orderfile.proofs.loading.enter_all.Goals as goal

pub loop-record-smaller-in-Pair : goal.loop-record-smaller-in-Pair
loop-record-smaller-in-Pair c = next_shorter (passed c.next.ensures (Some c.in-Ok-Some.record)
    (c.in-Ok-Some.is ∙ ap Ok c.in-Ok-Some.field-0-is))

pub loop-record-preserved-in-Pair : goal.loop-record-preserved-in-Pair
loop-record-preserved-in-Pair c order s =
    let was = c.loop-record.records in
    let pair = c.in-Pair.pair in
    let size : c.args.n ≡ order.size = sym (c.requires.stated.2)
    ∙ sym (ap (λ t. slice_index t 3) c.requires.stated.1.is_file)
    ∙ ap (λ t. slice_index t 3) s.is_file in
    let handed = handed_next order c.args.costs.now c.args.standing.now s.fits was.stage
    was.fields.rest.now c.loop-record.costs c.loop-record.standing
    (c.loop-record.invariant order s) (passed c.next.ensures (Some c.in-Ok-Some.record)
    (c.in-Ok-Some.is ∙ ap Ok c.in-Ok-Some.field-0-is)) pair c.in-Pair.is in
    let cost : to_z w64 (of_z w64 pair.cost) ≡ pair.cost =
    to_z-of_z w64 pair.cost (cost_fits pair.cost handed.0.cost_within) in
    let costs : c.enter_pair.new.costs ≡ costs_entered plain_kind c.args.n c.from-left.result
    c.from-right.result (plain pair.cost) c.loop-record.costs c.loop-record.standing =
    c.enter_pair.ensures.costs
    ∙ ap (λ z. costs_entered plain_kind c.args.n c.from-left.result c.from-right.result (plain z)
    c.loop-record.costs c.loop-record.standing) cost in
    rw (
      costs,
      c.enter_pair.ensures.standing,
      size,
      c.from-left.ensures,
      c.from-right.ensures,
    ) handed.1

pub loop-record-preserved : goal.loop-record-preserved
loop-record-preserved c order s =
    passed_next order c.args.costs.now c.args.standing.now s.fits c.loop-record.records.stage
    c.loop-record.records.fields.rest.now c.loop-record.costs c.loop-record.standing
    (c.loop-record.invariant order s) (passed c.next.ensures (Some c.in-Ok-Some.record)
    (c.in-Ok-Some.is ∙ ap Ok c.in-Ok-Some.field-0-is)) c.in_default-record.not-Pair

pub returns-in_default-2 : goal.returns-in_default-2
returns-in_default-2 c order s =
    absurd (never_refused order c.args.costs.now c.args.standing.now s.fits
    c.loop-record.records.stage c.loop-record.records.fields.rest.now c.loop-record.costs
    c.loop-record.standing (c.loop-record.invariant order s) c.next.ensures c.in_default.field-0
    c.in_default.is)
