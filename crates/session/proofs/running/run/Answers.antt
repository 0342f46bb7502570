-- A run keeps the promise, wherever it ends.
-- Idea: opening begins a program, and each turn of the loop is one step of it, which the invariant
-- carries; where the run ends, the law is cited for the calls so far.
use Rattle.std.proofs.Common.{◌≡◌, false, List, Ok, Err, Result, sym, refl, ap, ◌∙◌, subst, arith}
use Rattle.std.specs.Prelude.{OnOk, is_err}
use Rattle.session.specs.declared.call.Call.{Call}
use Rattle.session.specs.declared.call.Lengths.{Lengths}
use Rattle.session.specs.Lists.{TableLists, lengths, right_lengths}
use Rattle.session.specs.Program.{EveryProgramKeeps}
use Rattle.session.specs.Runs.{tables_of, AreNoLonger, AreLent}
use Rattle.session.proofs.Going.{made_as, not_made_then, going_none, going_on, finished, stopped}
use Rattle.session.proofs.Theorem.{every_program_keeps}
use Rattle.session.proofs.running.run.Given.{Over}
use Rattle.session.proofs.running.run.Goals as goal

-- where memory for one more answer was found, there is a place for it
room_for_one : {E : Type 0} (r : Result (Unit {0}) E) (Room : Type 0) → is_err r ≡ false
    → OnOk r Room → Room
room_for_one (Ok u) Room e h = h
room_for_one (Err x) Room e h = absurd (let z : ⊥ = cc in z)

-- what the law says of the kind
law : (g : Over) → EveryProgramKeeps g.K.Cost
law g = every_program_keeps g.K.Cost g.met.K.Cost.laws

pub loop-call-init : goal.loop-call-init
loop-call-init g c =
    going_none g.K.Cost c.args.n (tables_of c.args.tables.now) c.in-Ok.state
    c.new-answers.result.items (tables_of c.begin.new.tables) c.new-answers.ensures.items
    c.in-Ok.ensures.sheet c.in-Ok.ensures.long c.in-Ok.ensures.begins

-- each call is handed no more than is lent
all_lent : (g : Over) (calls : List (Call g.row.K.Denot)) (seen : Lengths)
    (t : TableLists g.row.K.Denot) → seen ≡ lengths t → AreLent g.K.Cost calls seen
    → AreLent g.K.Cost calls (lengths t)
all_lent g calls seen t e h = subst (λ (m : Lengths). AreLent g.K.Cost calls m) e h

pub returns-then-is_err : goal.returns-then-is_err
returns-then-is_err g c =
    let l = c.loop-call in
    let own = tables_of l.tables in
    let lent = tables_of c.args.tables.now in
    let ended = stopped g.K.Cost c.args.n lent (law g) c.args.calls.now l.call-index l.answers.items
    c.reserve.new.self.items l.state own own c.loop-call-test.true c.reserve.ensures.items refl
    l.invariant in (
      all_lent g c.args.calls.now c.lengths-lent.result lent c.lengths-lent.ensures
          c.if-not-all_lent.ensures,
      ended.0,
      ended.1,
    )

pub make-next-requires-clause-right : goal.make-next-requires-clause-right
make-next-requires-clause-right g c =
    let g' = c.loop-call.invariant in
    g'.long ∙ g'.sheet.right ∙ ap right_lengths (sym g'.sized)

pub make-next-requires-clause-lent : goal.make-next-requires-clause-lent
make-next-requires-clause-lent g c =
    let call = c.call-item.result in
    let lent = c.lengths-lent.result in
    let within : AreNoLonger call.handed lent =
    subst (λ (x : Call g.row.K.Denot). AreNoLonger x.handed lent) (sym c.call-item.is)
    (c.if-not-all_lent.ensures c.loop-call.call-index call c.loop-call-test.true) in
    subst (λ (m : Lengths). AreNoLonger call.handed m)
    (c.lengths-lent.ensures ∙ sym c.loop-call.invariant.long) within

pub push_reserved-requires : goal.push_reserved-requires
push_reserved-requires g c =
    let room = room_for_one c.reserve.result _ (sym c.if-is_err.ensures.value)
    c.reserve.ensures.ok in
    omega (arith, room)

pub returns-in-Err-outcome : goal.returns-in-Err-outcome
returns-in-Err-outcome g c =
    let l = c.loop-call in
    let lent = tables_of c.args.tables.now in
    let same = not_made_then g.K.Cost l.state (tables_of l.tables) c.call-item.result
    c.make-next.result (tables_of c.make-next.new.tables) c.make-next.ensures.makes
    c.in-Err-outcome.field-0 c.in-Err-outcome.is in
    let ended = stopped g.K.Cost c.args.n lent (law g) c.args.calls.now l.call-index l.answers.items
    c.reserve.new.self.items l.state (tables_of l.tables) (tables_of c.make-next.new.tables)
    c.loop-call-test.true c.reserve.ensures.items same l.invariant in (
      all_lent g c.args.calls.now c.lengths-lent.result lent c.lengths-lent.ensures
          c.if-not-all_lent.ensures,
      ended.0,
      ended.1,
    )

pub loop-call-preserved : goal.loop-call-preserved
loop-call-preserved g c =
    let l = c.loop-call in
    going_on g.K.Cost c.args.n (tables_of c.args.tables.now) c.args.calls.now l.call-index
    c.call-item.result l.answers.items c.reserve.new.self.items c.push_reserved.new.self.items
    c.in-Ok-outcome.answer l.state c.make-next.result.0 (tables_of l.tables)
    (tables_of c.make-next.new.tables) c.loop-call-test.true c.call-item.is c.reserve.ensures.items
    c.push_reserved.ensures.items (made_as g.K.Cost l.state (tables_of l.tables)
    c.call-item.result c.make-next.result (tables_of c.make-next.new.tables)
    c.make-next.ensures.makes c.in-Ok-outcome.answer c.in-Ok-outcome.is)
    l.invariant

pub returns : goal.returns
returns g c =
    let l = c.loop-call in
    let lent = tables_of c.args.tables.now in (
      all_lent g c.args.calls.now c.lengths-lent.result lent c.lengths-lent.ensures
          c.if-not-all_lent.ensures,
      finished g.K.Cost c.args.n lent (law g) c.args.calls.now l.call-index l.answers.items l.state
          (tables_of l.tables) c.loop-call-test.false l.invariant,
    )
