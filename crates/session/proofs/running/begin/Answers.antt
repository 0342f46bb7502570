-- A sheet of a sound size opens over tables of the right lengths.
-- Idea: the call's own checks are those that were made before it.
use Rattle.std.proofs.Common.{◌≡◌, rules, arith}
use Rattle.sheet.specs.Size.{IsSize}
use Rattle.session.specs.Lists.{lengths, right_lengths}
use Rattle.session.specs.Runs.{tables_of}
use Rattle.session.proofs.Going.{opens_always, begun}
use Rattle.session.proofs.running.begin.Goals as goal

pub returns-in_err-sheet : goal.returns-in_err-sheet
returns-in_err-sheet g c =
    let t = c.args.tables.now in
    let n = c.args.n in
    let size : IsSize n = record { some = omega arith; few = omega arith } in
    let right : lengths (tables_of t) ≡ right_lengths n = search rules in
    absurd (opens_always g.K.Cost n t c.as_mut_slice.result.now c.open.new.costs
    c.as_mut_slice-2.result.now c.open.new.standing c.open.result size right
    c.as_mut_slice.ensures.value c.as_mut_slice-2.ensures.value c.open.ensures.call
    c.in_err-sheet.field-0.0 c.in_err-sheet.was)

pub returns-clause-begins : goal.returns-clause-begins
returns-clause-begins g c =
    let t = c.args.tables.now in
    let n = c.args.n in
    let size : IsSize n = record { some = omega arith; few = omega arith } in
    let right : lengths (tables_of t) ≡ right_lengths n = search rules in
    begun g.K.Cost n t c.as_mut_slice.result.now c.open.new.costs c.as_mut_slice-2.result.now
    c.open.new.standing c.open.result size right
    c.as_mut_slice.ensures.value c.as_mut_slice-2.ensures.value c.open.ensures.call
    c.open.auto.costs c.open.auto.standing c.in_ok-sheet.sheet c.in_ok-sheet.was
