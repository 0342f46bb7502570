-- A refusal of a line is the first fault of the text; where the text ends, it states what came, or
-- has its first fault there.
use Rattle.std.proofs.Common.{Err, ap, sym, ◌∙◌}
use Rattle.std.proofs.lemmas.Result.{err_from_is_err_and}
use Rattle.dimacs.proofs.Checking.{come_more, come_wrong, come_none, come_checked, refuses}
use Rattle.dimacs.proofs.importing.check.Goals as goal

pub returns-in_err-line : goal.returns-in_err-line
returns-in_err-line c =
    let p = err_from_is_err_and c.from_residual.result c.from_residual.ensures.1 in
    let was = c.loop-line.invariant in
    let f = c.in_err-line.field-0.0 in
    let reads = rw (was.text, was.place) at c.in_err-line.ensures.reads in
    refuses f (come_none was.come f reads.0 reads.1 reads.2) (p.1 ∙ ap Err p.2)

pub returns-in_err-advance : goal.returns-in_err-advance
returns-in_err-advance c =
    let p = err_from_is_err_and c.from_residual-in_err-advance.result
    c.from_residual-in_err-advance.ensures.1 in
    let was = c.loop-line.invariant in
    let f = c.in_err-advance.field-0.0 in
    let read = rw (c.in-Some.is, was.text, was.place) at c.in_ok-line.ensures.reads in
    refuses f
    (come_wrong was.come read f
    (c.in_err-advance.ensures was.come.stage read.statement was.come.tells read.states).0)
    (p.1 ∙ ap Err p.2)

pub loop-line-preserved : goal.loop-line-preserved
loop-line-preserved c =
    let was = c.loop-line.invariant in
    let read = rw (c.in-Some.is, was.text, was.place) at c.in_ok-line.ensures.reads in
    let more = come_more was.come read c.advance.new.self
    (c.in_ok-advance.ensures was.come.stage read.statement was.come.tells read.states) in
    record {
      text = c.in_ok-line.ensures.same ∙ was.text;
      place = sym c.place-place.ensures;
      come = rw c.place-place.ensures more;
    }

pub returns : goal.returns
returns c =
    let was = c.loop-line.invariant in
    let none = rw (c.in_default.is, was.text, was.place) at c.in_ok-line.ensures.reads in
    come_checked was.come none.0 c.conclude.result
    (c.conclude.ensures was.come.stage was.come.tells)
