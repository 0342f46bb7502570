-- The calls so far are those of a program, which has come to this state and these tables.
use Rattle.std.proofs.Common.{take}
use Rattle.session.specs.Runs.{tables_of}
use Rattle.session.proofs.Going.{Going}
use Rattle.session.proofs.running.run.Given as goal

abbrev pub invariant-loop-call : goal.invariant-loop-call
invariant-loop-call g l =
    Going g.K.Cost l.n (tables_of l.fn.tables) (take l.call-index l.calls) l.answers.items l.state
    (tables_of l.tables)
