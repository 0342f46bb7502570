-- What is left of the file are the fields still to come, and the tables are those after the pairs
-- that came; each record leaves less of the file.
use Rattle.std.proofs.Common.{length}
use Rattle.orderfile.specs.Format.{StatedOrder, States}
use Rattle.orderfile.proofs.Entering.{IsAhead}
use Rattle.orderfile.proofs.loading.enter_all.Given as goal

abbrev pub invariant-loop-record : goal.invariant-loop-record
invariant-loop-record l = (order : StatedOrder) → States l.file order
    → IsAhead order l.initial.costs l.initial.standing l.records.stage l.records.fields.rest.now
    l.costs l.standing

abbrev pub decreases-loop-record : goal.decreases-loop-record
decreases-loop-record l = length l.records.fields.rest.now
