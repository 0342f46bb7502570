-- The standing pairs with the right blocks so far are written.
use Rattle.pairing.specs.Places.{place_of}
use Rattle.orderfile.proofs.Buffer.{HasWritten}
use Rattle.orderfile.proofs.saving.write_row.Given as goal

abbrev pub invariant-loop-right : goal.invariant-loop-right
invariant-loop-right l = HasWritten l.n l.costs l.standing l.initial.out l.start
    (place_of l.n l.left 0) l.right l.at l.out
