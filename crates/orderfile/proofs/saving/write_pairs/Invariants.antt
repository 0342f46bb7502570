-- The standing pairs of the rows so far are written.
use Rattle.pairing.specs.Places.{place_of}
use Rattle.orderfile.specs.declared.format.TheConstants.{SIZE_FIELD}
use Rattle.orderfile.proofs.Buffer.{HasWritten}
use Rattle.orderfile.proofs.saving.write_pairs.Given as goal

abbrev pub invariant-loop-left : goal.invariant-loop-left
invariant-loop-left l = HasWritten l.n l.costs l.standing l.initial.out SIZE_FIELD 0
    (place_of l.n l.left 0) l.at l.out
