-- The theorem itself, proved in proofs/Listing.antt.
use Rattle.pairing.proofs.Listing.{marks_are}
use Rattle.pairing.proofs.marks_are.Goals as goal

pub returns : goal.returns
returns c = marks_are
