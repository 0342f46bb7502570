-- The theorem itself, proved in proofs/Listing.antt.
use Rattle.pairing.proofs.Listing.{pairs_are}
use Rattle.pairing.proofs.pairs_are.Goals as goal

pub returns : goal.returns
returns c = pairs_are
