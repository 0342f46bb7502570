-- The theorem itself, proved in proofs/Listing.antt.
use Rattle.pairing.proofs.Listing.{perfects_are}
use Rattle.pairing.proofs.perfects_are.Goals as goal

pub returns : goal.returns
returns c = perfects_are
