-- Where the reading is stored, one place is written, with a byte that is not disturbed and a cost
-- within 10^9; and else nothing is.
use Rattle.std.proofs.Common.{refl}
use Rattle.pairing.specs.Places.{places_of}
use Rattle.tables.proofs.Writing.{wrote_in_order}
use Rattle.tables.proofs.pair_tables.enter_pair.Goals as goal

pub returns-clause-in_order : goal.returns-clause-in_order
returns-clause-in_order g c = wrote_in_order g.K.Cost (places_of c.args.n) c.args.costs.now
    c.args.standing.now c.requires.places.costs c.requires.places.standing c.place-at.result 1
    c.args.reading refl (λ _. c.requires.within)
