-- The first of all pairings stands at the first place.
use Rattle.std.proofs.Common.{arith}
use Rattle.matching.proofs.Places.{first_place}
use Rattle.matching.proofs.stepping.make_first.Goals as goal

pub returns : goal.returns
returns c =
    let s = c.make_first_from.ensures in
    first_place c.args.rows.now c.make_first_from.new.p s.pairs
    (λ q g. s.first q g (λ i h. absurd (omega arith)))
