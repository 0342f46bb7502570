-- What was gathered tells whether the places before k are in order.
use Rattle.std.specs.Prelude.{◌≡◌, take, zip}
use Rattle.std.specs.List.{list_all}
use Rattle.tables.specs.PairTables.{is_place_in_order}
use Rattle.tables.proofs.Gathering.{faultless}
use Rattle.tables.proofs.pair_tables.in_order.Given as goal

abbrev pub invariant-loop-k : goal.invariant-loop-k
invariant-loop-k g l = faultless l.seen l.faults
    ≡ list_all (λ place. is_place_in_order (g.K.Cost.meaning place.0) place.1)
    (take l.k (zip l.costs l.standing))
