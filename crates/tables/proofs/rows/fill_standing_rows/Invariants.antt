-- The rows before l hold what stands.
use Rattle.pairing.specs.Places.{rights_of}
use Rattle.tables.specs.PairTables.{byte_of, says_stands}
use Rattle.tables.proofs.Filling.{Made}
use Rattle.tables.proofs.rows.fill_standing_rows.Given as goal

abbrev pub invariant-loop-l : goal.invariant-loop-l
invariant-loop-l l =
    Made l.l (rights_of l.n) (λ k r. says_stands (byte_of l.n l.standing k r)) l.rows
