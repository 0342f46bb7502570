-- The bytes that were passed are counted.
use Rattle.std.proofs.Common.{◌≡◌, ◌≤◌, take, count_by}
use Rattle.tables.specs.PairTables.{says_stands}
use Rattle.tables.proofs.pair_tables.standing_pairs.Given as goal

abbrev pub invariant-loop-byte : goal.invariant-loop-byte
invariant-loop-byte l = (l.count ≡ count_by says_stands (take l.byte-index l.standing))
    × (l.count ≤ l.byte-index)
