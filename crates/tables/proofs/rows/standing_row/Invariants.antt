-- The row has just the right blocks before r that stand.
use Rattle.std.specs.Prelude.{slice_index}
use Rattle.tables.specs.PairTables.{says_stands}
use Rattle.tables.specs.PairRows.{HoldsPassing}
use Rattle.tables.proofs.rows.standing_row.Given as goal

abbrev pub invariant-loop-r : goal.invariant-loop-r
invariant-loop-r l = HoldsPassing l.r (λ j. says_stands (slice_index l.bytes j)) l.row
