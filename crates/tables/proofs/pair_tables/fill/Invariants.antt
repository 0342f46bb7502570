-- The places passed so far hold the value.
use Rattle.std.proofs.Common.{◌≡◌, take, replicate}
use Rattle.tables.proofs.pair_tables.fill.Given as goal

abbrev pub invariant-loop-x : goal.invariant-loop-x
invariant-loop-x g l = take l.x-index l.table ≡ replicate l.x-index l.value
