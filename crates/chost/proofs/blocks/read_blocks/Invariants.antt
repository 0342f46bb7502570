-- The front of the list is the front of the bytes.
use Rattle.std.proofs.Common.{◌≡◌, take}
use Rattle.chost.proofs.blocks.read_blocks.Given as goal

abbrev pub invariant-loop-l : goal.invariant-loop-l
invariant-loop-l l = take l.l l.list ≡ take l.l l.bytes
