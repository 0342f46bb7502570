-- The front of the buffer is the front of the list, and the rest is what it was.
use Rattle.std.proofs.Common.{◌≡◌, take, drop}
use Rattle.chost.proofs.blocks.write_blocks.Given as goal

abbrev pub invariant-loop-l : goal.invariant-loop-l
invariant-loop-l l = (take l.l l.out ≡ take l.l l.list) × (drop l.l l.out ≡ drop l.l l.initial.out)
