-- The right blocks before i lead on, and the others are as they were.
use Rattle.std.proofs.Common.{◌≡◌, ℕ, ◌<◌, ◌≤◌, ◌&&◌, ◌||◌, length, slice_index_or}
use Rattle.blockset.specs.declared.TheConstants.{SET_WIDTH}
use Rattle.blockset.specs.Has.{no_blocks}
use Rattle.pairing.specs.Rows.{holds}
use Rattle.matching.proofs.marking.lead_through.Given as goal

abbrev pub invariant-loop-i : goal.invariant-loop-i
invariant-loop-i l = record {
  sized : length l.led ≡ SET_WIDTH;
  done : (m j : ℕ) → m < l.i → holds l.led m j
      ≡ (holds l.initial.led m j || (holds l.initial.led m l.k && holds l.initial.led l.k j));
  rest : (m : ℕ) → l.i ≤ m → slice_index_or l.led m no_blocks
      ≡ slice_index_or l.initial.led m no_blocks;
}
