-- The right blocks that the iterator no longer has are looked at.
use Rattle.std.proofs.Common.{◌≡◌, ℕ, true, not, ◌&&◌}
use Rattle.blockset.specs.Has.{has}
use Rattle.pairing.specs.Rows.{holds}
use Rattle.matching.proofs.marking.class_of.Given as goal

abbrev pub invariant-loop-c : goal.invariant-loop-c
invariant-loop-c l = record {
  can_next : (goal.iterator-loop-c).can_next l.c-iterator;
  finite : (goal.iterator-loop-c).is_finite l.c-iterator;
  rest : (j : ℕ) → has l.c-iterator j ≡ true → holds l.led l.own j ≡ true;
  class : (j : ℕ) → has l.class j
      ≡ (holds l.led l.own j && (not (has l.c-iterator j) && holds l.led j l.own));
}
