-- The class is noted at the right blocks that the iterator no longer has.
use Rattle.std.proofs.Common.{◌≡◌, ℕ, true, not, ◌&&◌, if◌then◌else◌, length}
use Rattle.blockset.specs.declared.TheConstants.{SET_WIDTH}
use Rattle.blockset.specs.Has.{has}
use Rattle.pairing.specs.Rows.{holds}
use Rattle.matching.proofs.marking.note_class.Given as goal

abbrev pub invariant-loop-c : goal.invariant-loop-c
invariant-loop-c l = record {
  can_next : (goal.iterator-loop-c).can_next l.c-iterator;
  finite : (goal.iterator-loop-c).is_finite l.c-iterator;
  rest : (j : ℕ) → has l.c-iterator j ≡ true → has l.class j ≡ true;
  sized : length l.classes ≡ SET_WIDTH;
  noted : (i j : ℕ) → holds l.classes i j
      ≡ (if has l.class i && not (has l.c-iterator i) then has l.class j
      else holds l.initial.classes i j);
}
