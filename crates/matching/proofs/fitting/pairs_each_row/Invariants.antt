-- The left blocks before l have different right blocks of their rows, and the others are free.
use Rattle.std.proofs.Common.{◌≡◌, ℕ, ◌<◌, true, false, length}
use Rattle.blockset.specs.Has.{has}
use Rattle.pairing.specs.Grid.{at}
use Rattle.pairing.specs.Rows.{holds}
use Rattle.matching.proofs.fitting.pairs_each_row.Given as goal

abbrev pub invariant-loop-l : goal.invariant-loop-l
invariant-loop-l l = record {
  taken : (m : ℕ) → m < l.l → has l.free (at l.p m) ≡ false;
  inside : (c : ℕ) → has l.free c ≡ true → c < length l.rows;
  free : (c : ℕ) → c < length l.rows → ((m : ℕ) → m < l.l → at l.p m ≡ c → ⊥) → has l.free c ≡ true;
  below : (m : ℕ) → m < l.l → at l.p m < length l.rows;
  standing : (m : ℕ) → m < l.l → holds l.rows m (at l.p m) ≡ true;
  once : (m k : ℕ) → m < l.l → k < l.l → at l.p m ≡ at l.p k → m ≡ k;
}
