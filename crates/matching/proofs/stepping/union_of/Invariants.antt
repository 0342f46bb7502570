-- Idea: the rows before the next one are gathered, and each turn adds the test of one row more.
use Rattle.std.proofs.Common.{◌≡◌, ℕ, take}
use Rattle.std.specs.List.{list_any}
use Rattle.blockset.specs.Has.{has}
use Rattle.matching.proofs.stepping.union_of.Given as goal

abbrev pub invariant-loop-row : goal.invariant-loop-row
invariant-loop-row l = (r : ℕ) → has l.all r ≡ list_any (λ row. has row r) (take l.row-index l.rows)
