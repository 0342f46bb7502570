-- Sets of numbers as tests, how many members they have, and the set that the bits of one number
-- make.
use Rattle.std.specs.Prelude.{ℕ, zero, suc, ◌+◌, ◌/◌, ◌%◌, Bool, if◌then◌else◌, ◌==◌}

-- how many of the numbers below n are in a set
unfoldable pub members : ℕ → (ℕ → Bool) → ℕ
members zero C = 0
members (suc n) C = (if C 0 then 1 else 0) + members n (λ x. C (suc x))

-- bit l of a number, the lowest first: a set of numbers as one number
unfoldable pub bit : ℕ → ℕ → Bool
bit m zero = m % 2 == 1
bit m (suc l) = bit (m / 2) l
