-- What the needs of a call at one pair tell.
-- Idea: whether both blocks exist is tested by two comparisons, and a byte that is neither 0 nor 1
-- says of no pair that it stands.
use Rattle.std.proofs.Common.{◌≡◌, ℕ, ◌<◌, true, false, ltb, List, length, inl, inr, arith}
use Rattle.std.proofs.lemmas.Bool.{and_parts, and_from, lt-ltb, ltb-true}
use Rattle.std.proofs.lemmas.Bool.{false_from_ne_true, true_from_ne_false}
use Rattle.std.proofs.lemmas.Bool.Decides.{nat_tests}
use Rattle.cost.specs.declared.Cost.{Ghosts}
use Rattle.sheet.specs.declared.fault.Fault.{Fault}
use Rattle.tables.specs.PairTables.{HavePlaces, says_stands, byte_of}
use Rattle.sheet.specs.Needs.{IsFirstUnmet}
use Rattle.sheet.specs.Pairs.{AreBlocks, are_blocks, strike_needs}

-- the test whether both blocks exist
pub blocks_from : (n l r : ℕ) → l < n → r < n → are_blocks n l r ≡ true
blocks_from n l r hl hr = and_from (ltb l n) (ltb r n) (lt-ltb l n hl) (lt-ltb r n hr)

pub blocks_told : (n l r : ℕ) → are_blocks n l r ≡ true → (l < n) × (r < n)
blocks_told n l r e = let both = and_parts (ltb l n) (ltb r n) e in
    (ltb-true l n both.0, ltb-true r n both.1)

-- a pair of blocks that is not found in tables of the right lengths does not stand
pub strike_absent : {K : Type 0} (kind : Ghosts K) (n : ℕ) (costs : List K) (standing : List ℕ)
    (l r : ℕ) (f : Fault) → HavePlaces n (length costs) (length standing) → AreBlocks n l r
    → IsFirstUnmet (strike_needs kind n costs standing l r) f
    → says_stands (byte_of n standing l r) ≡ false
strike_absent kind n costs standing l r f have are (inl unmet) = absurd (unmet.0 have)
strike_absent kind n costs standing l r f have are (inr (_, inl unmet)) = absurd (unmet.0 are)
strike_absent kind n costs standing l r f have are (inr (_, inr (_, inl unmet))) =
    let odd = true_from_ne_false _ unmet.0 in grind (arith, nat_tests)
strike_absent kind n costs standing l r f have are (inr (_, inr (_, inr (_, inl unmet)))) =
    false_from_ne_true _ unmet.0
strike_absent kind n costs standing l r f have are (inr (_, inr (_, inr (_, inr unmet)))) =
    absurd unmet.1
