-- What a pass over the pair tables gathers of their bytes tells whether it met a fault.
-- Idea: what is gathered by `or` is small just where each part of it is. A byte is cut short by the
-- number of its fault, 1 or 0, so only a fault of a standing pair is left over.
use Rattle.std.specs.Prelude.{◌≡◌, ℕ, zero, suc, ◌/◌, ◌≤◌, Bool, true, false, not, ◌&&◌, ◌||◌, ◌==◌}
use Rattle.std.specs.Prelude.{nat_le, IsTrue, ◌↔◌}
use Rattle.std.specs.Cmp.{both_ways}
use Rattle.std.proofs.Common.{refl, ap, ap₂, ◌∙◌, arith}
use mir.Val.{bool_byte}
use lib.Bits.{bit_and, bit_or, or_step, or_zero_r}
use Rattle.std.proofs.lemmas.Nat.{le_or_l, le_or_r}
use Rattle.std.proofs.lemmas.Bool.Decides.{Decides-and, nat_tests}
use Rattle.std.proofs.lemmas.Bool.{leb-true, le-leb, ne_eqb, not-true, not_from_false, false≢true}
use Rattle.tables.specs.PairTables.{says_stands, says_disturbed}

-- no byte was disturbed, and no standing pair had a fault
abbrev pub faultless : (seen faults : ℕ) → Bool
faultless seen faults = nat_le seen 1 && faults == 0

-- one byte, and whether its pair would be fine if it stood
abbrev pub is_fine : ℕ → Bool → Bool
is_fine byte fine = not (says_disturbed byte) && (not (says_stands byte) || fine)

if_tells : {P : Type 0} (given fine : Bool) → IsTrue fine ↔ P
    → IsTrue (not given || fine) ↔ (given ≡ true → P)
if_tells true fine told = (λ e _. told.0 e, λ h. told.1 (h refl))
if_tells false fine told = (λ _ e. absurd (false≢true e), λ _. refl)

-- it tells what is asked of a byte, where that test tells what is asked of a standing pair
pub fine_tells : {P : Type 0} (byte : ℕ) (fine : Bool) → IsTrue fine ↔ P
    → IsTrue (is_fine byte fine) ↔ ((says_disturbed byte ≡ false) × (says_stands byte ≡ true → P))
fine_tells byte fine told = Decides-and (not (says_disturbed byte)) (not (says_stands byte) || fine)
    (not-true (says_disturbed byte), not_from_false (says_disturbed byte))
    (if_tells (says_stands byte) fine told)

-- a byte that is not disturbed against a test
pub and_byte : (byte : ℕ) (test : Bool) → byte ≤ 1
    → bit_and byte (bool_byte test) ≡ bool_byte (says_stands byte && test)
and_byte zero true h = refl
and_byte zero false h = refl
and_byte (suc zero) true h = refl
and_byte (suc zero) false h = refl
and_byte (suc (suc byte)) test h = absurd (omega arith)

few_or : (seen : ℕ) → seen ≤ 1 → bit_or seen 1 ≤ 1
few_or seen h =
    let halves : bit_or (seen / 2) 0 ≡ seen / 2 = or_zero_r (seen / 2) in
    omega (arith, or_step seen 1)

few_same : (seen : ℕ) → nat_le (bit_or seen 1) 1 ≡ nat_le seen 1
few_same seen = both_ways (nat_le (bit_or seen 1) 1) (nat_le seen 1)
    (λ e. le-leb seen 1 (omega (arith, le_or_l seen 1, leb-true (bit_or seen 1) 1 e)))
    (λ e. le-leb (bit_or seen 1) 1 (few_or seen (leb-true seen 1 e)))

many : (seen byte : ℕ) → nat_le (bit_or seen (suc (suc byte))) 1 ≡ false
many seen byte =
    let above = le_or_r seen (suc (suc byte)) in
    grind (arith, nat_tests)

-- one byte more
pub gathered : (seen faults byte : ℕ) (fine : Bool)
    → faultless (bit_or seen byte) (bit_or faults (bit_and byte (bool_byte (not fine))))
    ≡ (faultless seen faults && is_fine byte fine)
gathered seen faults zero fine =
    ap₂ faultless (or_zero_r seen) (or_zero_r faults) ∙ grind arith
gathered seen faults (suc zero) true =
    ap₂ (λ x y. x && y == 0) (few_same seen) (or_zero_r faults) ∙ grind arith
gathered seen faults (suc zero) false =
    let some : (bit_or faults 1 == 0) ≡ false =
    ne_eqb (bit_or faults 1) 0 (λ e. omega (arith, le_or_r faults 1)) in
    ap (λ x. nat_le (bit_or seen 1) 1 && x) some ∙ grind arith
gathered seen faults (suc (suc byte)) fine =
    ap (λ x. x && bit_or faults (bit_and (suc (suc byte)) (bool_byte (not fine))) == 0)
    (many seen byte) ∙ grind arith
