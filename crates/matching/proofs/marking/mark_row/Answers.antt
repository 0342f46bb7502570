-- The bit of a byte tells of the next right block.
-- Idea: byte k of a number is the number over 256^k, cut to eight bits, so that its bit i is bit
-- 8k + i of the number; and r is 8 times r / 8, and r % 8 more.
use Rattle.std.proofs.Common.{◌≡◌, ℕ, zero, suc, ◌+◌, ◌*◌, ◌/◌, ◌%◌, ◌^◌, ◌<◌, ◌≢◌, if◌then◌else◌}
use Rattle.std.proofs.Common.{◌==◌, length, slice_index_or, refl, sym, ap, ◌∙◌, below_more, arith}
use Rattle.std.proofs.Common.{get_or-set_other, get_or-set_same}
use Rattle.std.proofs.Math.Nat.{pow-suc, div-div-eq-div-mul}
use Rattle.std.proofs.lemmas.Nat.{pow-add}
use Rattle.std.proofs.lemmas.Bool.Decides.{nat_tests}
use Rattle.std.specs.Int.{bytes_low_first}
use Rattle.blockset.specs.declared.TheConstants.{SET_WIDTH}
use Rattle.blockset.specs.Sets.{bit}
use Rattle.blockset.proofs.Bits.{bit_is}
use Rattle.matching.proofs.marking.mark_row.Goals as goal

byte_here : (i k n j : ℕ) → j < k
    → slice_index_or (bytes_low_first i k n) j 0 ≡ n / 256 ^ (i + j) % 256
byte_here i zero n j h = absurd (omega arith)
byte_here zero (suc k) n zero h = omega arith
byte_here (suc i) (suc k) n zero h = ap (λ x. n / 256 ^ x % 256) (omega arith)
byte_here i (suc k) n (suc j) h =
    byte_here (suc i) k n j (omega arith) ∙ ap (λ x. n / 256 ^ x % 256) (omega arith)

bytes_pow : (k : ℕ) → 256 ^ k ≡ 2 ^ (8 * k)
bytes_pow zero = refl
bytes_pow (suc k) =
    pow-suc 256 k ∙ ap (λ x. x * 256) (bytes_pow k) ∙ sym (pow-add 2 (8 * k) 8)
    ∙ ap (λ x. 2 ^ x) (omega arith)

-- a bit of the low byte
low_byte : (m i : ℕ) → i < 8 → m % 256 / 2 ^ i % 2 ≡ m / 2 ^ i % 2
low_byte m zero h = omega arith
low_byte m (suc zero) h = omega arith
low_byte m (suc (suc zero)) h = omega arith
low_byte m (suc (suc (suc zero))) h = omega arith
low_byte m (suc (suc (suc (suc zero)))) h = omega arith
low_byte m (suc (suc (suc (suc (suc zero))))) h = omega arith
low_byte m (suc (suc (suc (suc (suc (suc zero)))))) h = omega arith
low_byte m (suc (suc (suc (suc (suc (suc (suc zero))))))) h = omega arith
low_byte m (suc (suc (suc (suc (suc (suc (suc (suc i)))))))) h = absurd (omega arith)

bit_of_byte : (n k i : ℕ) → i < 8 → n / 256 ^ k % 256 / 2 ^ i % 2 ≡ n / 2 ^ (8 * k + i) % 2
bit_of_byte n k i h =
    low_byte (n / 256 ^ k) i h
    ∙ ap (λ x. x % 2) (div-div-eq-div-mul n (256 ^ k) (2 ^ i)
    ∙ ap (λ x. n / (x * 2 ^ i)) (bytes_pow k) ∙ ap (λ x. n / x) (sym (pow-add 2 (8 * k) i)))

as_mark : (n : ℕ) → n % 2 ≡ (if n % 2 == 1 then 1 else 0)
as_mark n = grind (arith, nat_tests)

-- what is written of right block r
mark_here : (n r : ℕ) → r < SET_WIDTH
    → slice_index_or (bytes_low_first 0 8 n) (r / 8) 0 / 2 ^ (r % 8) % 2
    ≡ (if bit n r then 1 else 0)
mark_here n r h =
    ap (λ x. x / 2 ^ (r % 8) % 2) (byte_here 0 8 n (r / 8) (omega arith)
    ∙ ap (λ x. n / 256 ^ x % 256) (omega arith))
    ∙ bit_of_byte n (r / 8) (r % 8) (omega arith)
    ∙ ap (λ x. n / 2 ^ x % 2) (omega arith)
    ∙ as_mark (n / 2 ^ r)
    ∙ ap (λ b. (if b then 1 else 0)) (sym (bit_is n r))

pub loop-r-preserved : goal.loop-r-preserved
loop-r-preserved c =
    let r = c.loop-r.r in
    below_more _ _
    (λ k h. let ne : k ≢ c.loop-r.r = omega arith in
    rw get_or-set_other (c.loop-r.invariant k h))
    (let lt : c.loop-r.r < length c.loop-r.marks = omega arith in
    rw get_or-set_same (ap (λ bs. slice_index_or bs (r / 8) 0 / 2 ^ (r % 8) % 2)
    c.to_le_bytes-bytes.ensures
    ∙ mark_here c.bits.result r (omega arith)
    ∙ ap (λ b. (if b then 1 else 0)) (c.bits.ensures r)))
