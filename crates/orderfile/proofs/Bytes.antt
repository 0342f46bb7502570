-- Eight bytes and the number that they spell, back and forth.
-- Idea: a byte is peeled off at a time: x is 256 * (x / 256) + x % 256, and with b below 256 the
-- number 256 * y + b has the quotient y and the rest b.
use Rattle.std.proofs.Common.{◌≡◌, ℕ, ◌+◌, ◌*◌, ◌/◌, ◌%◌, ◌<◌, [], ◌∷◌, arith}
use Rattle.orderfile.specs.Format.{eight_bytes}

-- the number that eight bytes spell, the high byte first
abbrev pub spelled : ℕ → ℕ → ℕ → ℕ → ℕ → ℕ → ℕ → ℕ → ℕ
spelled a b c d e f g h = a * 72057594037927936 + b * 281474976710656 + c * 1099511627776 + d *
    4294967296 + e * 16777216 + f * 65536 + g * 256 + h

pub bytes_spell : (x : ℕ) → x < 18446744073709551616
    → spelled (x / 72057594037927936 % 256) (x / 281474976710656 % 256) (x / 1099511627776 % 256)
    (x / 4294967296 % 256) (x / 16777216 % 256) (x / 65536 % 256) (x / 256 % 256) (x % 256) ≡ x
bytes_spell x l = omega arith

pub spelled_bytes : (a b c d e f g h : ℕ) → a < 256 → b < 256 → c < 256 → d < 256 → e < 256
    → f < 256 → g < 256 → h < 256
    → eight_bytes (spelled a b c d e f g h) ≡ a ∷ b ∷ c ∷ d ∷ e ∷ f ∷ g ∷ h ∷ []
spelled_bytes a b c d e f g h la lb lc ld le lf lg lh =
    let x : ℕ = spelled a b c d e f g h in
    let ea : x / 72057594037927936 % 256 ≡ a = omega arith in
    let eb : x / 281474976710656 % 256 ≡ b = omega arith in
    let ec : x / 1099511627776 % 256 ≡ c = omega arith in
    let ed : x / 4294967296 % 256 ≡ d = omega arith in
    let ee : x / 16777216 % 256 ≡ e = omega arith in
    let ef : x / 65536 % 256 ≡ f = omega arith in
    let eg : x / 256 % 256 ≡ g = omega arith in
    let eh : x % 256 ≡ h = omega arith in
    cc
