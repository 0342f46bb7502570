-- The word of its own that a program knows beside those for its usage.
use Rattle.std.specs.Prelude.{◌≡◌, ℕ, List, length, slice_get, string_bytes, IfSome, String}

-- the second word is the last, and it is this one
abbrev pub AsksFor : {Z : Type 0} → (own : List ℕ) → List (String Z) → Type 0
AsksFor own words = (length words ≡ 2)
    × IfSome (slice_get words 1) (λ word. string_bytes word ≡ own)
