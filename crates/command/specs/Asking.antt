-- What the words of a command ask a program for. The first of them is the program's name.
use Rattle.std.specs.Prelude.{◌≡◌, ◌⊎◌, ℕ, List, codes, length, slice_get, string_bytes, IfSome}
use Rattle.std.specs.Prelude.{String}

-- the word asks what the program does
abbrev pub MeansHelp : List ℕ → Type 0
MeansHelp word = (word ≡ codes "--help") ⊎ (word ≡ codes "-h")

-- the second word is the last, and asks what the program does
abbrev pub AsksHelp : {Z : Type 0} → List (String Z) → Type 0
AsksHelp words = (length words ≡ 2)
    × IfSome (slice_get words 1) (λ word. MeansHelp (string_bytes word))
