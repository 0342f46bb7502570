-- Lines of numbers, that of a pairing among them, and texts of one piece for each number.
use Rattle.std.specs.Prelude.{ℕ, zero, suc, List, [], ◌++◌, codes, decimal}
use Rattle.std.specs.List.{flat_map}

-- the texts f 0, f 1 and so on below k, one after another
abbrev pub up_to : ℕ → (ℕ → List ℕ) → List ℕ
up_to zero f = []
up_to (suc k) f = up_to k f ++ f k

-- a word, and then numbers behind a blank each
abbrev pub numbers_line : List ℕ → List ℕ → List ℕ
numbers_line word ns = word ++ (flat_map (λ n. codes " " ++ decimal n) ns ++ codes "\n")

-- `pairing R0 R1 ..`: the right blocks of left blocks 0, 1 and so on
abbrev pub pairing_line : List ℕ → List ℕ
pairing_line = numbers_line (codes "pairing")
