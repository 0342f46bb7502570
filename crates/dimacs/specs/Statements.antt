-- What the lines of an assignment text state, and how each is spelled.
use Rattle.std.specs.Prelude.{◌≡◌, ◌≢◌, ℕ, List, [], ◌∷◌, ◌++◌, ℤ, codes}
use Rattle.std.specs.List.{All}
use Rattle.dimacs.specs.Words.{IsNumber, IsCost}

-- what a line states: nothing; how many nodes and arcs there are; a left node; an arc at a cost
pub data Statement : Type 0 where
  nothing : Statement
  problem : (nodes arcs : ℕ) → Statement
  node : ℕ → Statement
  arc : (from to : ℕ) → ℤ → Statement

-- words parted by one blank, and a newline behind the last
abbrev pub words_in_line : List ℕ → List (List ℕ) → List ℕ
words_in_line word [] = word ++ codes "\n"
words_in_line word (next ∷ words) = word ++ (codes " " ++ words_in_line next words)

-- the bytes of each form of a line, its newline with them
abbrev pub comment_line : List ℕ → List ℕ
comment_line behind = codes "c" ++ (behind ++ codes "\n")

abbrev pub problem_line : (nodes arcs : List ℕ) → List ℕ
problem_line nodes arcs = words_in_line (codes "p") (codes "asn" ∷ nodes ∷ arcs ∷ [])

abbrev pub node_line : List ℕ → List ℕ
node_line number = words_in_line (codes "n") (number ∷ [])

abbrev pub arc_line : (from to cost : List ℕ) → List ℕ
arc_line from to cost = words_in_line (codes "a") (from ∷ to ∷ cost ∷ [])

-- the bytes are a line that states this
abbrev pub Spells : Statement → List ℕ → Type 0
Spells nothing bytes = (behind : List ℕ) × All (λ byte. byte ≢ 10) behind
    × (bytes ≡ comment_line behind)
Spells (problem nodes arcs) bytes = (v w : List ℕ) × IsNumber v nodes × IsNumber w arcs
    × (bytes ≡ problem_line v w)
Spells (node i) bytes = (v : List ℕ) × IsNumber v i × (bytes ≡ node_line v)
Spells (arc i j cost) bytes = (u v w : List ℕ) × IsNumber u i × IsNumber v j × IsCost w cost
    × (bytes ≡ arc_line u v w)

-- a line that states this begins the bytes, and more follow it
pub record Begins (bytes : List ℕ) (statement : Statement) (line more : List ℕ) : Type 0 where
  pub spells : Spells statement line
  pub splits : bytes ≡ line ++ more

-- a line that begins some bytes is told by them
abbrev pub LinesAreTold : Type 0
LinesAreTold = (bytes : List ℕ) (s t : Statement) (line more line' more' : List ℕ)
    → Begins bytes s line more → Begins bytes t line' more'
    → (s ≡ t) × (line ≡ line') × (more ≡ more')
