-- How lines are spelled: byte for byte with more bytes behind them, how long they are, and by which
-- letter they begin.
-- Idea: a line is its words and the bytes between them, one put behind the other; so it is enough
-- to move parentheses, and to add lengths up.
use Rattle.std.proofs.Common.{◌≡◌, ℕ, ◌+◌, List, ◌∷◌, ◌++◌, length, slice_index, codes}
use Rattle.std.proofs.Common.{ap, append_assoc, arith}
use Rattle.std.proofs.lemmas.List.{length-append}
use Rattle.dimacs.specs.Statements.{Statement, nothing, problem, node, arc, Spells}
use Rattle.dimacs.specs.Statements.{comment_line, problem_line, node_line, arc_line}

-- ---- Lines and more bytes behind them, word by word

pub comment_split : (behind more : List ℕ)
    → comment_line behind ++ more ≡ 99 ∷ (behind ++ 10 ∷ more)
comment_split behind more = simp append_assoc

pub problem_split : (v w more : List ℕ) → problem_line v w ++ more
    ≡ 112 ∷ 32 ∷ 97 ∷ 115 ∷ 110 ∷ 32 ∷ (v ++ 32 ∷ (w ++ 10 ∷ more))
problem_split v w more = simp append_assoc

pub node_split : (v more : List ℕ) → node_line v ++ more ≡ 110 ∷ 32 ∷ (v ++ 10 ∷ more)
node_split v more = simp append_assoc

pub arc_split : (u v w more : List ℕ) → arc_line u v w ++ more
    ≡ 97 ∷ 32 ∷ (u ++ 32 ∷ (v ++ 32 ∷ (w ++ 10 ∷ more)))
arc_split u v w more = simp append_assoc

-- ---- How long lines are

pub comment_length : (v : List ℕ) → length (comment_line v) ≡ 2 + length v
comment_length v = omega (arith, length-append v (codes "\n"))

pub node_length : (v : List ℕ) → length (node_line v) ≡ 3 + length v
node_length v = omega (arith, length-append v (codes "\n"))

pub problem_length : (v w : List ℕ) → length (problem_line v w) ≡ 8 + length v + length w
problem_length v w =
    omega (
      arith,
      length-append v (codes " " ++ (w ++ codes "\n")),
      length-append w (codes "\n"),
    )

pub arc_length : (u v w : List ℕ) → length (arc_line u v w) ≡ 5 + length u + length v + length w
arc_length u v w =
    omega (
      arith,
      length-append u (codes " " ++ (v ++ (codes " " ++ (w ++ codes "\n")))),
      length-append v (codes " " ++ (w ++ codes "\n")),
      length-append w (codes "\n"),
    )

-- ---- The letter of a line

unfoldable pub letter : Statement → ℕ
letter nothing = 99
letter (problem n m) = 112
letter (node i) = 110
letter (arc i j z) = 97

pub starts : (s : Statement) (line more : List ℕ) → Spells s line
    → slice_index (line ++ more) 0 ≡ letter s
unfolding letter
starts nothing line more h = ap (λ l. slice_index (l ++ more) 0) h.2
starts (problem n m) line more h = ap (λ l. slice_index (l ++ more) 0) h.4
starts (node i) line more h = ap (λ l. slice_index (l ++ more) 0) h.2
starts (arc i j z) line more h = ap (λ l. slice_index (l ++ more) 0) h.6
