-- A line that begins some bytes is told by them.
-- Idea: the first byte is the letter of the line, which tells what kind of line it is. Behind it
-- stand words and the bytes that end them, in the same order in both lines; so both have the same
-- first word, then the same second one, and so on, and the same bytes follow the last.
use Rattle.std.proofs.Common.{◌≡◌, ℕ, ◌≤◌, List, ◌∷◌, ◌++◌, ℤ, length, slice_index}
use Rattle.std.proofs.Common.{refl, sym, ap, ◌∙◌, arith}
use Rattle.dimacs.specs.Statements.{Statement, nothing, problem, node, arc, Spells, Begins}
use Rattle.dimacs.specs.Statements.{comment_line, problem_line, node_line, arc_line, LinesAreTold}
use Rattle.dimacs.proofs.Fronts.{word_told, number_free, cost_free, number_told}
use Rattle.dimacs.proofs.Fronts.{cost_told, blank, newline}
use Rattle.dimacs.proofs.Spelling.{comment_split, problem_split, node_split, arc_split}
use Rattle.dimacs.proofs.Spelling.{letter, starts}

-- a line has a letter at least
pub line_nonempty : (s : Statement) (line : List ℕ) → Spells s line → 1 ≤ length line
line_nonempty nothing line h = rw h.2 (omega arith)
line_nonempty (problem n m) line h = rw h.4 (omega arith)
line_nonempty (node i) line h = rw h.2 (omega arith)
line_nonempty (arc i j z) line h = rw h.6 (omega arith)

-- two lines that begin the same bytes have the same letter
same_letter : (bytes : List ℕ) (s t : Statement) (line more line' more' : List ℕ)
    → Begins bytes s line more → Begins bytes t line' more' → letter s ≡ letter t
same_letter bytes s t line more line' more' h k =
    sym (starts s line more h.spells)
    ∙ ap (λ l. slice_index l 0) (sym h.splits ∙ k.splits) ∙ starts t line' more' k.spells

-- ---- Two lines of one letter

module _ (bytes line more line' more' : List ℕ) (h : bytes ≡ line ++ more)
    (k : bytes ≡ line' ++ more') where
  -- what the bytes are, as the one line begins them, they are as the other does
  both_split : (form form' rest rest' : List ℕ) → line ≡ form → line' ≡ form'
      → form ++ more ≡ rest → form' ++ more' ≡ rest' → rest ≡ rest'
  both_split form form' rest rest' e e' split split' =
      sym (h ∙ ap (λ l. l ++ more) e ∙ split) ∙ k ∙ ap (λ l. l ++ more') e' ∙ split'

  comments_told : Spells nothing line → Spells nothing line' → (line ≡ line') × (more ≡ more')
  comments_told a b =
      let same : 99 ∷ (a.0 ++ 10 ∷ more) ≡ 99 ∷ (b.0 ++ 10 ∷ more') =
      both_split _ _ _ _ a.2 b.2 (comment_split a.0 more) (comment_split b.0 more') in
      let first = word_told 10 a.0 b.0 more more' a.1 b.1 cc in
      (a.2 ∙ ap comment_line first.0 ∙ sym b.2, first.1)

  problems_told : (n m n' m' : ℕ) → Spells (problem n m) line → Spells (problem n' m') line'
      → (problem n m ≡ problem n' m') × (line ≡ line') × (more ≡ more')
  problems_told n m n' m' a b =
      let v = a.0 in let w = a.1 in let v' = b.0 in let w' = b.1 in
      let same = both_split _ _ _ _ a.4 b.4 (problem_split v w more) (problem_split v' w' more') in
      let first = word_told 32 v v' (w ++ 10 ∷ more) (w' ++ 10 ∷ more')
      (number_free 32 v n blank a.2) (number_free 32 v' n' blank b.2) cc in
      let second = word_told 10 w w' more more' (number_free 10 w m newline a.3)
      (number_free 10 w' m' newline b.3) first.1 in
      let en : n ≡ n' = number_told v v' n n' a.2 b.2 first.0 in
      let em : m ≡ m' = number_told w w' m m' a.3 b.3 second.0 in
      let ev : v ≡ v' = first.0 in
      let ew : w ≡ w' = second.0 in
      (cc, a.4 ∙ ap (λ u. problem_line u w) ev ∙ ap (problem_line v') ew ∙ sym b.4, second.1)

  nodes_told : (i i' : ℕ) → Spells (node i) line → Spells (node i') line'
      → (node i ≡ node i') × (line ≡ line') × (more ≡ more')
  nodes_told i i' a b =
      let v = a.0 in let v' = b.0 in
      let same = both_split _ _ _ _ a.2 b.2 (node_split v more) (node_split v' more') in
      let first = word_told 10 v v' more more' (number_free 10 v i newline a.1)
      (number_free 10 v' i' newline b.1) cc in (
        ap node (number_told v v' i i' a.1 b.1 first.0),
        a.2 ∙ ap node_line first.0 ∙ sym b.2,
        first.1,
      )

  arcs_told : (i j i' j' : ℕ) (z z' : ℤ) → Spells (arc i j z) line → Spells (arc i' j' z') line'
      → (arc i j z ≡ arc i' j' z') × (line ≡ line') × (more ≡ more')
  arcs_told i j i' j' z z' a b =
      let u = a.0 in let v = a.1 in let w = a.2 in
      let u' = b.0 in let v' = b.1 in let w' = b.2 in
      let same = both_split _ _ _ _ a.6 b.6 (arc_split u v w more) (arc_split u' v' w' more') in
      let first = word_told 32 u u' (v ++ 32 ∷ (w ++ 10 ∷ more)) (v' ++ 32 ∷ (w' ++ 10 ∷ more'))
      (number_free 32 u i blank a.3) (number_free 32 u' i' blank b.3) cc in
      let second = word_told 32 v v' (w ++ 10 ∷ more) (w' ++ 10 ∷ more')
      (number_free 32 v j blank a.4) (number_free 32 v' j' blank b.4) first.1 in
      let third = word_told 10 w w' more more' (cost_free 10 w z newline a.5)
      (cost_free 10 w' z' newline b.5) second.1 in
      let ei : i ≡ i' = number_told u u' i i' a.3 b.3 first.0 in
      let ej : j ≡ j' = number_told v v' j j' a.4 b.4 second.0 in
      let ez : z ≡ z' = cost_told w w' z z' a.5 b.5 third.0 in (
        ap (λ k. arc k j z) ei ∙ ap (λ k. arc i' k z) ej ∙ ap (arc i' j') ez,
        a.6 ∙ ap (λ x. arc_line x v w) first.0 ∙ ap (λ x. arc_line u' x w) second.0
            ∙ ap (arc_line u' v') third.0 ∙ sym b.6,
        third.1,
      )

told : (bytes : List ℕ) (s t : Statement) (line more line' more' : List ℕ)
    → letter s ≡ letter t → Begins bytes s line more → Begins bytes t line' more'
    → (s ≡ t) × (line ≡ line') × (more ≡ more')
unfolding letter
told bytes nothing nothing line more line' more' e h k =
    let same = comments_told bytes line more line' more' h.splits k.splits h.spells k.spells in
    (refl, same.0, same.1)
told bytes (problem n m) (problem n' m') line more line' more' e h k =
    problems_told bytes line more line' more' h.splits k.splits n m n' m' h.spells k.spells
told bytes (node i) (node i') line more line' more' e h k =
    nodes_told bytes line more line' more' h.splits k.splits i i' h.spells k.spells
told bytes (arc i j z) (arc i' j' z') line more line' more' e h k =
    arcs_told bytes line more line' more' h.splits k.splits i j i' j' z z' h.spells k.spells
told bytes s t line more line' more' e h k = absurd (omega arith)

pub lines_told : LinesAreTold
lines_told bytes s t line more line' more' h k =
    told bytes s t line more line' more' (same_letter bytes s t line more line' more' h k) h k
