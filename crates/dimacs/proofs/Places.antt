-- Where the words of a line stand in a text.
-- Idea: a word stands behind the front of its line, and the line behind what was passed before: so
-- dropping as many bytes as both have leaves the word and what is behind it.
use Rattle.std.proofs.Common.{◌≡◌, ℕ, ◌+◌, List, ◌∷◌, ◌++◌, length, take, drop, codes}
use Rattle.std.proofs.Common.{refl, sym, ap, ◌∙◌, append_assoc, arith}
use Rattle.std.proofs.lemmas.List.{drop-drop, drop_at, take_at, length-append}
use Rattle.dimacs.specs.declared.line.Line.{Line}
use Rattle.dimacs.specs.declared.line.Line.TheVariants.{Comment, Problem, Node, Arc}
use Rattle.dimacs.specs.Lines.{IsWordAt, AreWordsAt, IsRead, bytes_of}
use Rattle.dimacs.specs.Reading.{BeginsLine, ArePlaced}
use Rattle.dimacs.proofs.Spelling.{comment_split, problem_split, node_split, arc_split}

module _ (text : List ℕ) (at : ℕ) where
  word_at : (front word behind : List ℕ) (start place : ℕ)
      → drop at text ≡ front ++ (word ++ behind) → start ≡ at + length front → place ≡ start
      → IsWordAt text start word place
  word_at front word behind start place e far placed =
      let rest : drop start text ≡ word ++ behind =
      ap (λ k. drop k text) far ∙ sym (drop-drop (length front) at text)
      ∙ ap (drop (length front)) e ∙ drop_at front (word ++ behind) (length front) refl in
      record {
        place_is = placed;
        part = sym (ap (take (length word)) rest ∙ take_at word behind (length word) refl);
      }

  words_at : (line : Line) (more : List ℕ) → drop at text ≡ bytes_of line ++ more
      → ArePlaced at line → AreWordsAt text at line
  words_at (Comment behind) more e placed =
      word_at (codes "c") behind.now (10 ∷ more) (at + 1) (at + 1)
      (e ∙ comment_split behind.now more) refl refl
  words_at (Node number) more e placed =
      word_at (codes "n ") number.text.now (10 ∷ more) (at + 2) number.place
      (e ∙ node_split number.text.now more) refl placed
  words_at (Problem nodes arcs) more e placed =
      let v = nodes.text.now in let w = arcs.text.now in
      let split = e ∙ problem_split v w more in
      let front = codes "p asn " ++ (v ++ codes " ") in (
        word_at (codes "p asn ") v (32 ∷ (w ++ 10 ∷ more)) (at + 6) nodes.place split refl placed.0,
        word_at front w (10 ∷ more) (nodes.place + length v + 1) arcs.place
            (split ∙ sym (simp append_assoc))
            (omega (arith, placed.0, length-append v (codes " "))) placed.1,
      )
  words_at (Arc left right cost) more e placed =
      let u = left.text.now in let v = right.text.now in let w = cost.text.now in
      let split = e ∙ arc_split u v w more in
      let second = codes "a " ++ (u ++ codes " ") in
      let third = codes "a " ++ (u ++ (codes " " ++ (v ++ codes " "))) in (
        word_at (codes "a ") u (32 ∷ (v ++ 32 ∷ (w ++ 10 ∷ more))) (at + 2) left.place split refl
            placed.0,
        word_at second v (32 ∷ (w ++ 10 ∷ more)) (left.place + length u + 1) right.place
            (split ∙ sym (simp append_assoc))
            (omega (arith, placed.0, length-append u (codes " "))) placed.1,
        word_at third w (10 ∷ more) (right.place + length v + 1) cost.place
            (split ∙ sym (simp append_assoc))
            (omega (
              arith,
              placed.0,
              placed.1,
              length-append u (codes " " ++ (v ++ codes " ")),
              length-append v (codes " "),
            )) placed.2,
      )

-- a line that begins the rest of a text is read there
pub read_there : (text part : List ℕ) (at : ℕ) (line : Line) (end : ℕ) → part ≡ drop at text
    → BeginsLine part at line end → IsRead text at line end
read_there text part at line end e h =
    let split : drop at text ≡ bytes_of line ++ h.more = sym e ∙ h.splits in
    let behind : drop end text ≡ h.more =
    ap (λ k. drop k text) h.moves ∙ sym (drop-drop (length (bytes_of line)) at text)
    ∙ ap (drop (length (bytes_of line))) split
    ∙ drop_at (bytes_of line) h.more (length (bytes_of line)) refl in
    record {
      statement = h.statement;
      states = h.states;
      words = words_at text at line h.more split h.placed;
      splits = split ∙ ap (λ l. bytes_of line ++ l) (sym behind);
      moves = h.moves;
    }
