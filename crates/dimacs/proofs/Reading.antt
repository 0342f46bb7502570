-- Reading a line on behind its letter, word by word.
-- Idea: a line of this letter that begins the bytes has its first word where the reader looks for
-- it. If the reader finds none, there is no such line; if it finds one, the line has that very word
-- there, since no other can be in front of the same bytes, and its next word is the next to seek.
use Rattle.std.proofs.Common.{◌≡◌, ◌≢◌, ℕ, ◌+◌, ◌<◌, List, ◌∷◌, ◌++◌, length, get_or, take, drop}
use Rattle.std.proofs.Common.{Some, None, Bor, ℤ, codes, sym, ap, ◌∙◌, subst, arith}
use Rattle.std.proofs.lemmas.List.{drop_more, take-append-drop, length-take-le}
use Rattle.std.specs.List.{All}
use Rattle.dimacs.specs.declared.line.Line.TheVariants.{Comment, Problem, Node, Arc}
use Rattle.dimacs.specs.declared.word.Number.{Number}
use Rattle.dimacs.specs.declared.word.Cost.{Cost}
use Rattle.dimacs.specs.declared.words.Words.{Words}
use Rattle.dimacs.specs.Words.{IsNumber, IsCost}
use Rattle.dimacs.specs.Statements.{nothing, problem, node, arc}
use Rattle.dimacs.specs.Statements.{comment_line}
use Rattle.dimacs.specs.Lines.{BeginsNoLine}
use Rattle.dimacs.specs.Reading.{BeginsLine}
use Rattle.dimacs.specs.Taking.{rest_of, TakesNumber, TakesCost}
use Rattle.dimacs.proofs.Fronts.{word_told, number_free, blank}
use Rattle.dimacs.proofs.Spelling.{comment_split, problem_split, node_split, arc_split}
use Rattle.dimacs.proofs.Spelling.{comment_length, problem_length, node_length, arc_length}
use Rattle.dimacs.proofs.Spelling.{letter, starts}

-- ---- Comments

module _ (bytes : List ℕ) (behind : Bor (List ℕ)) (n at place : ℕ) (places : place ≡ at + 1)
    (part : behind.now ≡ take n bytes) (within : n < length bytes)
    (free : All (λ byte. byte ≢ 10) (take n bytes)) (ends : get_or bytes n 0 ≡ 10) where
  part_read : BeginsLine (codes "c" ++ bytes) at (Comment behind) (place + n + 1)
  part_read =
      let far : length (take n bytes) ≡ n = length-take-le n bytes (omega arith) in
      let more : List ℕ = drop (n + 1) bytes in
      record {
        statement = nothing;
        states = rw part free;
        placed = tt;
        more = more;
        splits = ap (λ l. 99 ∷ l) (sym (take-append-drop n bytes)
            ∙ ap (λ l. take n bytes ++ l) (drop_more bytes n 0 within
            ∙ ap (λ c. c ∷ more) ends))
            ∙ sym (comment_split (take n bytes) more)
            ∙ ap (λ l. comment_line l ++ more) (sym part);
        moves = omega (arith, comment_length behind.now, ap length part);
      }

  pub comment_read : (rest : List ℕ) → bytes ≡ rest
      → BeginsLine (codes "c" ++ rest) at (Comment behind) (place + n + 1)
  comment_read rest e =
      subst (λ l. BeginsLine (codes "c" ++ l) at (Comment behind) (place + n + 1)) e part_read

-- ---- One number

-- the bytes behind a number at the front are those behind the number that was taken there
behind_number : (before mid : Words) (number : Number) → TakesNumber 32 before (Some number) mid
    → (u rest : List ℕ) (i : ℕ) → IsNumber u i → rest_of before ≡ u ++ 32 ∷ rest
    → rest_of mid ≡ rest
behind_number before mid number taken u rest i hu e =
    let told = word_told 32 number.text.now u (rest_of mid) rest
    (number_free 32 number.text.now taken.0 blank taken.1.writes) (number_free 32 u i blank hu)
    (sym taken.2.splits ∙ e) in
    told.1

-- ---- Lines of two numbers

-- a line of the letter has its words behind the front
problem_none : (rest : List ℕ)
    → ((v w more : List ℕ) (n m : ℕ) → IsNumber v n → IsNumber w m
    → rest ≡ v ++ 32 ∷ (w ++ 10 ∷ more) → ⊥)
    → BeginsNoLine (codes "p asn " ++ rest)
unfolding letter
problem_none rest none (problem n m) line more h =
    let words = h.spells in
    let same = h.splits ∙ ap (λ l. l ++ more) words.4 ∙ problem_split words.0 words.1 more in
    none words.0 words.1 more n m words.2 words.3 (cc)
problem_none rest none s line more h =
    let same = starts s line more h.spells in
    let first = ap (λ l. get_or l 0 0) h.splits in
    absurd (omega arith)

module _ (before mid after : Words) (nodes : Number)
    (first : TakesNumber 32 before (Some nodes) mid) where
  pub problem_no_arcs : TakesNumber 10 mid None after
      → BeginsNoLine (codes "p asn " ++ rest_of before)
  problem_no_arcs none = problem_none (rest_of before) (λ v w more n m hv hw e.
      none w more m hw (behind_number before mid nodes first v (w ++ 10 ∷ more) n hv e))

  pub problem_read : (arcs : Number) → TakesNumber 10 mid (Some arcs) after → (at : ℕ)
      → before.at ≡ at + 6
      → BeginsLine (codes "p asn " ++ rest_of before) at (Problem nodes arcs) after.at
  problem_read arcs second at e =
      let v = nodes.text.now in let w = arcs.text.now in
      let p = first.2 in let q = second.2 in
      record {
        statement = problem first.0 second.0;
        states = (first.1, second.1);
        placed = (omega (arith, p.place_is), omega (arith, p.place_is, p.moves, q.place_is));
        more = rest_of after;
        splits = ap (λ l. codes "p asn " ++ l) (p.splits ∙ ap (λ l. v ++ 32 ∷ l) q.splits)
            ∙ sym (problem_split v w (rest_of after));
        moves = omega (arith, p.moves, q.moves, problem_length v w);
      }

-- ---- Lines of one number

module _ (before after : Words) (number : Number)
    (first : TakesNumber 10 before (Some number) after) where
  pub node_read : (at : ℕ) → before.at ≡ at + 2
      → BeginsLine (codes "n " ++ rest_of before) at (Node number) after.at
  node_read at e =
      let v = number.text.now in
      let p = first.2 in
      record {
        statement = node first.0;
        states = first.1;
        placed = omega (arith, p.place_is);
        more = rest_of after;
        splits = ap (λ l. codes "n " ++ l) p.splits ∙ sym (node_split v (rest_of after));
        moves = omega (arith, p.moves, node_length v);
      }

-- ---- Lines of two numbers and a cost

arc_none : (rest : List ℕ)
    → ((u v w more : List ℕ) (i j : ℕ) (z : ℤ) → IsNumber u i → IsNumber v j → IsCost w z
    → rest ≡ u ++ 32 ∷ (v ++ 32 ∷ (w ++ 10 ∷ more)) → ⊥)
    → BeginsNoLine (codes "a " ++ rest)
unfolding letter
arc_none rest none (arc i j z) line more h =
    let words = h.spells in
    let same = h.splits ∙ ap (λ l. l ++ more) words.6
    ∙ arc_split words.0 words.1 words.2 more in
    none words.0 words.1 words.2 more i j z words.3 words.4 words.5 (cc)
arc_none rest none s line more h =
    let same = starts s line more h.spells in
    let first = ap (λ l. get_or l 0 0) h.splits in
    absurd (omega arith)

module _ (before mid : Words) (left : Number)
    (first : TakesNumber 32 before (Some left) mid) where
  pub arc_no_right : (after : Words) → TakesNumber 32 mid None after
      → BeginsNoLine (codes "a " ++ rest_of before)
  arc_no_right after none = arc_none (rest_of before) (λ u v w more i j z hu hv hw e.
      none v (w ++ 10 ∷ more) j hv
      (behind_number before mid left first u (v ++ 32 ∷ (w ++ 10 ∷ more)) i hu e))

  module _ (end : Words) (right : Number) (second : TakesNumber 32 mid (Some right) end) where
    pub arc_no_cost : (after : Words) → TakesCost 10 end None after
        → BeginsNoLine (codes "a " ++ rest_of before)
    arc_no_cost after none = arc_none (rest_of before) (λ u v w more i j z hu hv hw e.
        let next = behind_number before mid left first u (v ++ 32 ∷ (w ++ 10 ∷ more)) i hu e in
        none w more z hw (behind_number mid end right second v (w ++ 10 ∷ more) j hv next))

    pub arc_read : (cost : Cost) (after : Words) → TakesCost 10 end (Some cost) after → (at : ℕ)
        → before.at ≡ at + 2
        → BeginsLine (codes "a " ++ rest_of before) at (Arc left right cost) after.at
    arc_read cost after third at e =
        let u = left.text.now in let v = right.text.now in let w = cost.text.now in
        let p = first.2 in let q = second.2 in let r = third.2 in
        record {
          statement = arc first.0 second.0 third.0;
          states = (first.1, second.1, third.1);
          placed = (
            omega (arith, p.place_is),
            omega (arith, p.place_is, p.moves, q.place_is),
            omega (arith, q.place_is, q.moves, r.place_is),
          );
          more = rest_of after;
          splits = ap (λ l. codes "a " ++ l) (p.splits ∙ ap (λ l. u ++ 32 ∷ l) (q.splits
              ∙ ap (λ l. v ++ 32 ∷ l) r.splits)) ∙ sym (arc_split u v w (rest_of after));
          moves = omega (arith, p.moves, q.moves, r.moves, arc_length u v w);
        }
