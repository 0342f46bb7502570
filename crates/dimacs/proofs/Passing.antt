-- The front of a line, once it was passed byte by byte, and a word, once it was passed whole.
-- Idea: bytes whose first ones are known are these and the rest, so what was read behind the front
-- was read of all. What is looked up behind the end of bytes is 0, and so is no byte of a front.
use Rattle.std.proofs.Common.{◌≡◌, ℕ, ◌+◌, ◌-◌, ◌<◌, List, Option, [], ◌∷◌, ◌++◌, length, get_or}
use Rattle.std.proofs.Common.{take, drop, refl, sym, ap, ◌∙◌, subst, arith}
use Rattle.std.proofs.lemmas.List.{drop-drop, take_at}
use Rattle.dimacs.specs.declared.line_reader.Read.{Read}
use Rattle.dimacs.specs.declared.words.Words.{Words}
use Rattle.dimacs.specs.Reading.{ReadsLine, ReadsBehind}
use Rattle.dimacs.specs.Taking.{rest_of, Passes, PassesTo}

pub one_byte : (bytes : List ℕ) (a : ℕ) → 0 < a → get_or bytes 0 0 ≡ a → bytes ≡ a ∷ drop 1 bytes
one_byte (x ∷ bytes) a some e = ap (λ y. y ∷ bytes) e
one_byte [] a some e = absurd (omega arith)

pub two_bytes : (bytes : List ℕ) (a b : ℕ) → 0 < b → get_or bytes 0 0 ≡ a → get_or bytes 1 0 ≡ b
    → bytes ≡ a ∷ b ∷ drop 2 bytes
two_bytes (x ∷ bytes) a b some e f =
    ap (λ l. x ∷ l) (one_byte bytes b some f) ∙ ap (λ y. y ∷ b ∷ drop 1 bytes) e
two_bytes [] a b some e f = absurd (omega arith)

pub six_bytes : (bytes : List ℕ) (a b c d e f : ℕ) → 0 < f → get_or bytes 0 0 ≡ a
    → get_or bytes 1 0 ≡ b → get_or bytes 2 0 ≡ c → get_or bytes 3 0 ≡ d → get_or bytes 4 0 ≡ e
    → get_or bytes 5 0 ≡ f → bytes ≡ a ∷ b ∷ c ∷ d ∷ e ∷ f ∷ drop 6 bytes
six_bytes (u ∷ v ∷ w ∷ x ∷ bytes) a b c d e f some p q r s y z =
    let last = two_bytes bytes e f some y z in cc
six_bytes bytes a b c d e f some p q r s y z = absurd (omega arith)

-- what was read behind the front of the bytes from an offset of a text on was read of them
pub read_behind : (front bytes text rest : List ℕ) (at place : ℕ) (read : Option Read)
    → bytes ≡ drop at text → bytes ≡ front ++ drop (length front) bytes
    → place ≡ at + length front → rest ≡ drop (at + length front) text
    → ReadsBehind front rest place read → ReadsLine bytes at read
read_behind front bytes text rest at place read part e far is_rest h =
    let behind : drop (length front) bytes ≡ drop (at + length front) text =
    ap (drop (length front)) part ∙ drop-drop (length front) at text in
    subst (λ l. ReadsLine l at read)
    (ap (λ l. front ++ l) (is_rest ∙ sym behind) ∙ sym e) (h at far)

-- a word that ends where a byte stands that was passed too
pub word_passed : (before after : Words) (to end : ℕ) (part word : List ℕ)
    → PassesTo before to part after → to ≡ before.at + length word
    → rest_of before ≡ word ++ end ∷ drop (to + 1) before.text.now
    → (part ≡ word) × Passes end before after part before.at
word_passed before after to end part word passed far split =
    let behind : rest_of after ≡ drop (to + 1) before.text.now =
    ap (λ k. drop k after.text.now) passed.moves ∙ ap (drop (to + 1)) passed.same_text in
    let same : part ≡ word =
    passed.word_is ∙ ap (take (to - before.at)) split
    ∙ take_at word (end ∷ drop (to + 1) before.text.now) (to - before.at) (omega arith) in (
      same,
      record {
        place_is = refl;
        splits = split ∙ ap (λ l. l ++ end ∷ drop (to + 1) before.text.now) (sym same)
            ∙ ap (λ l. part ++ end ∷ l) (sym behind);
        moves = omega (arith, passed.moves, ap length same);
      },
    )
