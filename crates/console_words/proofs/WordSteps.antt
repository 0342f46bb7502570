-- What one step of std's split by white space does to the words of a text.
-- Idea: the characters of the gap are white, so they add no word; those of the word are not, so
-- each of them goes to the word that was begun; and it ends there, since a white one follows.
use Rattle.std.proofs.Common.{◌≡◌, ℕ, ◌<◌, Bool, true, false, not, List, [], ◌∷◌, ◌++◌, length}
use Rattle.std.proofs.Common.{refl, ap, sym, ◌∙◌, subst, append_assoc, append-nil, arith}
use Rattle.std.proofs.Common.{Option, None, Some, drop, Bor}
use Rattle.std.specs.declared.str.SplitWhitespace.{SplitWhitespace}
use Rattle.std.specs.Str.Iter.{split_whitespace_rest, split_whitespace_steps}
use Rattle.std.specs.Prelude.{encode_utf8, encode_utf8_all}
use Rattle.std.specs.Char.{is_whitespace, is_not_whitespace}
use Rattle.std.specs.Str.{chars, IsUtf8, NonePass, NoCharPasses, EmptyOrStartsWithPassing}
use Rattle.std.proofs.lemmas.Bool.{cond-true, cond-false}
use Rattle.std.proofs.lemmas.Str.{chars-nil, chars_past_char, IsUtf8-past_char, IsUtf8-had}
use Rattle.console_words.specs.Words.{begun_word, words_among, words_of}

not_false : (b : Bool) → not b ≡ false → b ≡ true
not_false true e = refl
not_false false e = sym e

-- white characters add no word
over_white : (gap bytes rest : List ℕ) → IsUtf8 bytes → bytes ≡ encode_utf8_all gap ++ rest
    → NonePass is_not_whitespace gap
    → (words_among [] (chars bytes) ≡ words_among [] (chars rest)) × IsUtf8 rest
over_white [] bytes rest text e none = (ap (λ b. words_among [] (chars b)) e, subst IsUtf8 e text)
over_white (c ∷ gap) bytes rest text e none =
    let mid = encode_utf8_all gap ++ rest in
    let more : bytes ≡ encode_utf8 c ++ mid =
    e ∙ append_assoc (encode_utf8 c) (encode_utf8_all gap) rest in
    let on = over_white gap mid rest (IsUtf8-past_char bytes mid c text more) refl none.1 in (
      ap (words_among []) (chars_past_char bytes mid c text more)
          ∙ cond-true (is_whitespace c) (words_among [] (chars mid))
          (words_among (encode_utf8 c) (chars mid)) (not_false (is_whitespace c) none.0)
          ∙ on.0,
      on.1,
    )

-- others go to the word that was begun
over_word : (word begun bytes rest : List ℕ) → IsUtf8 bytes → bytes ≡ encode_utf8_all word ++ rest
    → NonePass is_whitespace word
    → (words_among begun (chars bytes) ≡ words_among (begun ++ encode_utf8_all word) (chars rest))
    × IsUtf8 rest
over_word [] begun bytes rest text e none = (
  ap (λ b. words_among begun (chars b)) e
      ∙ ap (λ w. words_among w (chars rest)) (sym (append-nil begun)),
  subst IsUtf8 e text,
)
over_word (c ∷ word) begun bytes rest text e none =
    let mid = encode_utf8_all word ++ rest in
    let more : bytes ≡ encode_utf8 c ++ mid =
    e ∙ append_assoc (encode_utf8 c) (encode_utf8_all word) rest in
    let on = over_word word (begun ++ encode_utf8 c) mid rest
    (IsUtf8-past_char bytes mid c text more) refl none.1 in (
      ap (words_among begun) (chars_past_char bytes mid c text more)
          ∙ cond-false (is_whitespace c) (begun_word begun ++ words_among [] (chars mid))
          (words_among (begun ++ encode_utf8 c) (chars mid)) none.0
          ∙ on.0
          ∙ ap (λ w. words_among w (chars rest))
          (append_assoc begun (encode_utf8 c) (encode_utf8_all word)),
      on.1,
    )

-- a word that was begun ends before white space and at the end
word_ends : (b : ℕ) (begun rest more : List ℕ) → IsUtf8 rest
    → EmptyOrStartsWithPassing is_whitespace rest more
    → words_among (b ∷ begun) (chars rest) ≡ (b ∷ begun) ∷ words_among [] (chars rest)
word_ends b begun [] more text starts = ap (words_among (b ∷ begun)) chars-nil
    ∙ ap (λ cs. (b ∷ begun) ∷ words_among [] cs) (sym chars-nil)
word_ends b begun (r ∷ rest) more text starts =
    let first = starts (omega arith) in
    let split = chars_past_char (r ∷ rest) more first.0 text first.2 in
    let alone = words_among [] (chars more) in
    ap (words_among (b ∷ begun)) split
    ∙ cond-true (is_whitespace first.0) ((b ∷ begun) ∷ alone)
    (words_among ((b ∷ begun) ++ encode_utf8 first.0) (chars more)) first.1
    ∙ ap (λ ws. (b ∷ begun) ∷ ws) (sym (ap (words_among []) split
    ∙ cond-true (is_whitespace first.0) alone
    (words_among (encode_utf8 first.0) (chars more)) first.1))

-- a step that gives a word takes it from the words of the text
pub word_of_step : (text word gap rest more : List ℕ) → IsUtf8 text → text ≡ gap ++ (word ++ rest)
    → 0 < length word → NoCharPasses is_not_whitespace gap → NoCharPasses is_whitespace word
    → EmptyOrStartsWithPassing is_whitespace rest more
    → (words_of text ≡ word ∷ words_of rest) × IsUtf8 rest
unfolding words_of
word_of_step text [] gap rest more utf8 e some white solid starts = absurd (omega arith)
word_of_step text (b ∷ word) gap rest more utf8 e some white solid starts =
    let past = over_white white.0 text ((b ∷ word) ++ rest) utf8
    (e ∙ ap (λ g. g ++ ((b ∷ word) ++ rest)) (sym white.1)) white.2 in
    let taken = over_word solid.0 [] ((b ∷ word) ++ rest) rest past.1
    (ap (λ w. w ++ rest) (sym solid.1)) solid.2 in (
      past.0 ∙ taken.0 ∙ ap (λ w. words_among w (chars rest)) solid.1
          ∙ word_ends b word rest more taken.1 starts,
      taken.1,
    )

-- a text of white space has no word
pub no_word : (text : List ℕ) → IsUtf8 text → NoCharPasses is_not_whitespace text
    → words_of text ≡ []
unfolding words_of
no_word text utf8 white =
    (over_white white.0 text [] utf8
    (sym (append-nil (encode_utf8_all white.0) ∙ white.1)) white.2).0
    ∙ ap (words_among []) chars-nil

-- what a step gives, as a reader of words sees it
abbrev pub IsWordStep : SplitWhitespace → Option (Bor (List ℕ)) → SplitWhitespace → Type 0
IsWordStep s None t = (words_of (split_whitespace_rest s) ≡ [])
    × (words_of (split_whitespace_rest t) ≡ [])
IsWordStep s (Some word) t = words_of (split_whitespace_rest s)
    ≡ word.now ∷ words_of (split_whitespace_rest t)

pub word_step : (s : SplitWhitespace) (r : Option (Bor (List ℕ))) (t : SplitWhitespace)
    → ∥ IsUtf8 (split_whitespace_rest s) ∥₁ → split_whitespace_steps s r t
    → IsWordStep s r t × IsUtf8 (split_whitespace_rest t)
word_step s None t had steps =
    let utf8 = IsUtf8-had (split_whitespace_rest s) had in
    let none = no_word (split_whitespace_rest s) utf8 steps.1 in
    let same = ap split_whitespace_rest (sym steps.0) in
    ((none, ap words_of (sym same) ∙ none), subst IsUtf8 same utf8)
word_step s (Some word) t had steps =
    let utf8 = IsUtf8-had (split_whitespace_rest s) had in
    word_of_step (split_whitespace_rest s) word.now steps.0 (split_whitespace_rest t) steps.5.0 utf8
    steps.1 steps.2 steps.3 steps.4 steps.5.1

pub word_step_drops : (s : SplitWhitespace) (r : Option (Bor (List ℕ))) (t : SplitWhitespace)
    → IsWordStep s r t
    → words_of (split_whitespace_rest t) ≡ drop 1 (words_of (split_whitespace_rest s))
word_step_drops s None t is = is.1 ∙ ap (drop 1) (sym is.0)
word_step_drops s (Some word) t is = ap (drop 1) (sym is)
