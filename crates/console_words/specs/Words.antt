-- The words of a text, and those that are left of a line.
use Rattle.std.specs.Prelude.{◌≡◌, ℕ, List, [], ◌∷◌, ◌++◌, if◌then◌else◌, encode_utf8, slice_index}
use Rattle.std.specs.Char.{is_whitespace}
use Rattle.std.specs.Str.{chars}
use Rattle.std.specs.Str.Iter.{split_whitespace_rest}
use Rattle.console_words.specs.declared.words.Words.{Words}

-- the word of these bytes, if there are any
abbrev pub begun_word : List ℕ → List (List ℕ)
begun_word [] = []
begun_word (byte ∷ bytes) = (byte ∷ bytes) ∷ []

-- the words among characters, where the first has begun with these bytes
abbrev pub words_among : List ℕ → List ℕ → List (List ℕ)
words_among begun [] = begun_word begun
words_among begun (c ∷ cs) = (if is_whitespace c then begun_word begun ++ words_among [] cs
    else words_among (begun ++ encode_utf8 c) cs)

-- the words of a text: what stands between white space, which is all that Unicode calls so: the
-- characters 9 to 13, 32, 133, 160, 5760, 8192 to 8202, 8232, 8233, 8239, 8287 and 12288
unfoldable pub words_of : List ℕ → List (List ℕ)
words_of text = words_among [] (chars text)

-- a line of these words is passed over: there are none, or the first one begins with `#`
abbrev pub IsSkipped : List (List ℕ) → Type 0
IsSkipped [] = Unit {0}
IsSkipped (word ∷ words) = slice_index word 0 ≡ 35

-- the words of a line that were not taken yet, and the form that it should have
abbrev pub words_left : Words → List (List ℕ)
words_left words = words_of (split_whitespace_rest words.rest)

abbrev pub form_of : Words → List ℕ
form_of words = words.form.now
