-- The digits at the front of some bytes, and the numbers that may stand there.
-- Idea: a number at the front that a blank or a newline ends is made of all the digits that stand
-- there: what ends it is no digit, and no byte of it is anything else. So where something else
-- comes behind the digits, or nothing, no number stands there.
use Rattle.std.proofs.Common.{◌≡◌, ◌≢◌, ℕ, ◌<◌, ◌≤◌, List, ◌∷◌, ◌++◌, length, get_or, take, ⊎_elim}
use Rattle.std.proofs.Common.{sym, ap, ◌∙◌, refl, subst, arith}
use Rattle.std.proofs.lemmas.List.{get_or-take, get_or_at, get_or_append_left, length-take-le}
use Rattle.std.proofs.lemmas.List.{length-append}
use Rattle.std.proofs.lemmas.Str.Parse.{digit_at}
use Rattle.std.specs.Char.{IsNotAsciiDigit}
use Rattle.std.specs.Int.{IsInRange}
use Rattle.std.specs.Str.Parse.{AllDigits}
use Rattle.dimacs.specs.Words.{EndsWord, IsNumber}

-- a digit is no blank, no newline, and not what is none
not_an_end : (end : ℕ) → EndsWord end → IsInRange 48 57 end → ⊥
not_an_end end ends digit = ⊎_elim (λ blank. omega arith) (λ newline. omega arith) ends

not_both : (c : ℕ) → IsInRange 48 57 c → IsNotAsciiDigit c → ⊥
not_both c digit other = ⊎_elim (λ low. omega arith) (λ high. omega arith) other

-- digits at the front of some bytes, and a number there that is ended
module _ (bytes : List ℕ) (count end : ℕ) (within : count ≤ length bytes)
    (digits : AllDigits 10 (take count bytes)) (is_end : EndsWord end) (word more : List ℕ)
    (x : ℕ) (number : IsNumber word x) (e : bytes ≡ word ++ end ∷ more) where
  here : get_or bytes (length word) 0 ≡ end
  here = ap (λ l. get_or l (length word) 0) e ∙ get_or_at word end more 0 (length word) refl

  no_shorter : length word < count → ⊥
  no_shorter h =
      let there : get_or (take count bytes) (length word) 0 ≡ end =
      get_or-take count bytes (length word) 0 h ∙ here in
      let inside : length word < length (take count bytes) =
      omega (arith, length-take-le count bytes within) in
      not_an_end end is_end (subst (IsInRange 48 57) there
      (digit_at (take count bytes) (length word) digits inside))

  -- the digits are not all
  pub goes_on : length bytes ≤ count → ⊥
  goes_on h =
      no_shorter (omega (arith, ap length e, length-append word (end ∷ more)))

  module _ (other : IsNotAsciiDigit (get_or bytes count 0)) where
    no_longer : count < length word → ⊥
    no_longer h =
        let there : get_or bytes count 0 ≡ get_or word count 0 =
        ap (λ l. get_or l count 0) e ∙ get_or_append_left word (end ∷ more) 0 count h in
        not_both (get_or bytes count 0) (subst (IsInRange 48 57) (sym there)
        (digit_at word count number.numeral.1 h)) other

    -- what comes behind them ends the number
    counted : length word ≡ count
    counted =
        let not_less : length word < count → ⊥ = no_shorter in
        let not_more : count < length word → ⊥ = no_longer in
        omega arith

    pub ended : get_or bytes count 0 ≡ end
    ended = ap (λ k. get_or bytes k 0) (sym counted) ∙ here

    -- and there are some
    pub nonempty : count ≢ 0
    nonempty none = omega (arith, counted, number.numeral.0)
