-- One more digit: as long as there are few, their number is far below 2^64, so nothing wraps.
-- Where they are over, the byte that comes next ends the number, or none is there.
use Rattle.std.proofs.Common.{◌≡◌, ℕ, ◌+◌, ◌*◌, ◌-◌, ◌<◌, ◌≤◌}
use Rattle.std.proofs.Common.{◌≢◌, ◌%◌, ◌^◌, List, ◌∷◌, ◌++◌, length}
use Rattle.std.proofs.Common.{get_or, take, drop, Fits, w8, sym, ap, ◌∙◌, subst, arith}
use Rattle.std.proofs.Math.Nat.{pow-le-pow_right, mod-eq_of_lt}
use Rattle.std.proofs.lemmas.Int.Digits.{digits_more, digits_value_more, digits_value-lt}
use Rattle.std.proofs.lemmas.List.{get_or-drop, length-drop, length-take-le, drop-drop, drop_more}
use Rattle.std.proofs.lemmas.List.{take-append-drop}
use Rattle.std.proofs.lemmas.Str.{digit_value_digit}
use Rattle.std.specs.Char.{digit_value, IsNotAsciiDigit}
use Rattle.std.specs.Int.{IsInRange}
use Rattle.std.specs.Str.Parse.{AllDigits, digits_value}
use Rattle.dimacs.specs.Words.{EndsWord, HasNumber, HasNoNumber, stopped}
use Rattle.dimacs.proofs.Digits.{goes_on, ended, nonempty}
use Rattle.dimacs.proofs.words.number_from.Invariants.{Counts}
use Rattle.dimacs.proofs.words.number_from.Goals as goal
use Rattle.dimacs.proofs.words.number_from.Goals.{then-text-i-via-then-text-i}
use Rattle.dimacs.proofs.words.number_from.Goals.{then-text-i-via-else-text-i+then-i-at}

-- the difference of a byte and the digit 0, as the program computes it
module _ (byte digit : ℕ) (small : Fits w8 byte)
    (is_digit : digit ≡ (byte + 18446744073709551568) % 18446744073709551616) where
  digit_told : digit ≤ 9 → IsInRange 48 57 byte × (digit ≡ byte - 48)
  digit_told h = (omega arith, omega arith)

  other_told : 9 < digit → IsNotAsciiDigit byte
  other_told h = grind arith

-- so few digits write a small number
few_small : (digits : List ℕ) → AllDigits 10 digits → length digits ≤ 17
    → digits_value 10 digits < 100000000000000000
few_small digits all few =
    let below : digits_value 10 digits < 10 ^ length digits = digits_value-lt 10 digits all in
    let most : 10 ^ length digits ≤ 10 ^ 17 = pow-le-pow_right (omega arith) few in
    omega arith

-- and one more digit wraps at neither step
no_wrap : (value digit : ℕ) → value < 100000000000000000 → digit < 10
    → (value * 10 % 18446744073709551616 + digit) % 18446744073709551616 ≡ value * 10 + digit
no_wrap value digit small one =
    ap (λ n. (n + digit) % 18446744073709551616) (mod-eq_of_lt (omega arith))
    ∙ mod-eq_of_lt (omega arith)

module _ (text : List ℕ) (at i value : ℕ) (h : Counts text at i value) where
  -- the byte that comes next, as a byte of the part from the offset on
  here : get_or (drop at text) h.count 0 ≡ get_or text i 0
  here = get_or-drop at text h.count 0 ∙ ap (λ k. get_or text k 0) (sym h.counted)

  reaches : at ≤ length text → h.count ≤ length (drop at text)
  reaches inside = omega (arith, h.counted, h.within, length-drop at text)

  -- ---- One more digit

  module _ (inside : i < length text) (digit : IsInRange 48 57 (get_or text i 0)) where
    within : h.count < length (drop at text)
    within = omega (arith, h.counted, length-drop at text)

    one : digit_value (get_or (drop at text) h.count 0) + 48 ≡ get_or text i 0
    one = ap (λ b. digit_value b + 48) here ∙ digit_value_digit (get_or text i 0) digit

    counts_more : (next : ℕ)
        → next ≡ (value * 10 % 18446744073709551616 + (get_or text i 0 - 48))
        % 18446744073709551616
        → Counts text at (i + 1) next
    counts_more next is_next =
        let digits : List ℕ = take h.count (drop at text) in
        let written = one in
        let far : length digits ≡ h.count =
        length-take-le h.count (drop at text) (omega (arith, within)) in
        let more = digits_value_more 10 (drop at text) h.count within in
        record {
          count = h.count + 1;
          counted = omega (arith, h.counted);
          within = omega arith;
          digits = digits_more 10 (drop at text) h.count within h.digits (omega arith);
          value_is = λ few.
              let so_far = h.value_is (omega arith) in
              let small = few_small digits h.digits (omega arith) in
              let plain = no_wrap value (get_or text i 0 - 48) (omega arith) (omega arith) in
              omega arith;
        }

  -- ---- The digits are over

  module _ (inside : at ≤ length text) (end : ℕ) (is_end : EndsWord end) where
    text_over : length text ≤ i → HasNoNumber text at end
    text_over over word more x number e =
        goes_on (drop at text) h.count end (reaches inside) h.digits is_end word more x number e
        (omega (arith, h.counted, length-drop at text))

    module _ (other : IsNotAsciiDigit (get_or text i 0)) where
      other_here : IsNotAsciiDigit (get_or (drop at text) h.count 0)
      other_here = subst IsNotAsciiDigit (sym here) other

      no_end : get_or text i 0 ≢ end → HasNoNumber text at end
      no_end differs word more x number e =
          differs (sym here ∙ ended (drop at text) h.count end (reaches inside) h.digits is_end word
          more x number e other_here)

      no_digit : i ≡ at → HasNoNumber text at end
      no_digit same word more x number e =
          nonempty (drop at text) h.count end (reaches inside) h.digits is_end word more x number e
          other_here (omega (arith, h.counted))

    has_number : i < length text → get_or text i 0 ≡ end → i ≢ at → (told : ℕ)
        → told ≡ stopped (digits_value 10 (take (i - at) (drop at text)))
        → HasNumber text at end i told
    has_number more byte some told is_told =
        let count : i - at ≡ h.count = omega (arith, h.counted) in
        let far : length (take h.count (drop at text)) ≡ h.count =
        length-take-le h.count (drop at text) (reaches inside) in
        record {
          digits = take h.count (drop at text);
          numeral = (omega (arith, h.counted), h.digits);
          splits = sym (take-append-drop h.count (drop at text))
              ∙ ap (λ l. take h.count (drop at text) ++ l)
              (drop-drop h.count at text ∙ ap (λ k. drop k text) (sym h.counted)
              ∙ drop_more text i 0 more ∙ ap (λ b. b ∷ drop (i + 1) text) byte);
          ends_at = omega (arith, h.counted);
          value_is = is_told ∙ ap (λ k. stopped (digits_value 10 (take k (drop at text)))) count;
        }

pub loop-i-preserved : goal.loop-i-preserved
loop-i-preserved c =
    let h = c.loop-i.invariant in
    let told = digit_told (get_or c.args.text.now c.loop-i.i 0) _ (c.type_inv.text c.loop-i.i)
    (ap (λ b. (b + 18446744073709551568) % 18446744073709551616) c.from-digit.ensures)
    c.if-digit-gt9.false in
    counts_more c.args.text.now c.args.at c.loop-i.i c.loop-i.value h c.loop-i-test.true told.0 _
    (ap (λ d. (c.loop-i.value * 10 % 18446744073709551616 + d) % 18446744073709551616) told.1)

pub returns-then-text-i : goal.returns-then-text-i
returns-then-text-i c =
    let h = c.loop-i.invariant in
    let other = other_told (get_or c.args.text.now c.loop-i.i 0) _ (c.type_inv.text c.loop-i.i)
    (ap (λ b. (b + 18446744073709551568) % 18446744073709551616) c.from-digit.ensures)
    c.if-digit-gt9.true in
    elim c.then-text-i.branch [
      | then-text-i-via-then-text-i w ↦ no_end c.args.text.now c.args.at c.loop-i.i
          c.loop-i.value h c.requires.inside c.args.end c.requires.ends other w.if-text-i.true
      | then-text-i-via-else-text-i+then-i-at w ↦ no_digit c.args.text.now c.args.at c.loop-i.i
          c.loop-i.value h c.requires.inside c.args.end c.requires.ends other w.if-i-at.true
    ]

pub returns-then-digit-gt9 : goal.returns-then-digit-gt9
returns-then-digit-gt9 c =
    subst (λ k. HasNumber c.args.text.now c.args.at c.args.end k c.told.result.value)
    (sym c.told.ensures.end)
    (has_number c.args.text.now c.args.at c.loop-i.i c.loop-i.value c.loop-i.invariant
    c.requires.inside c.args.end c.requires.ends c.loop-i-test.true c.if-text-i.false
    c.if-i-at.false c.told.result.value c.told.ensures.value)

pub returns : goal.returns
returns c =
    text_over c.args.text.now c.args.at c.loop-i.i c.loop-i.value c.loop-i.invariant
    c.requires.inside c.args.end c.requires.ends c.loop-i-test.false
