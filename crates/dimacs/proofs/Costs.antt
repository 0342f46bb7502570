-- The cost at the front of some bytes: its sign, its digits, and what is handed out for it.
-- Idea: a cost that begins with a minus sign is no number, since a minus sign is no digit; so the
-- first byte tells whether there is a sign, and behind it stands a number. The greatest size that
-- is handed out is the same with either sign, so the sign may come before or after the stop.
use Rattle.std.proofs.Common.{◌≡◌, ◌≢◌, ℕ, ◌+◌, ◌==◌, List, ◌∷◌, ◌++◌, length, get_or}
use Rattle.std.proofs.Common.{drop, min, ⊎_elim, inl, inr, if◌then◌else◌}
use Rattle.std.proofs.Common.{sym, ap, ◌∙◌, refl, arith, zero, suc, ℤ, pos, neg_ℤ}
use Rattle.std.proofs.Common.{◌-ℤ◌, to_z, of_z, w64}
use Rattle.std.proofs.lemmas.Int.{ints}
use Rattle.std.proofs.lemmas.Bool.{cases_Bool, eqb-true}
use Rattle.std.proofs.lemmas.List.{get_or_append_left}
use Rattle.std.proofs.lemmas.Str.Parse.{digit_at}
use Rattle.std.specs.Int.{IsInRange}
use Rattle.std.specs.Str.Parse.{IsNumeral, digits_value, starts_with_minus}
use Rattle.dimacs.specs.Words.{IsNumber, IsNegative, IsCost, stopped, cost_stopped}
use Rattle.dimacs.proofs.Passing.{one_byte}

-- ---- The sign

-- how long the sign of a cost is
abbrev pub sign_in : List ℕ → ℕ
sign_in bytes = if starts_with_minus bytes then 1 else 0

sign_of_number : (bytes word more : List ℕ) (x : ℕ) → IsNumber word x → bytes ≡ word ++ more
    → sign_in bytes ≡ 0
sign_of_number bytes word more x h e =
    let digit : IsInRange 48 57 (get_or word 0 0) = digit_at word 0 h.numeral.1 h.numeral.0 in
    let first : get_or bytes 0 0 ≡ get_or word 0 0 =
    ap (λ l. get_or l 0 0) e ∙ get_or_append_left word more 0 0 h.numeral.0 in
    let other : get_or bytes 0 0 ≢ 45 = omega arith in
    grind arith

sign_of_negative : (bytes digits more : List ℕ) → bytes ≡ 45 ∷ digits ++ more → sign_in bytes ≡ 1
sign_of_negative bytes digits more e = ap sign_in e

-- ---- What is handed out for a size with a sign

abbrev pub handed_out : (sign value : ℕ) → ℤ
handed_out sign value = if sign == 1 then neg_ℤ (pos (min value 9223372036854775807))
    else pos (min value 9223372036854775807)

stopped_positive : (x : ℕ) → handed_out 0 (stopped x) ≡ cost_stopped (pos x)
stopped_positive x = ap pos (omega arith)

stopped_negative : (x : ℕ) → handed_out 1 (stopped x) ≡ cost_stopped (neg_ℤ (pos x))
stopped_negative zero = refl
stopped_negative (suc x) = ap (λ y. neg_ℤ (pos y)) (omega arith)

handed_plain : (sign value : ℕ) → sign ≢ 1 → handed_out sign value
    ≡ pos (min value 9223372036854775807)
handed_plain sign value other = grind arith

-- as the program computes it
module _ (sign value size bits : ℕ) (is_size : size ≡ min value 9223372036854775807) where
  pub handed_out_plain : sign ≢ 1 → to_z w64 bits ≡ to_z w64 size
      → to_z w64 bits ≡ handed_out sign value
  handed_out_plain other e =
      let whole : to_z w64 size ≡ pos size = omega (arith, ints) in
      e ∙ whole ∙ ap pos is_size ∙ sym (handed_plain sign value other)

  pub handed_out_negative : sign ≡ 1
      → to_z w64 bits ≡ to_z w64 (of_z w64 (pos 0 -ℤ to_z w64 size))
      → to_z w64 bits ≡ handed_out sign value
  handed_out_negative one e =
      let turned : to_z w64 (of_z w64 (pos 0 -ℤ to_z w64 size)) ≡ neg_ℤ (pos size) =
      omega (arith, ints) in
      e ∙ turned ∙ ap (λ n. neg_ℤ (pos n)) is_size ∙ ap (λ s. handed_out s value) (sym one)

-- ---- The cost at the front

module _ (bytes part : List ℕ) (sign end : ℕ) (is_sign : sign ≡ sign_in bytes)
    (is_part : part ≡ drop sign bytes) where
  -- where no number stands behind the sign, no cost stands at the front
  module _ (none : (word more : List ℕ) (x : ℕ) → IsNumber word x → part ≡ word ++ end ∷ more → ⊥)
      (word more : List ℕ) (z : ℤ) (e : bytes ≡ word ++ end ∷ more) where
    no_plain : (x : ℕ) → IsNumber word x → ⊥
    no_plain x h =
        let zero_sign : sign ≡ 0 = is_sign ∙ sign_of_number bytes word (end ∷ more) x h e in
        none word more x h (is_part ∙ ap (λ k. drop k bytes) zero_sign ∙ e)

    no_negative : IsNegative word z → ⊥
    no_negative h =
        let signed : bytes ≡ 45 ∷ h.digits ++ end ∷ more = e ∙ ap (λ l. l ++ end ∷ more) h.signed in
        let one : sign ≡ 1 = is_sign ∙ sign_of_negative bytes h.digits (end ∷ more) signed in
        none h.digits more h.size h.number
        (is_part ∙ ap (λ k. drop k bytes) one ∙ ap (drop 1) signed)

    pub cost_none : IsCost word z → ⊥
    cost_none h = ⊎_elim (λ plain. no_plain plain.0 plain.1) no_negative h

  -- and where one does, it is a cost with the sign
  module _ (digits more : List ℕ) (numeral : IsNumeral 10 digits)
      (split : part ≡ digits ++ end ∷ more) (value : ℕ)
      (value_is : value ≡ stopped (digits_value 10 digits)) where
    -- the word of the cost, and what is handed out
    pub record IsFront : Type 0 where
      pub word : List ℕ
      pub cost : ℤ
      pub writes : IsCost word cost
      pub handed : handed_out sign value ≡ cost_stopped cost
      pub splits : bytes ≡ word ++ end ∷ more
      pub long : length word ≡ sign + length digits

    number : IsNumber digits (digits_value 10 digits)
    number = record { numeral = numeral; value = refl }

    plain_front : sign ≡ 0 → IsFront
    plain_front none =
        let x : ℕ = digits_value 10 digits in
        record {
          word = digits;
          cost = pos x;
          writes = inl (x, number, refl);
          handed = ap (λ s. handed_out s value) none ∙ ap (handed_out 0) value_is
              ∙ stopped_positive x;
          splits = sym (is_part ∙ ap (λ k. drop k bytes) none) ∙ split;
          long = omega arith;
        }

    negative_front : sign ≡ 1 → get_or bytes 0 0 ≡ 45 → IsFront
    negative_front one minus =
        let x : ℕ = digits_value 10 digits in
        record {
          word = 45 ∷ digits;
          cost = neg_ℤ (pos x);
          writes = inr (record {
            digits = digits;
            size = x;
            signed = refl;
            number = number;
            value = refl;
          });
          handed = ap (λ s. handed_out s value) one ∙ ap (handed_out 1) value_is
              ∙ stopped_negative x;
          splits = one_byte bytes 45 (omega arith) minus
              ∙ ap (λ l. 45 ∷ l) (sym (is_part ∙ ap (λ k. drop k bytes) one) ∙ split);
          long = omega arith;
        }

    pub cost_front : IsFront
    cost_front =
        ⊎_elim
        (λ minus. negative_front (is_sign ∙ ap (λ b. if b then 1 else 0) minus)
        (eqb-true (get_or bytes 0 0) 45 minus))
        (λ plain. plain_front (is_sign ∙ ap (λ b. if b then 1 else 0) plain))
        (cases_Bool (starts_with_minus bytes))
