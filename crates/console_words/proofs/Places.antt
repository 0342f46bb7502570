-- Places in a row: what fits or is too long for two rows one after the other.
-- Idea: by the places of the first row, one after the other.
use Rattle.std.proofs.Common.{◌≡◌, ◌≢◌, ℕ, List, [], ◌∷◌, ◌++◌, ap, sym, ◌∙◌, refl}
use Rattle.std.proofs.Common.{append_assoc, ⊎_elim, false, subst, arith}
use Rattle.std.proofs.lemmas.Bool.{cases_Bool, cond-false, eqb-true}
use Rattle.std.proofs.lemmas.List.{map-append}
use Rattle.std.specs.Prelude.{ℤ, pos, neg_ℤ, map, ◌==◌}
use Rattle.std.specs.Str.Parse.{IsNumeral, digits_value}
use Rattle.std.specs.Str.Parse.{without_leading_plus, without_leading_sign}
use Rattle.console_words.specs.declared.complaint.Complaint.{Complaint}
use Rattle.console_words.specs.Forms.{Slot, Fills, AllFill, IsTooLong, IsTooMany, Takes}
use Rattle.console_words.specs.Forms.{a_block, integer_in}
use Rattle.console_words.specs.Sizing.{number_in}

all_fit_more : (ss ts : List Slot) (xs ys : List (List ℕ)) → AllFill ss xs → AllFill ts ys
    → AllFill (ss ++ ts) (xs ++ ys)
all_fit_more [] ts [] ys a b = b
all_fit_more [] ts (x ∷ xs) ys a b = absurd a
all_fit_more (s ∷ ss) ts [] ys a b = absurd a
all_fit_more (s ∷ ss) ts (x ∷ xs) ys a b = (a.0, all_fit_more ss ts xs ys a.1 b)

pub takes_more : (ss ts : List Slot) (old mid new : List (List ℕ)) (xs ys : List ℤ)
    → Takes ss old mid xs → Takes ts mid new ys → Takes (ss ++ ts) old new (xs ++ ys)
takes_more ss ts old mid new xs ys a b = (
  a.0 ++ b.0,
  a.1 ∙ ap (λ ws. a.0 ++ ws) b.1 ∙ sym (append_assoc a.0 b.0 new),
  all_fit_more ss ts a.0 b.0 a.2 b.2,
  ap (λ zs. zs ++ ys) a.3 ∙ ap (λ zs. map integer_in a.0 ++ zs) b.3
      ∙ sym (map-append integer_in a.0 b.0),
)

long : (form : List ℕ) (ss : List Slot) (xs ws : List (List ℕ)) (c : Complaint)
    → AllFill ss xs → ws ≢ [] → IsTooMany form c → IsTooLong form ss (xs ++ ws) c
long form [] [] [] c a more many = absurd (more refl)
long form [] [] (w ∷ ws) c a more many = many
long form [] (x ∷ xs) ws c a more many = absurd a
long form (s ∷ ss) [] ws c a more many = absurd a
long form (s ∷ ss) (x ∷ xs) ws c a more many = (a.0, long form ss xs ws c a.1 more many)

-- the row is filled, and words are left
pub too_long : (form : List ℕ) (ss : List Slot) (old new : List (List ℕ)) (xs : List ℤ)
    (c : Complaint) → Takes ss old new xs → new ≢ [] → IsTooMany form c → IsTooLong form ss old c
too_long form ss old new xs c a more many = rw a.1 (long form ss a.0 new c a.2 more many)

-- a word that stands for a block writes its number without a minus
unsigned : (word : List ℕ) → IsNumeral 10 (without_leading_plus word)
    → integer_in word ≡ pos (number_in word)
unsigned [] numeral = absurd (omega arith)
unsigned (c ∷ cs) numeral =
    let minus = c == 45 in
    let none : minus ≡ false = ⊎_elim (λ is. absurd (let sign : c ≡ 45 = eqb-true c 45 is in
    let digit = (subst (λ k. IsNumeral 10 (without_leading_plus (k ∷ cs))) sign numeral).1.0 in
    omega arith)) (λ e. e) (cases_Bool minus) in
    cond-false minus (neg_ℤ (pos (digits_value 10 (without_leading_sign (c ∷ cs)))))
    (pos (digits_value 10 (without_leading_sign (c ∷ cs)))) none
    ∙ ap (λ ds. pos (digits_value 10 ds))
    (cond-false minus cs (without_leading_plus (c ∷ cs)) none)

-- the first word fills a place for a block, or for a number
pub takes_block : (old new : List (List ℕ)) (word : List ℕ) (n : ℕ) → old ≡ word ∷ new
    → Fills a_block word → n ≡ number_in word → Takes (a_block ∷ []) old new (pos n ∷ [])
takes_block old new word n e fits is = (
  word ∷ [],
  e,
  (fits, tt),
  ap (λ z. z ∷ []) (ap pos is ∙ sym (unsigned word fits.0)),
)
