-- Words at the front of bytes, each ended by a byte: which word stands there, the bytes tell.
-- Idea: no byte of a word is the byte that ends it. So of two words at the front of the same bytes
-- neither goes on where the other ends: walk along both, byte by byte, until both end at once.
use Rattle.std.proofs.Common.{◌≡◌, ◌≢◌, ℕ, ◌≤◌, List, [], ◌∷◌, ◌++◌, ⊎_elim, ℤ, pos, neg_ℤ}
use Rattle.std.proofs.Common.{refl, sym, ap, ◌∙◌, subst, arith, inl, inr}
use Rattle.std.proofs.lemmas.List.Elements.{All-head, All-tail, All-cons, All-nil}
use Rattle.std.proofs.lemmas.Str.Parse.{digit_from_value}
use Rattle.std.specs.List.{All}
use Rattle.std.specs.Str.Parse.{AllDigits, digits_value}
use Rattle.dimacs.specs.Words.{IsNumber, IsCost}
use Rattle.dimacs.specs.Words.{EndsWord}

-- no byte of a word is the byte e
abbrev pub IsFreeOf : ℕ → List ℕ → Type 0
IsFreeOf e word = All (λ byte. byte ≢ e) word

-- two words at the front of the same bytes
pub word_told : (e : ℕ) (u v r s : List ℕ) → IsFreeOf e u → IsFreeOf e v
    → u ++ e ∷ r ≡ v ++ e ∷ s → (u ≡ v) × (r ≡ s)
word_told e [] [] r s fu fv h = (refl, cc)
word_told e [] (y ∷ v) r s fu fv h =
    let same : y ≡ e = cc in
    absurd (All-head (λ byte. byte ≢ e) y v fv same)
word_told e (x ∷ u) [] r s fu fv h =
    let same : x ≡ e = cc in
    absurd (All-head (λ byte. byte ≢ e) x u fu same)
word_told e (x ∷ u) (y ∷ v) r s fu fv h =
    let on : u ++ e ∷ r ≡ v ++ e ∷ s = cc in
    let told = word_told e u v r s (All-tail (λ byte. byte ≢ e) x u fu)
    (All-tail (λ byte. byte ≢ e) y v fv) on in
    let head : x ≡ y = cc in
    let tail = told.0 in
    (cc, told.1)

-- what ends a word
pub blank : EndsWord 32
blank = inl refl

pub newline : EndsWord 10
newline = inr refl

-- a digit ends no word
digit_goes_on : (c e : ℕ) → EndsWord e → 48 ≤ c → c ≢ e
digit_goes_on c e ends low same =
    ⊎_elim (λ blank. omega arith) (λ newline. omega arith) ends

digits_free : (e : ℕ) (ds : List ℕ) → EndsWord e → AllDigits 10 ds → IsFreeOf e ds
digits_free e [] ends h = All-nil (λ byte. byte ≢ e)
digits_free e (c ∷ ds) ends h =
    All-cons (λ byte. byte ≢ e) c ds (digit_goes_on c e ends ((digit_from_value c h.0).0))
    (digits_free e ds ends h.1)

pub number_free : (e : ℕ) (word : List ℕ) (x : ℕ) → EndsWord e → IsNumber word x
    → IsFreeOf e word
number_free e word x ends h = digits_free e word ends h.numeral.1

pub cost_free : (e : ℕ) (word : List ℕ) (z : ℤ) → EndsWord e → IsCost word z → IsFreeOf e word
cost_free e word z ends h =
    ⊎_elim (λ whole. number_free e word whole.0 ends whole.1)
    (λ negative. subst (IsFreeOf e) (sym negative.signed)
    (All-cons (λ byte. byte ≢ e) 45 negative.digits
    (⊎_elim (λ blank. λ same. omega arith) (λ newline. λ same. omega arith) ends)
    (number_free e negative.digits negative.size ends negative.number))) h

-- a word writes one number
pub number_told : (u v : List ℕ) (x y : ℕ) → IsNumber u x → IsNumber v y → u ≡ v → x ≡ y
number_told u v x y hu hv same = sym hu.value ∙ ap (digits_value 10) same ∙ hv.value

-- and no number begins with a minus sign
number_unsigned : (u digits : List ℕ) (x : ℕ) → IsNumber u x → u ≡ 45 ∷ digits → ⊥
number_unsigned u digits x h same =
    let all : AllDigits 10 (45 ∷ digits) = subst (AllDigits 10) same h.numeral.1 in
    let low = (digit_from_value 45 all.0).0 in
    omega arith

-- a word writes one cost
pub cost_told : (u v : List ℕ) (y z : ℤ) → IsCost u y → IsCost v z → u ≡ v → y ≡ z
cost_told u v y z hu hv same =
    ⊎_elim
    (λ a. ⊎_elim
    (λ b. a.2 ∙ ap pos (number_told u v a.0 b.0 a.1 b.1 same) ∙ sym b.2)
    (λ b. absurd (number_unsigned u b.digits a.0 a.1 (same ∙ b.signed))) hv)
    (λ a. ⊎_elim
    (λ b. absurd (number_unsigned v a.digits b.0 b.1 (sym same ∙ a.signed)))
    (λ b. let digits : a.digits ≡ b.digits = let es = a.signed in let et = b.signed in cc in
    a.value ∙ ap (λ x. neg_ℤ (pos x))
    (number_told a.digits b.digits a.size b.size a.number b.number digits) ∙ sym b.value) hv) hu
