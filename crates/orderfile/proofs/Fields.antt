-- Fields and their bytes: the bytes of a sound field have no fault and state what was written, and
-- a field without a fault is the bytes of what it states.
-- Idea: one way the bytes are written out, so that the checks compute. The other way the checks fix
-- the tag and the length, so that the first bytes can be peeled off one by one and compared with
-- the bytes that the format would write.
use Rattle.std.proofs.Common.{◌≡◌, ℕ, zero, suc, ◌+◌, ◌/◌, ◌%◌, ◌<◌, ◌≤◌, false, not}
use Rattle.std.proofs.Common.{List, [], ◌∷◌, ◌++◌, length, drop, ℤ, pos, negsuc}
use Rattle.std.proofs.Common.{None, sym, refl, ap, ◌∙◌, add-zero, arith, length-drop, length-take}
use Rattle.std.proofs.Common.{w64}
use Rattle.std.proofs.Common.{SFits, to_z, of_z}
use Rattle.std.proofs.lemmas.List.{drop_more, get_or-take, get_or-drop}
use Rattle.std.proofs.lemmas.Int.{to_z-of_z, of_z-to_z}
use Rattle.std.proofs.lemmas.Bool.{cond-false}
use Rattle.std.proofs.lemmas.Bool.Decides.{nat_tests}
use Rattle.sheet.proofs.Pairs.{blocks_from}
use Rattle.orderfile.specs.declared.record.StatedPair.{StatedPair}
use Rattle.orderfile.specs.declared.record.Stage.TheVariants.{Start, Sized}
use Rattle.orderfile.specs.declared.format.TheConstants.{PAIR_TAG, PAIR_LENGTH}
use Rattle.orderfile.specs.Format.{PairFits, size_field, pair_field, end_field, eight_bytes}
use Rattle.orderfile.specs.Format.{tag_of, length_of, extent, value_of, overruns, pair_in}
use Rattle.orderfile.specs.Faults.{field_fault}
use Rattle.orderfile.specs.Records.{size_in}
use Rattle.orderfile.proofs.Bytes.{spelled, bytes_spell, spelled_bytes}
use Rattle.std.proofs.Common.{slice_index, nat_lt, unsigned_abs}
use Rattle.cost.specs.declared.TheConstants.{COST_LIMIT}
use Rattle.blockset.specs.declared.TheConstants.{MOST_BLOCKS}

-- each number of a list is a byte
abbrev pub AreBytes : List ℕ → Type 0
AreBytes xs = (i : ℕ) → slice_index xs i < 256

-- sound fields have no fault

pub size_sound : (n : ℕ) (more : List ℕ) (at : ℕ) → 1 ≤ n → n ≤ MOST_BLOCKS
    → field_fault Start (size_field n ++ more) at ≡ None
size_sound n more at some few = grind (arith, nat_tests)

pub end_sound : (n : ℕ) (more : List ℕ) (at : ℕ) → field_fault (Sized n) (end_field ++ more)
    at ≡ None
end_sound n more at = grind (arith, nat_tests)

-- a number within 10^9 fits 64 bits
pub cost_fits : (z : ℤ) → unsigned_abs z ≤ COST_LIMIT → SFits w64 z
cost_fits (pos k) small = record { sfits = omega arith }
cost_fits (negsuc k) small = record { sfits = omega arith }

bits_fit : (z : ℤ) → unsigned_abs z ≤ COST_LIMIT → of_z w64 z < 18446744073709551616
bits_fit (pos k) small = omega arith
bits_fit (negsuc k) small = omega arith

pub pair_stated : (p : StatedPair) (more : List ℕ) → unsigned_abs p.cost ≤ COST_LIMIT
    → pair_in (value_of (pair_field p ++ more)) ≡ p
pair_stated p more small =
    let e : to_z w64
    (spelled (of_z w64 p.cost / 72057594037927936 % 256)
    (of_z w64 p.cost / 281474976710656 % 256) (of_z w64 p.cost / 1099511627776 % 256)
    (of_z w64 p.cost / 4294967296 % 256)
    (of_z w64 p.cost / 16777216 % 256) (of_z w64 p.cost / 65536 % 256) (of_z w64 p.cost / 256 % 256)
    (of_z w64 p.cost % 256)) ≡ p.cost =
    ap (to_z w64) (bytes_spell (of_z w64 p.cost) (bits_fit p.cost small)) ∙ to_z-of_z w64 p.cost
    (cost_fits p.cost small) in
    ap (λ z. record { left = p.left; right = p.right; cost = z }) e

pub pair_sound : (n : ℕ) (p : StatedPair) (more : List ℕ) (at : ℕ) → PairFits n p
    → field_fault (Sized n) (pair_field p ++ more) at ≡ None
pair_sound n p more at s =
    let e = pair_stated p more s.cost_within in
    let cost : nat_lt COST_LIMIT (unsigned_abs (pair_in (value_of (pair_field p ++ more))).cost)
    ≡ false =
    ap (λ q. nat_lt COST_LIMIT (unsigned_abs q.cost)) e ∙ grind (arith, nat_tests, s.cost_within) in
    let whole : overruns (pair_field p ++ more) ≡ false = grind (arith, nat_tests) in
    cond-false _ _ _ whole
    ∙ cond-false _ _ _ (ap not (blocks_from n p.left p.right s.left_below s.right_below))
    ∙ cond-false _ _ _ cost

-- fields without a fault are the bytes of what they state

-- k bytes from the place i on
firsts : ℕ → ℕ → List ℕ → List ℕ
firsts zero i xs = []
firsts (suc k) i xs = slice_index xs i ∷ firsts k (i + 1) xs

peel : (k i : ℕ) (xs : List ℕ) → i + k ≤ length xs → drop i xs ≡ firsts k i xs ++ drop (i + k) xs
unfolding firsts
peel zero i xs h = ap (λ j. drop j xs) (sym (add-zero i))
peel (suc k) i xs h =
    let e : (i + 1) + k ≡ i + suc k = omega arith in
    drop_more xs i 0 (omega arith) ∙ ap (λ t. slice_index xs i ∷ t)
    (peel k (i + 1) xs (omega arith))
    ∙ ap (λ j. slice_index xs i ∷ (firsts k (i + 1) xs ++ drop j xs)) e

-- a whole field
module _ (rest : List ℕ) (whole : overruns rest ≡ false) where
  pub header_fits : 3 ≤ length rest
  header_fits = grind (arith, nat_tests)

  pub extent-fits : extent rest ≤ length rest
  extent-fits = grind (arith, nat_tests)

  pub value_length : length (value_of rest) ≡ length_of rest
  value_length = simp (length-take, length-drop) (omega (arith, header_fits, extent-fits))

  value_at : (i : ℕ) → i < length_of rest → slice_index (value_of rest) i ≡ slice_index rest (3 + i)
  value_at i h = get_or-take (length_of rest) (drop 3 rest) i 0 h ∙ get_or-drop 3 rest i 0

  firsts-value : (k i : ℕ) → i + k ≤ length_of rest
      → firsts k (3 + i) rest ≡ firsts k i (value_of rest)
  unfolding firsts
  firsts-value zero i h = refl
  firsts-value (suc k) i h =
      let next : 3 + i + 1 ≡ 3 + (i + 1) = omega arith in
      ap (λ x. x ∷ firsts k (3 + i + 1) rest) (sym (value_at i (omega arith)))
      ∙ ap (λ t. slice_index (value_of rest) i ∷ t)
      (ap (λ j. firsts k j rest) next ∙ firsts-value k (i + 1) (omega arith))

  -- the two bytes of a length below 256
  length_bytes : (k : ℕ) → k < 256 → length (value_of rest) ≡ k → (slice_index rest 1 ≡ 0)
      × (slice_index rest 2 ≡ k)
  length_bytes k h e = (omega (arith, value_length), omega (arith, value_length))

  pub size_bytes : tag_of rest ≡ 1 → length (value_of rest) ≡ 1
      → rest ≡ size_field (size_in (value_of rest)) ++ drop 4 rest
  unfolding firsts
  size_bytes tag long =
      let two = length_bytes 1 (omega arith) long in
      let v0 : slice_index (value_of rest) 0 ≡ slice_index rest 3 =
      value_at 0 (omega (arith, value_length)) in
      let front : firsts 4 0 rest ≡ size_field (size_in (value_of rest)) =
      cc (tag, two.0, two.1, v0) in
      peel 4 0 rest (omega (arith, value_length, extent-fits)) ∙ ap (λ t. t ++ drop 4 rest) front

  pub end_bytes : tag_of rest ≡ 3 → length (value_of rest) ≡ 0 → rest ≡ end_field ++ drop 3 rest
  unfolding firsts
  end_bytes tag long =
      let two = length_bytes 0 (omega arith) long in
      let front : firsts 3 0 rest ≡ end_field = cc (tag, two.0, two.1) in
      peel 3 0 rest header_fits ∙ ap (λ t. t ++ drop 3 rest) front

  pub pair_bytes : AreBytes rest → tag_of rest ≡ 2 → length (value_of rest) ≡ 10
      → rest ≡ pair_field (pair_in (value_of rest)) ++ drop 13 rest
  unfolding firsts
  pair_bytes bytes tag long =
      let v = value_of rest in
      let ten : length_of rest ≡ 10 = sym value_length ∙ long in
      let low : (i : ℕ) → i < 10 → slice_index v i < 256 =
      λ i h. omega (arith, value_at i (omega (arith, ten)), bytes (3 + i)) in
      let l2 = low 2 (omega arith) in
      let l3 = low 3 (omega arith) in
      let l4 = low 4 (omega arith) in
      let l5 = low 5 (omega arith) in
      let l6 = low 6 (omega arith) in
      let l7 = low 7 (omega arith) in
      let l8 = low 8 (omega arith) in
      let l9 = low 9 (omega arith) in
      let number : ℕ = spelled (slice_index v 2) (slice_index v 3) (slice_index v 4)
      (slice_index v 5) (slice_index v 6) (slice_index v 7) (slice_index v 8) (slice_index v 9) in
      let small : number < 18446744073709551616 = omega arith in
      let spells : eight_bytes (of_z w64 (to_z w64 number)) ≡ firsts 8 2 v =
      ap eight_bytes (of_z-to_z w64 number small)
      ∙ spelled_bytes _ _ _ _ _ _ _ _ l2 l3 l4 l5 l6 l7 l8 l9 in
      let two = length_bytes 10 (omega arith) long in
      let front : firsts 13 0 rest ≡ PAIR_TAG ∷ 0 ∷ PAIR_LENGTH ∷ firsts 10 0 v =
      cc (tag, two.0, two.1, firsts-value 10 0 (omega (arith, ten))) in
      peel 13 0 rest (omega (arith, ten, extent-fits)) ∙ ap (λ t. t ++ drop 13 rest)
      (front ∙ ap (λ t. PAIR_TAG ∷ 0 ∷ PAIR_LENGTH ∷ slice_index v 0 ∷ slice_index v 1 ∷ t)
      (sym spells))
