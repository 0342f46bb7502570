-- How a file is read: a front of fields without a fault grows by one field at a time.
-- Idea: a field without a fault is the bytes of what it states, so the front and the field together
-- are again the bytes of a front.
use Rattle.std.proofs.Common.{◌≡◌, ℕ, ◌+◌, ◌≤◌, false, not, ◌||◌, ◌⊎◌, List, [], ◌∷◌}
use Rattle.std.proofs.Common.{◌++◌, length, drop, None, sym, refl, ap, ◌∙◌}
use Rattle.std.proofs.Common.{inl, inr, ⊎_elim, append_assoc, arith}
use Rattle.std.proofs.ByRecursion.{All-push}
use Rattle.std.proofs.lemmas.List.{flat_map_more}
use Rattle.std.proofs.lemmas.Bool.{eqb-true, not-false, cond-true, cond-false, cases_Bool}
use Rattle.std.proofs.lemmas.Bool.Decides.{nat_tests}
use Rattle.std.specs.List.{flat_map}
use Rattle.sheet.specs.declared.fault.Cause.TheVariants.{Overrun, Tag, FieldLength}
use Rattle.sheet.specs.Pairs.{are_blocks}
use Rattle.sheet.proofs.Pairs.{blocks_told}
use Rattle.sheet.specs.Refusals.{fault, first_of, differ}
use Rattle.sheet.proofs.Refused.{cleared, required}
use Rattle.orderfile.specs.declared.record.StatedPair.{StatedPair}
use Rattle.orderfile.specs.declared.record.Stage.{Stage}
use Rattle.orderfile.specs.declared.record.Stage.TheVariants.{Start, Sized, Ended}
use Rattle.orderfile.specs.Format.{FitsSheet, PairFits, size_field, pair_field, end_field, tag_of}
use Rattle.orderfile.specs.Format.{extent, value_of, overruns, pair_in}
use Rattle.orderfile.specs.Faults.{size_checks, pair_checks, end_checks, record_fault, field_fault}
use Rattle.orderfile.specs.Faults.{front, FrontFits}
use Rattle.orderfile.specs.Records.{size_in, record_in, stage_after, stage_next, record_length}
use Rattle.orderfile.proofs.Fields.{AreBytes, value_length, size_bytes, pair_bytes, end_bytes}
use Rattle.std.proofs.Common.{slice_index, nat_lt, unsigned_abs, ◌==◌}
use Rattle.cost.specs.declared.TheConstants.{COST_LIMIT}
use Rattle.blockset.specs.declared.TheConstants.{MOST_BLOCKS}

differ_false : (a b : ℕ) → differ a b ≡ false → a ≡ b
differ_false a b e = eqb-true a b (not-false (a == b) e)

-- what a size field without a fault tells
pub record IsSizeField (rest : List ℕ) : Type 0 where
  pub whole : overruns rest ≡ false
  pub tag : tag_of rest ≡ 1
  pub long : length (value_of rest) ≡ 1
  pub some : 1 ≤ size_in (value_of rest)
  pub few : size_in (value_of rest) ≤ MOST_BLOCKS

pub size_next : (rest : List ℕ) (at : ℕ) → field_fault Start rest at ≡ None → IsSizeField rest
size_next rest at e =
    let v = value_of rest in
    let whole = cleared (overruns rest) _ (record_fault Start (tag_of rest) v at) e in
    let tag = required (tag_of rest == 1) _ (first_of (size_checks v at)) whole.1 in
    let long = cleared (differ (length v) 1) _ _ tag.1 in
    let size = cleared (slice_index v 0 == 0 || nat_lt MOST_BLOCKS (slice_index v 0)) _ _ long.1 in
    let fit = size.0 in
    record {
      whole = whole.0;
      tag = eqb-true _ _ tag.0;
      long = differ_false _ _ long.0;
      some =
          grind (arith, nat_tests, fit);
      few = grind (arith, nat_tests, fit);
    }

-- what a pair field or an end field without a fault tells
pub record IsPairField (n : ℕ) (rest : List ℕ) : Type 0 where
  pub whole : overruns rest ≡ false
  pub tag : tag_of rest ≡ 2
  pub long : length (value_of rest) ≡ 10
  pub fits : PairFits n (pair_in (value_of rest))

pub record IsEndField (rest : List ℕ) : Type 0 where
  pub whole : overruns rest ≡ false
  pub tag : tag_of rest ≡ 3
  pub long : length (value_of rest) ≡ 0

pair_checked : (n : ℕ) (rest : List ℕ) (at : ℕ) → overruns rest ≡ false → tag_of rest ≡ 2
    → first_of (pair_checks n (value_of rest) at) ≡ None → IsPairField n rest
pair_checked n rest at whole tag e =
    let v = value_of rest in
    let long = cleared (differ (length v) 10) _ _ e in
    let blocks = cleared (not (are_blocks n (pair_in v).left (pair_in v).right)) _ _ long.1 in
    let cost = cleared (nat_lt COST_LIMIT (unsigned_abs (pair_in v).cost)) _ _ blocks.1 in
    let below = blocks_told n (pair_in v).left (pair_in v).right (not-false _ blocks.0) in
    let within = cost.0 in
    record {
      whole = whole;
      tag = tag;
      long = differ_false _ _ long.0;
      fits = record {
        left_below = below.0;
        right_below = below.1;
        cost_within = grind (arith, nat_tests, within);
      };
    }

pub pair_or_end : (n : ℕ) (rest : List ℕ) (at : ℕ) → field_fault (Sized n) rest at ≡ None
    → IsPairField n rest ⊎ IsEndField rest
pair_or_end n rest at e =
    let v = value_of rest in
    let whole = cleared (overruns rest) (fault Overrun at)
    (record_fault (Sized n) (tag_of rest) v at) e in
    ⊎_elim
    (λ two. inl
    (pair_checked n rest at whole.0 (eqb-true _ _ two)
    (sym (cond-true (tag_of rest == 2) _ _ two) ∙ whole.1)))
    (λ other.
    let three = required (tag_of rest == 3) (fault Tag at) (first_of (end_checks v at))
    (sym (cond-false (tag_of rest == 2) _ _ other) ∙ whole.1) in
    let long = cleared (differ (length v) 0) (fault FieldLength at) None three.1 in
    inr (record { whole = whole.0; tag = eqb-true _ _ three.0; long = differ_false _ _ long.0 }))
    (cases_Bool (tag_of rest == 2))

-- a front that grew by the next field, or by nothing at the end
abbrev pub GrowsFront : Stage → List StatedPair → List ℕ → Stage → Type 0
GrowsFront stage pairs rest stage' = (more : List StatedPair)
    × (front stage pairs ++ rest ≡ front stage' more ++ drop (record_length stage rest) rest)
    × FrontFits stage' more

grow_size : (pairs : List StatedPair) (rest : List ℕ) → IsSizeField rest
    → GrowsFront Start pairs rest
    (stage_next Start rest)
grow_size pairs rest h =
    let n = size_in (value_of rest) in
    let e : stage_next Start rest ≡ Sized n =
    ap (λ t. stage_after Start (record_in t (value_of rest))) h.tag in
    let four : extent rest ≡ 4 = ap (λ k. 3 + k) (sym (value_length rest h.whole) ∙ h.long) in
    rw e (
      [],
      size_bytes rest h.whole h.tag h.long ∙ ap (λ k. size_field n ++ drop k rest) (sym four),
      record { some = h.some; few = h.few; pairs_fit = tt },
    )

grow_pair : (n : ℕ) (pairs : List StatedPair) (rest : List ℕ) → AreBytes rest
    → FitsSheet (record { size = n; pairs = pairs }) → IsPairField n rest
    → GrowsFront (Sized n) pairs rest
    (stage_next (Sized n) rest)
grow_pair n pairs rest bytes s h =
    let p = pair_in (value_of rest) in
    let e : stage_next (Sized n) rest ≡ Sized n =
    ap (λ t. stage_after (Sized n) (record_in t (value_of rest))) h.tag in
    let thirteen : extent rest ≡ 13 = ap (λ k. 3 + k) (sym (value_length rest h.whole) ∙ h.long) in
    let before : List ℕ = size_field n ++ flat_map pair_field pairs in
    rw e (
      pairs ++ p ∷ [],
      ap (λ t. before ++ t) (pair_bytes rest h.whole bytes h.tag h.long)
          ∙ sym (append_assoc before (pair_field p) (drop 13 rest))
          ∙ ap (λ t. t ++ drop 13 rest) (flat_map_more pair_field (size_field n) pairs p)
          ∙ ap (λ k. (size_field n ++ flat_map pair_field (pairs ++ p ∷ [])) ++ drop k rest)
          (sym thirteen),
      record {
        some = s.some;
        few = s.few;
        pairs_fit =
            All-push (PairFits n) pairs p s.pairs_fit h.fits;
      },
    )

grow_end : (n : ℕ) (pairs : List StatedPair) (rest : List ℕ)
    → FitsSheet (record { size = n; pairs = pairs }) → IsEndField rest
    → GrowsFront (Sized n) pairs rest
    (stage_next (Sized n) rest)
grow_end n pairs rest s h =
    let e : stage_next (Sized n) rest ≡ Ended n =
    ap (λ t. stage_after (Sized n) (record_in t (value_of rest))) h.tag in
    let three : extent rest ≡ 3 = ap (λ k. 3 + k) (sym (value_length rest h.whole) ∙ h.long) in
    let before : List ℕ = size_field n ++ flat_map pair_field pairs in
    rw e (
      pairs,
      ap (λ t. before ++ t) (end_bytes rest h.whole h.tag h.long)
          ∙ sym (append_assoc before end_field (drop 3 rest))
          ∙ ap (λ t. t ++ drop 3 rest)
          (append_assoc (size_field n) (flat_map pair_field pairs) end_field)
          ∙ ap (λ k. (size_field n ++ (flat_map pair_field pairs ++ end_field)) ++ drop k rest)
          (sym three),
      s,
    )

pub grow : (stage : Stage) (pairs : List StatedPair) (rest : List ℕ) (at : ℕ) → AreBytes rest
    → FrontFits stage pairs → field_fault stage rest at ≡ None → GrowsFront stage pairs rest
    (stage_next stage rest)
grow Start pairs rest at bytes s e = grow_size pairs rest (size_next rest at e)
grow (Sized n) pairs rest at bytes s e = ⊎_elim (grow_pair n pairs rest bytes s)
    (grow_end n pairs rest s) (pair_or_end n rest at e)
grow (Ended n) pairs rest at bytes s e = (pairs, refl, s)
