-- What saving promises, once it is known whether it refuses and what it wrote; and why a saved file
-- loads as the same sheet.
-- Idea: the file states an order, so loading shows in each cell what the pairs state. A pair of
-- blocks that stands is named once, at its cost, and one that is absent is not named, so that is
-- what the cell held.
use Rattle.std.proofs.Common.{◌≡◌, ℕ, ◌+◌, ◌*◌, ◌<◌, ◌≤◌, Bool, not, ◌&&◌}
use Rattle.std.proofs.Common.{◌⊎◌, List, [], ◌∷◌, ◌++◌, length, take, drop, ℤ, Some, None, Ok}
use Rattle.std.proofs.Common.{Err, Result, sym, refl, ap, ◌∙◌, inl, inr, ⊎_elim}
use Rattle.std.proofs.Common.{count_by, nat_lt, arith}
use Rattle.std.proofs.ByRecursion.{All-weaker}
use Rattle.std.proofs.lemmas.List.{length-append, take_at}
use Rattle.std.proofs.lemmas.Int.{ints, clamps}
use Rattle.std.proofs.lemmas.Bool.{cases_Bool, cond-true, cond-false, and_parts, eqb-true}
use Rattle.std.proofs.lemmas.Bool.{not-false}
use Rattle.std.specs.Int.{int_max}
use Rattle.std.specs.Option.{option_map}
use Rattle.std.specs.List.{flat_map, AllByRecursion}
use Rattle.cost.specs.declared.plain_kind.Plain.{Plain}
use Rattle.pairing.specs.Inside.{AreSameInside}
use Rattle.pairing.specs.Places.{places_of}
use Rattle.tables.specs.PairTables.{HavePlaces, have_places, says_stands, byte_of}
use Rattle.tables.proofs.Lengths.{places_told}
use Rattle.sheet.specs.declared.fault.Cause.TheVariants.{TableLength, Inconsistent, ShortBuffer}
use Rattle.sheet.specs.declared.fault.Fault.{Fault}
use Rattle.sheet.specs.Refusals.{fault, first_of}
use Rattle.sheet.proofs.Refused.{refused, accepted, cleared}
use Rattle.orderfile.specs.declared.format.TheConstants.{SIZE_FIELD, PAIR_FIELD, END_FIELD}
use Rattle.orderfile.specs.declared.record.StatedPair.{StatedPair}
use Rattle.orderfile.specs.Format.{StatedOrder, PairFits, States, pair_field, end_field, size_field}
use Rattle.orderfile.specs.Format.{file_of}
use Rattle.orderfile.specs.Loading.{plain, plain_cell, plain_grid, stated_cost}
use Rattle.orderfile.specs.Loading.{stated_grid}
use Rattle.orderfile.proofs.Grids.{same_grid}
use Rattle.orderfile.proofs.Listed.{pairs_listed_count, times-cons}
use Rattle.orderfile.specs.Saving.{saved_length, plain_in_order, save_refusal, pairs_listed, times}
use Rattle.orderfile.specs.Saving.{StandsAtCost, AreStandingPairs, HoldsFile, Reloads, IsSaved}
use Rattle.std.proofs.Common.{◌==◌}
use Rattle.blockset.specs.declared.TheConstants.{MOST_BLOCKS}

-- what pairs that stand state of l and r: nothing where they name it never, else what the cell
-- holds
stated_is : (n : ℕ) (costs : List Plain) (standing : List ℕ) (l r : ℕ) (ps : List StatedPair)
    → AllByRecursion (StandsAtCost n costs standing) ps
    → ((stated_cost ps l r ≡ None) × (times l r ps ≡ 0))
    ⊎ ((z : ℤ) × (stated_cost ps l r ≡ Some z)
    × (plain_cell n costs standing l r ≡ Some (plain z)))
stated_is n costs standing l r [] s = inl (refl, refl)
stated_is n costs standing l r (p ∷ ps) s =
    ⊎_elim
    (λ none. ⊎_elim
    (λ yes'. let both = and_parts (p.left == l) (p.right == r) yes' in
    inr (
      p.cost,
      rw (none.0, yes'),
      rw (← eqb-true _ _ both.0, ← eqb-true _ _ both.1) s.0.stands,
    ))
    (λ no'. inl (rw (none.0, no'), rw (times-cons l r p ps, no') (omega (arith, none.1))))
    (cases_Bool (p.left == l && p.right == r)))
    (λ some. ⊎_elim
    (λ yes'. let both = and_parts (p.left == l) (p.right == r) yes' in
    let here : plain_cell n costs standing l r ≡ Some (plain p.cost) =
    rw (← eqb-true _ _ both.0, ← eqb-true _ _ both.1) s.0.stands in
    let both_stand : plain p.cost ≡ plain some.0 = let e = sym here ∙ some.2 in cc in
    let same : p.cost ≡ some.0 = ap (λ x. x.0) both_stand in
    let once : int_max p.cost p.cost ≡ p.cost = omega (arith, ints, clamps) in
    inr (p.cost, rw (yes', some.1, ← same, once), here))
    (λ no'. inr (some.0, rw (no', some.1), some.2))
    (cases_Bool (p.left == l && p.right == r)))
    (stated_is n costs standing l r ps s.1)

pub names_stated : (n : ℕ) (costs : List Plain) (standing : List ℕ) (pairs : List StatedPair)
    → AreStandingPairs n costs standing pairs → (l r : ℕ) → l < n → r < n
    → option_map plain (stated_cost pairs l r) ≡ plain_cell n costs standing l r
names_stated n costs standing pairs names l r hl hr =
    ⊎_elim
    (λ none. ap (option_map plain) none.0 ∙ sym (⊎_elim
    (λ yes'. let one : times l r pairs ≡ 1 = names.once l r hl hr ∙ cond-true _ _ _ yes' in
    absurd (omega (arith, none.1, one)))
    (λ no'. cond-false _ _ _ no')
    (cases_Bool (says_stands (byte_of n standing l r)))))
    (λ some. ap (option_map plain) some.1 ∙ sym some.2)
    (stated_is n costs standing l r pairs names.only)

-- the bytes of the listed pairs, by the number of those that stand
joined_length : (ps : List StatedPair) → length (flat_map pair_field ps) ≡ PAIR_FIELD * length ps
joined_length [] = refl
joined_length (p ∷ ps) =
    length-append (pair_field p) (flat_map pair_field ps) ∙ omega (arith, joined_length ps)

pub listed_length : (n : ℕ) (costs : List Plain) (standing : List ℕ)
    → length standing ≡ places_of n
    → length (flat_map pair_field (pairs_listed n costs standing 0 (places_of n)))
    ≡ PAIR_FIELD * count_by says_stands standing
listed_length n costs standing eb = joined_length (pairs_listed n costs standing 0 (places_of n))
    ∙ ap (λ k. PAIR_FIELD * k) (pairs_listed_count n costs standing 0 (places_of n) (omega arith))

pub file_length : (n : ℕ) (ps : List StatedPair)
    → length (file_of (record { size = n; pairs = ps }))
    ≡ SIZE_FIELD + length (flat_map pair_field ps) + END_FIELD
file_length n ps = length-append (size_field n) (flat_map pair_field ps ++ end_field)
    ∙ omega (arith, length-append (flat_map pair_field ps) end_field)

-- whether saving is refused, by its three tests
module _ (n : ℕ) (costs : List Plain) (standing : List ℕ) (room : ℕ) where
  pub refusal_is : (a b c : Bool) → not (have_places n (length costs) (length standing)) ≡ a
      → not (plain_in_order costs standing) ≡ b → nat_lt room (saved_length standing) ≡ c
      → save_refusal n costs standing room ≡ first_of ((a, fault TableLength 0)
      ∷ (b, fault Inconsistent 0) ∷ (c, fault ShortBuffer 0) ∷ [])
  unfolding save_refusal
  refusal_is a b c ea eb ec = cc

  save_places : save_refusal n costs standing room ≡ None
      → HavePlaces n (length costs) (length standing)
  unfolding save_refusal
  save_places e =
      places_told n (length costs) (length standing)
      (not-false _ (cleared (not (have_places n (length costs) (length standing))) _ _ e).0)

-- two grids of tables that are each the same inside as a third
same_as_third : (n : ℕ) (costs costs' : List Plain) (standing standing' : List ℕ) (order :
    StatedOrder)
    → AreSameInside (plain_grid n costs standing) (stated_grid order)
    → AreSameInside (plain_grid n costs' standing') (stated_grid order)
    → AreSameInside (plain_grid n costs' standing') (plain_grid n costs standing)
same_as_third n costs costs' standing standing' order a b = record {
  size = refl;
  columns = refl;
  stands = λ l r i j. b.stands l r i j ∙ sym (a.stands l r i j);
  cost = λ l r i j k. b.cost l r i j k
      ∙ sym (a.cost l r i j (a.stands l r i j ∙ sym (b.stands l r i j) ∙ k));
}

module _ (n : ℕ) (some : 1 ≤ n) (few : n ≤ MOST_BLOCKS) (costs : List Plain)
    (standing out : List ℕ) where
  reloads : (out' : List ℕ) → length costs ≡ places_of n → HoldsFile n costs standing out out'
      → Reloads n costs standing (take (saved_length standing) out')
  reloads out' long w costs₀ standing₀ r costs' standing' fit h =
      let order : StatedOrder = record { size = n; pairs = w.pairs } in
      let states : States (take (saved_length standing) out') order = record {
        is_file = ap (take (saved_length standing)) w.file ∙ take_at (file_of order)
            (drop (saved_length standing) out) (saved_length standing) w.long;
        fits = record {
          some = some;
          few = few;
          pairs_fit =
              All-weaker (StandsAtCost n costs standing) (PairFits n) (λ p s. s.fits) w.pairs
              w.names.only;
        };
      } in
      let accepts = h.loads order states fit in
      let named = names_stated n costs standing w.pairs w.names in (
        accepts.answers,
        λ l m hl hm. accepts.shows l m hl hm ∙ named l m hl hm,
        same_as_third n costs costs' standing standing' order
            (same_grid order states.fits.pairs_fit costs standing long
            (λ l m hl hm. sym (named l m hl hm))) accepts.grid,
      )

  pub saved : (r : Result ℕ Fault) (out' : List ℕ) → save_refusal n costs standing
      (length out) ≡ None → r ≡ Ok (saved_length standing) → HoldsFile n costs standing out out'
      → IsSaved n costs standing out r out'
  saved r out' e er w = record {
    answers = er ∙ accepted _ _ e;
    stays = λ f s. cc;
    writes = λ _. w;
    reloads = λ _. reloads out' (save_places n costs standing (length out) e).costs w;
  }

  pub not_saved : (f : Fault) (r : Result ℕ Fault) (out' : List ℕ) → save_refusal n costs standing
      (length out) ≡ Some f → r ≡ Err f → out' ≡ out → IsSaved n costs standing out r out'
  not_saved f r out' e er same = record {
    answers = er ∙ refused _ _ _ e;
    stays = λ g s. same;
    writes = λ s. cc;
    reloads = λ s. cc;
  }
