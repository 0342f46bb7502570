-- The pairs that `save` writes are the standing ones, each once.
-- Idea: they are taken from the places one after another, and a place tells its pair. So a pair of
-- blocks is named at its own place and at no other, and there exactly if it stands.
use Rattle.std.proofs.Common.{◌≡◌, ℕ, zero, suc, ◌+◌, ◌/◌, ◌%◌, ◌<◌, ◌≤◌, Bool, true, false}
use Rattle.std.proofs.Common.{if◌then◌else◌, ◌&&◌, ◌==◌, List, [], ◌∷◌, ◌++◌, length, drop}
use Rattle.std.proofs.Common.{slice_index, slice_index_or, ℤ, pos, negsuc, Some, None, sym}
use Rattle.std.proofs.Common.{refl, ap, ◌∙◌, ⊎_elim, append_assoc, add-zero, count_by, arith}
use Rattle.std.proofs.ByRecursion.{All-append}
use Rattle.std.proofs.lemmas.Nat.{div-add-mod', div_below, mod_below, mul-add-lt}
use Rattle.std.proofs.lemmas.Bool.{cond-true}
use Rattle.std.proofs.lemmas.Bool.Decides.{nat_tests, eqb_tells, same_from_decides, Decides-and}
use Rattle.std.proofs.lemmas.Bool.Decides.{Decides-eqb, Decides-like}
use Rattle.std.proofs.lemmas.List.{length-append}
use Rattle.std.proofs.lemmas.List.Sums.{sum_by-append, sum_by-cons}
use Rattle.std.specs.List.{AllByRecursion}
use Rattle.cost.specs.Columns.{rail_of}
use Rattle.cost.specs.declared.TheConstants.{COST_LIMIT}
use Rattle.cost.specs.declared.plain_kind.Plain.{Plain}
use Rattle.tables.specs.PairTables.{says_stands, byte_of}
use Rattle.pairing.specs.Places.{place_of, places_of}
use Rattle.tables.proofs.Orders.{in_order-at, in_order_cost, standing_more, standing_all}
use Rattle.tables.proofs.Cells.{place_left, place_right}
use Rattle.orderfile.specs.declared.record.StatedPair.{StatedPair}
use Rattle.orderfile.specs.Loading.{plain, plain_kind, names_blocks}
use Rattle.orderfile.specs.Saving.{plain_in_order, times, StandsAtCost, AreStandingPairs, pair_at}
use Rattle.orderfile.specs.Saving.{pairs_at, pairs_listed}
use Rattle.std.proofs.Common.{nat_le, unsigned_abs}

-- how often a list of pairs names two blocks, part by part
times-append : (l r : ℕ) (ps qs : List StatedPair)
    → times l r (ps ++ qs) ≡ times l r ps + times l r qs
times-append l r = sum_by-append (λ q. if names_blocks l r q then 1 else 0)

pub times-cons : (l r : ℕ) (p : StatedPair) (ps : List StatedPair)
    → times l r (p ∷ ps) ≡ (if names_blocks l r p then 1 else 0) + times l r ps
times-cons l r = sum_by-cons (λ q. if names_blocks l r q then 1 else 0)

-- a list of one pair or none
times_if : (l r : ℕ) (b : Bool) (p : StatedPair) → times l r (if b then p ∷ [] else [])
    ≡ (if b && names_blocks l r p then 1 else 0)
times_if l r true p = omega arith
times_if l r false p = refl

length_if : (b : Bool) (p : StatedPair) → length (if b then p ∷ [] else [])
    ≡ (if b then 1 else 0)
length_if true p = refl
length_if false p = refl

all_if : (P : StatedPair → Type 0) (b : Bool) (p : StatedPair) → (b ≡ true → P p)
    → AllByRecursion P (if b then p ∷ [] else [])
all_if P true p h = (h refl, tt)
all_if P false p h = tt

module _ (n : ℕ) (costs : List Plain) (standing : List ℕ) where
  listed : ℕ → ℕ → List StatedPair
  listed = pairs_listed n costs standing

  -- the pairs of some places and then of those behind them
  pub listed_append : (k m j : ℕ) → pairs_listed n costs standing k (m + j)
      ≡ pairs_listed n costs standing k m ++ pairs_listed n costs standing (k + m) j
  unfolding listed
  listed_append k zero j =
      let none : 0 + j ≡ j = omega arith in
      ap (listed k) none ∙ ap (λ i. listed i j) (sym (add-zero k))
  listed_append k (suc m) j =
      let there : (k + 1) + m ≡ k + suc m = omega arith in
      let all : suc m + j ≡ suc (m + j) = omega arith in
      ap (listed k) all
      ∙ ap (λ t. pairs_at n costs standing k ++ t) (listed_append (k + 1) m j
      ∙ ap (λ i. listed (k + 1) m ++ listed i j) there)
      ∙ sym (append_assoc (pairs_at n costs standing k) (listed (k + 1) m) (listed (k + suc m) j))

  -- how many there are
  pub pairs_listed_count : (k m : ℕ) → k + m ≡ length standing
      → length (pairs_listed n costs standing k m) ≡ count_by says_stands (drop k standing)
  pairs_listed_count k zero e = sym (standing_all standing k (omega arith))
  pairs_listed_count k (suc m) e =
      length-append (pairs_at n costs standing k) (pairs_listed n costs standing (k + 1) m)
      ∙ omega (
        arith,
        length_if (says_stands (slice_index standing k)) (pair_at n costs k),
        pairs_listed_count (k + 1) m (omega arith),
        standing_more standing k (omega arith),
      )

  -- the pair at a place is that of two blocks exactly if the place is theirs
  named_at : (k l r : ℕ) → r < n → names_blocks l r (pair_at n costs k) ≡ (k == place_of n l r)
  named_at k l r hr = same_from_decides _ _
      (Decides-like _
      (λ both. sym (div-add-mod' k n) ∙ ap (λ x. place_of n x (k % n)) both.0
      ∙ ap (place_of n l) both.1)
      (λ here. (
        ap (λ j. j / n) here ∙ place_left n l r hr,
        ap (λ j. j % n) here ∙ place_right n l r hr,
      ))
      (Decides-and _ _ (Decides-eqb (k / n) l) (Decides-eqb (k % n) r)))
      (Decides-eqb k (place_of n l r))

  module _ (l r : ℕ) (hr : r < n) where
    here : ℕ
    here = place_of n l r

    named_next : (k m : ℕ) → times l r (pairs_listed n costs standing k (suc m))
        ≡ (if says_stands (slice_index standing k) && k == here then 1 else 0)
        + times l r (pairs_listed n costs standing (k + 1) m)
    unfolding here
    named_next k m = times-append l r (pairs_at n costs standing k) _
        ∙ ap (λ t. t + times l r (pairs_listed n costs standing (k + 1) m))
        (times_if l r (says_stands (slice_index standing k)) (pair_at n costs k)
        ∙ ap (λ b. if says_stands (slice_index standing k) && b then 1 else 0)
        (named_at k l r hr))

    -- places behind the pair's do not name it
    named_not : (k m : ℕ) → here < k → times l r (pairs_listed n costs standing k m) ≡ 0
    named_not k zero h = refl
    named_not k (suc m) h =
        let next = named_next k m in
        let rest = named_not (k + 1) m (omega arith) in
        grind (arith, nat_tests)

    -- places up to the pair's and on name it once, if it stands
    pub named_once : (k m : ℕ) → k ≤ place_of n l r → place_of n l r < k + m
        → times l r (pairs_listed n costs standing k m)
        ≡ (if says_stands (byte_of n standing l r) then 1 else 0)
    unfolding here
    named_once k zero low high = absurd (omega arith)
    named_once k (suc m) low high =
        let next = named_next k m in
        ⊎_elim
        (λ same. let none = named_not (k + 1) m (omega (arith, same.1)) in
        let byte : says_stands (slice_index standing k) ≡ says_stands (byte_of n standing l r) =
        ap (λ j. says_stands (slice_index standing j)) same.1 in
        grind (arith, nat_tests, same.0))
        (λ other. let rest = named_once (k + 1) m (omega (arith, other.1)) (omega arith) in
        grind (arith, nat_tests, other.0))
        (eqb_tells k (place_of n l r))

-- a plain cost that its kind finds within the limit is a number within it
small : (z : ℤ) → (nat_le (unsigned_abs (rail_of z)) COST_LIMIT && true) ≡ true
    → unsigned_abs z ≤ COST_LIMIT
small (pos k) e = grind (arith, nat_tests)
small (negsuc k) e = grind (arith, nat_tests)

module _ (n : ℕ) (some : 1 ≤ n) (costs : List Plain) (standing : List ℕ)
    (ec : length costs ≡ places_of n) (eb : length standing ≡ places_of n)
    (good : plain_in_order costs standing ≡ true) where
  standing_at : (k : ℕ) → k < places_of n → says_stands (slice_index standing k) ≡ true
      → StandsAtCost n costs standing (pair_at n costs k)
  standing_at k h stands =
      let cost = slice_index_or costs k (plain (pos 0)) in
      let fine = in_order-at plain_kind.meaning costs standing (plain (pos 0)) k (omega arith)
      (omega arith) good in
      record {
        fits = record {
          left_below = div_below k n n (omega arith) h;
          right_below = mod_below k n (omega arith);
          cost_within = small cost.0
              (in_order_cost (slice_index standing k) (plain_kind.meaning cost) fine stands);
        };
        stands = ap (λ j. if says_stands (slice_index standing j)
            then Some (slice_index_or costs j (plain (pos 0))) else None) (div-add-mod' k n)
            ∙ cond-true _ _ _ stands;
      }

  only_standing : (k m : ℕ) → k + m ≤ places_of n
      → AllByRecursion (StandsAtCost n costs standing) (pairs_listed n costs standing k m)
  only_standing k zero h = tt
  only_standing k (suc m) h = All-append (StandsAtCost n costs standing)
      (pairs_at n costs standing k) _
      (all_if _ (says_stands (slice_index standing k)) (pair_at n costs k)
      (standing_at k (omega arith))) (only_standing (k + 1) m (omega arith))

  pub names_all : AreStandingPairs n costs standing
      (pairs_listed n costs standing 0 (places_of n))
  names_all = record {
    once = λ l r hl hr. named_once n costs standing l r hr 0 (places_of n) (omega arith)
        (omega (arith, mul-add-lt l n r n hl hr));
    only = only_standing 0 (places_of n) (omega arith);
  }
