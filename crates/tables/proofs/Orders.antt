-- What is told of the places of the pair tables one after the other.
-- Idea: the count from a place on is that of the place and of what is left past it, and a test of
-- all places holds at each.
use Rattle.std.proofs.Common.{◌≡◌, ℕ, ◌+◌, ◌<◌, ◌≤◌, true, if◌then◌else◌, not, ◌||◌, Bool, zip}
use Rattle.std.specs.Prelude.{slice_index, slice_index_or}
use Rattle.std.proofs.Common.{List, length, drop, ℤ, sym, ap, ◌∙◌, count_by, arith}
use Rattle.std.proofs.lemmas.List.Elements.{All-get_or}
use Rattle.std.proofs.lemmas.List.Sums.{sum_by-cons, AllPass-from_list_all}
use Rattle.std.proofs.lemmas.List.{drop_more, drop_all}
use Rattle.std.proofs.lemmas.Slice.Zip.{get_or-zip, length-zip}
use Rattle.std.proofs.lemmas.Bool.{and_parts}
use Rattle.cost.specs.declared.TheConstants.{COST_LIMIT}
use Rattle.cost.specs.Columns.{within}
use Rattle.tables.specs.PairTables.{is_place_in_order, in_order, says_stands, says_disturbed}

-- the pairs that stand from a place on
pub standing_more : (bytes : List ℕ) (k : ℕ) → k < length bytes
    → count_by says_stands (drop k bytes) ≡ (if says_stands (slice_index bytes k) then 1 else 0)
    + count_by says_stands (drop (k + 1) bytes)
standing_more bytes k h = ap (count_by says_stands) (drop_more bytes k 0 h)
    ∙ sum_by-cons (λ byte. if says_stands byte then 1 else 0) (slice_index bytes k)
    (drop (k + 1) bytes)

pub standing_all : (bytes : List ℕ) (k : ℕ) → length bytes ≤ k
    → count_by says_stands (drop k bytes) ≡ 0
standing_all bytes k h = ap (count_by says_stands) (drop_all k bytes h)

-- what tables that are in order tell of a place
pub in_order-at : {K : Type 0} (meaning : K → List ℤ) (costs : List K) (bytes : List ℕ) (d : K)
    (k : ℕ) → k < length costs → k < length bytes → in_order meaning costs bytes ≡ true
    → is_place_in_order (meaning (slice_index_or costs k d)) (slice_index bytes k) ≡ true
in_order-at {K} meaning costs bytes d k h i e =
    let test : K × ℕ → Bool = λ place. is_place_in_order (meaning place.0) place.1 in
    ap test (sym (get_or-zip costs bytes k (d, 0) h i))
    ∙ All-get_or (λ place. test place ≡ true) (zip costs bytes) k (d, 0)
    (omega (arith, length-zip costs bytes)) (AllPass-from_list_all test (zip costs bytes) e)

pub in_order_cost : (byte : ℕ) (columns : List ℤ) → is_place_in_order columns byte ≡ true
    → says_stands byte ≡ true → within COST_LIMIT columns ≡ true
in_order_cost byte columns e stands =
    ap (λ b. not b || within COST_LIMIT columns) (sym stands)
    ∙ (and_parts (not (says_disturbed byte)) (not (says_stands byte) || within COST_LIMIT columns)
    e).1
