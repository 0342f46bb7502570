-- What it means that a test passes at some number below n or at each, and that the pairs and the
-- left blocks that are left out are all left blocks.
-- Idea: at place k of the list of these numbers stands k; and a left block is either paired or left
-- out.
use Rattle.std.proofs.Common.{◌≡◌, ℕ, ◌+◌, ◌<◌, Bool, true, false, Decides, ◌⊎◌, get_or, sym, ap}
use Rattle.std.proofs.Common.{◌∙◌, inl, inr, arith}
use Rattle.std.specs.List.{list_any, list_all}
use Rattle.std.proofs.lemmas.Bool.{cases_Bool, both_ways}
use Rattle.std.proofs.lemmas.List.Folds.{Any-from_list_any, list_any_at}
use Rattle.std.proofs.lemmas.List.FromFn.{length-range_with_len, get_or-range_with_len}
use Rattle.std.proofs.lemmas.List.Sums.{AllPass-from_list_all, list_all-from_AllPass}
use Rattle.blockset.specs.Sets.{members}
use Rattle.blockset.proofs.Members.{members_all, members_split}
use Rattle.pairing.specs.Grid.{numbers}
use Rattle.pairing.specs.Largest.{pair_count}

-- the test passes at some number below n, and at each
abbrev pub some_below : ℕ → (ℕ → Bool) → Bool
some_below n t = list_any t (numbers n)

abbrev pub all_below : ℕ → (ℕ → Bool) → Bool
all_below n t = list_all t (numbers n)

number_at : (n k d : ℕ) → k < n → get_or (numbers n) k d ≡ k
number_at n k d h = get_or-range_with_len 0 n k d h ∙ omega arith

pub some_tells : (n : ℕ) (t : ℕ → Bool) → Decides (some_below n t)
    ((m : ℕ) × (m < n) × (t m ≡ true))
some_tells n t =
    let long = length-range_with_len 0 n in (
      λ e.
          let w = Any-from_list_any t (numbers n) e in
          let low : w.0 < n = omega (arith, w.2) in
          (w.1, omega (arith, w.3, number_at n w.0 w.1 low), w.4),
      λ w. list_any_at t (numbers n) w.0 0 (omega (arith, w.1))
          (ap t (number_at n w.0 0 w.1) ∙ w.2),
    )

-- some two numbers below n pass a test, or none do
pub some_two : (n : ℕ) (t : ℕ → ℕ → Bool)
    → ((x : ℕ) × (y : ℕ) × (x < n) × (y < n) × (t x y ≡ true))
    ⊎ ((x y : ℕ) → x < n → y < n → t x y ≡ false)
some_two n t =
    let outer = some_tells n (λ x. some_below n (t x)) in
    elim (cases_Bool (some_below n (λ x. some_below n (t x)))) [
      | inl e ↦
          let w = outer.0 e in
          let v = (some_tells n (t w.0)).0 w.2 in
          inl (w.0, v.0, w.1, v.1, v.2)
      | inr e ↦ inr (λ x y i j. elim (cases_Bool (t x y)) [
        | inl h ↦ absurd (both_ways _ e (outer.1 (x, i, (some_tells n (t x)).1 (y, j, h))))
        | inr f ↦ f
      ])
    ]

pub all_tells : (n : ℕ) (t : ℕ → Bool) (P : ℕ → Type 0) → ((k : ℕ) → Decides (t k) (P k))
    → Decides (all_below n t) ((k : ℕ) → k < n → P k)
all_tells n t P each =
    let long = length-range_with_len 0 n in (
      λ e k i. (each k).0 (sym (ap t (number_at n k 0 i))
          ∙ AllPass-from_list_all t (numbers n) e k 0 (omega arith)),
      λ h. list_all-from_AllPass t (numbers n) (λ k d i.
          let low : k < n = omega arith in
          ap t (number_at n k d low) ∙ (each k).1 (h k low)),
    )

-- the pairs and the left blocks that are left out are n together
pub pairs_and_out : (n : ℕ) (out : ℕ → Bool) → pair_count n out + members n out ≡ n
pairs_and_out n out = omega (arith, members_all n, members_split n (λ _. true) out)
