-- Writing fields into a buffer, one behind the other.
-- Idea: the buffer is always what was written so far followed by the rest of what it held at first;
-- the next bytes take the place of the front of that rest. The pairs of some places and of those
-- behind them are the pairs of all these places, so a loop over places says at each turn what it
-- says at its end.
use Rattle.std.proofs.Common.{◌≡◌, ℕ, ◌+◌, ◌-◌, ◌<◌, ◌≤◌, true, false, List, [], ◌∷◌, ◌++◌}
use Rattle.std.proofs.Common.{if◌then◌else◌, length, slice_index, take, drop, sym, ap, ◌∙◌}
use Rattle.std.proofs.Common.{append_assoc, append-nil, arith}
use Rattle.std.proofs.lemmas.List.{drop-drop, drop_at, take_at, length-append, length-take-le}
use Rattle.std.proofs.lemmas.List.{take-append-drop}
use Rattle.std.proofs.lemmas.Grind.{flat_map-append}
use Rattle.std.specs.List.{flat_map}
use Rattle.cost.specs.declared.plain_kind.Plain.{Plain}
use Rattle.pairing.specs.Places.{place_of, places_of}
use Rattle.tables.specs.PairTables.{says_stands}
use Rattle.tables.proofs.Cells.{place_below}
use Rattle.orderfile.specs.Format.{pair_field}
use Rattle.orderfile.specs.Saving.{pair_at, pairs_listed}
use Rattle.orderfile.proofs.Listed.{listed_append}

-- bytes written behind what was written before
pub put_behind : (done bytes out₀ out out' : List ℕ) (at at' : ℕ) → out ≡ done ++ drop at out₀
    → length done ≡ at → at' ≡ at + length bytes
    → out' ≡ take at out ++ (bytes ++ drop at' out) → out' ≡ (done ++ bytes) ++ drop at' out₀
put_behind done bytes out₀ out out' at at' held long far e =
    let front : take at out ≡ done = ap (take at) held ∙ take_at done (drop at out₀) at long in
    let rest : drop at' out ≡ drop at' out₀ =
    ap (λ k. drop k out) far ∙ sym (drop-drop (length bytes) at out) ∙ ap (drop (length bytes))
    (ap (drop at) held ∙ drop_at done (drop at out₀) at long)
    ∙ drop-drop (length bytes) at out₀ ∙ ap (λ k. drop k out₀) (sym far) in
    e ∙ ap (λ t. t ++ (bytes ++ drop at' out)) front ∙ ap (λ t. done ++ (bytes ++ t)) rest
    ∙ sym (append_assoc done bytes (drop at' out₀))

-- the same of bytes that the buffer held back then and that stand before what is written now
pub put_next : (xs ys out₀ out out' : List ℕ) (at p q : ℕ) → at ≤ length out₀
    → out ≡ take at out₀ ++ (xs ++ drop p out₀) → p ≡ at + length xs
    → out' ≡ take p out ++ (ys ++ drop q out) → q ≡ p + length ys
    → out' ≡ take at out₀ ++ ((xs ++ ys) ++ drop q out₀)
put_next xs ys out₀ out out' at p q inside e here e' there =
    put_behind (take at out₀ ++ xs) ys out₀ out out' p q
    (e ∙ sym (append_assoc (take at out₀) xs (drop p out₀)))
    (length-append (take at out₀) xs ∙ ap (λ k. k + length xs) (length-take-le at out₀ inside)
    ∙ sym here) there e'
    ∙ ap (λ t. t ++ drop q out₀) (append_assoc (take at out₀) xs ys)
    ∙ append_assoc (take at out₀) (xs ++ ys) (drop q out₀)

module _ (n : ℕ) (costs : List Plain) (standing : List ℕ) where
  -- the bytes of the standing pairs of m places from place k on
  abbrev pub bytes_of : ℕ → ℕ → List ℕ
  bytes_of k m = flat_map pair_field (pairs_listed n costs standing k m)

  -- those of one place
  pub bytes_of_one : (k : ℕ) → says_stands (slice_index standing k) ≡ true
      → bytes_of k 1 ≡ pair_field (pair_at n costs k)
  bytes_of_one k e =
      ap (λ b. flat_map pair_field ((if b then pair_at n costs k ∷ [] else []) ++ [])) e

  pub bytes_of_none : (k : ℕ) → says_stands (slice_index standing k) ≡ false → bytes_of k 1 ≡ []
  bytes_of_none k e =
      ap (λ b. flat_map pair_field ((if b then pair_at n costs k ∷ [] else []) ++ [])) e

  bytes_append : (k m j : ℕ) → bytes_of k (m + j) ≡ bytes_of k m ++ bytes_of (k + m) j
  bytes_append k m j = ap (flat_map pair_field) (listed_append n costs standing k m j)
      ∙ flat_map-append pair_field (pairs_listed n costs standing k m)
      (pairs_listed n costs standing (k + m) j)

  bytes_length : (k m j : ℕ) → length (bytes_of k (m + j))
      ≡ length (bytes_of k m) + length (bytes_of (k + m) j)
  bytes_length k m j = ap length (bytes_append k m j)
      ∙ length-append (bytes_of k m) (bytes_of (k + m) j)

  module _ (out₀ : List ℕ) (start first : ℕ) where
    -- what a loop over places has done: from an offset on the pairs of the first m places from
    -- `first` on are written
    pub record HasWritten (m at : ℕ) (out : List ℕ) : Type 0 where
      pub behind : at ≡ start + length (bytes_of first m)
      pub writes : out ≡ (take start out₀ ++ bytes_of first m) ++ drop at out₀

    -- none at first
    pub writes_none : HasWritten 0 start out₀
    writes_none = record {
      behind = omega arith;
      writes = sym (ap (λ t. t ++ drop start out₀)
          (append-nil (take start out₀)) ∙ take-append-drop start out₀);
    }

    module _ (m at : ℕ) (out : List ℕ) (w : HasWritten m at out) (j : ℕ) where
      -- there is room for the pairs of the next places, if there is for those of all
      pub room_next : (all : ℕ) → m + j ≤ all → start + length (bytes_of first all) ≤ length out₀
          → at + length (bytes_of (first + m) j) ≤ length out₀
      room_next all h room =
          let rest : all ≡ (m + j) + (all - (m + j)) = omega arith in
          omega (
            arith,
            ap (λ i. length (bytes_of first i)) rest,
            bytes_length first (m + j) (all - (m + j)),
            bytes_length first m j,
            w.behind,
            room,
          )

      -- these pairs are written too
      pub writes_next : start ≤ length out₀ → (more : List ℕ) → more ≡ bytes_of (first + m) j
          → (at' : ℕ) (out' : List ℕ) → at' ≡ at + length more
          → out' ≡ take at out ++ (more ++ drop at' out) → HasWritten (m + j) at' out'
      writes_next inside more these at' out' far put =
          let before = take start out₀ in
          record {
            behind = omega (arith, far, ap length these, w.behind, bytes_length first m j);
            writes = put_behind (before ++ bytes_of first m) more out₀ out out' at at' w.writes
                (length-append before (bytes_of first m)
                ∙ omega (arith, w.behind, length-take-le start out₀ inside)) far put
                ∙ ap (λ t. t ++ drop at' out₀) (append_assoc before (bytes_of first m) more
                ∙ ap (λ t. before ++ (bytes_of first m ++ t)) these
                ∙ ap (λ t. before ++ t) (sym (bytes_append first m j)));
          }

-- a row lies within the places
pub row_inside : (n left : ℕ) → left < n → place_of n left 0 + n ≤ places_of n
row_inside n left h =
    let last : (n - 1) < n = omega arith in
    omega (arith, place_below n left (n - 1) h last)
