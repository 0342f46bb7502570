-- Filling rows of right blocks by a test: one row, a right block after the other, and the rows of a
-- table, a row after the other.
-- Idea: a right block is put in just if it passes, so the row is right one right block further. A
-- row is filled from its part of each table, in which right block r stands at place r.
use Rattle.std.specs.Prelude.{◌≡◌, ℕ, ◌+◌, ◌-◌, ◌*◌, ◌<◌, ◌≤◌, Bool, ◌&&◌, ◌||◌, ◌==◌, List, []}
use Rattle.std.specs.Prelude.{nat_lt, map, length, slice_index_or, take, drop, slice_set}
use Rattle.std.proofs.Common.{sym, ap, ◌∙◌, inl, inr, add-mul, one-mul, arith}
use Rattle.std.proofs.lemmas.List.{get_or-set_same, get_or-set_other, get_or-take, get_or-drop}
use Rattle.std.proofs.lemmas.List.{get_or-map, take-map, drop-map, length-map, length-take}
use Rattle.std.proofs.lemmas.List.{length-drop}
use Rattle.std.proofs.lemmas.Nat.{mul-le}
use Rattle.std.proofs.lemmas.Bool.Decides.{nat_tests}
use Rattle.std.proofs.lemmas.Bool.{cases_eq, cases_lt, le-ltb}
use Rattle.cost.specs.declared.Cost.{Ghosts}
use Rattle.blockset.specs.declared.BlockSet.{BlockSet}
use Rattle.blockset.specs.Has.{has}
use Rattle.pairing.specs.Places.{place_of, places_of, rights_of}
use Rattle.pairing.specs.Rows.{holds}
use Rattle.tables.specs.PairTables.{part_of}
use Rattle.tables.specs.Said.{columns_at}
use Rattle.tables.specs.PairRows.{HoldsPassing}

-- ---- One row

pub put_if : (row new : BlockSet) (k : ℕ) (test : ℕ → Bool) (wanted : Bool)
    → HoldsPassing k test row → wanted ≡ test k
    → ((j : ℕ) → has new j ≡ ((wanted && j == k) || has row j)) → HoldsPassing (k + 1) test new
put_if row new k test wanted filled is put j = put j ∙ ap (λ x. (wanted && j == k) || x) (filled j)
    ∙ step
  where
    step : ((wanted && j == k) || (nat_lt j k && test j)) ≡ (nat_lt j (k + 1) && test j)
    step = elim (cases_eq j k) [
      | inl e ↦ (let p : test j ≡ wanted = ap test e ∙ sym is in grind (arith, nat_tests))
      | inr ne ↦ grind (arith, nat_tests)
    ]

-- tests that agree on the right blocks there are
pub passing_like : (rights : ℕ) (a b : ℕ → Bool) (row : BlockSet)
    → ((r : ℕ) → r < rights → a r ≡ b r) → HoldsPassing rights a row → HoldsPassing rights b row
passing_like rights a b row same made r = made r ∙ elim (cases_lt r rights) [
  | inl l ↦ ap (λ x. nat_lt r rights && x) (same r l)
  | inr l ↦ let f = le-ltb r rights l in ap (λ x. x && a r) f ∙ sym (ap (λ x. x && b r) f)
]

-- ---- The rows of a table

-- the rows below k hold what they have to
abbrev pub Made : (k rights : ℕ) → (ℕ → ℕ → Bool) → List BlockSet → Type 0
Made k rights test rows = (l r : ℕ) → l < k → holds rows l r ≡ (nat_lt r rights && test l r)

-- one row more
pub row_made : (rights l : ℕ) (test : ℕ → ℕ → Bool) (rows : List BlockSet) (row : BlockSet)
    → l < length rows → Made l rights test rows → HoldsPassing rights (test l) row
    → Made (l + 1) rights test (slice_set rows l row)
row_made rights l test rows row inside made filled m r below = elim (cases_eq m l) [
  | inl e ↦
      ap (λ k. holds (slice_set rows l row) k r) e
      ∙ ap (λ s. has s r) (get_or-set_same rows l row _ inside)
      ∙ filled r ∙ ap (λ k. nat_lt r rights && test k r) (sym e)
  | inr ne ↦ ap (λ s. has s r) (get_or-set_other rows l m row _ ne) ∙ made m r (omega arith)
]

-- ---- The part of a table that belongs to left block l

module _ {X : Type 0} (n l : ℕ) (table : List X) (inside : l < n)
    (whole : length table ≡ places_of n) where
  pub part_end : l * n + n ≤ length table
  part_end = let h : (l + 1) * n ≤ n * n = mul-le (l + 1) n n n (omega arith) (omega arith) in
      omega (arith, add-mul l 1 n, one-mul n)

  pub length-part_of : length (part_of n l table) ≡ rights_of n
  length-part_of = simp (length-take, length-drop) (omega (arith, part_end))

  pub part_at : (r : ℕ) (d : X) → r < rights_of n
      → slice_index_or (part_of n l table) r d ≡ slice_index_or table (place_of n l r) d
  part_at r d below = get_or-take n (drop (l * n) table) r d (omega arith)
      ∙ get_or-drop (l * n) table r d

  -- a slice with these bounds is this part
  pub slice_is_part : take (l * n + n - l * n) (drop (l * n) table) ≡ part_of n l table
  slice_is_part = ap (λ k. take k (drop (l * n) table)) (omega arith)

pub row_length : {X : Type 0} (table : List X) (n l : ℕ) → l < n → length table ≡ places_of n
    → length (take (l * n + n - l * n) (drop (l * n) table)) ≡ n
row_length table n l inside whole = ap length (slice_is_part n l table inside whole)
    ∙ length-part_of n l table inside whole

module _ {K : Type 0} (kind : Ghosts K) (table : List K) where
  -- a value that was read from a table
  pub value_at : (k : ℕ) (x : K) → k < length table → x ≡ slice_index_or table k x
      → kind.meaning x ≡ columns_at kind table k
  value_at k x h e = ap kind.meaning e ∙ sym (get_or-map kind.meaning table k x [] h)

  -- the columns of the values in a part
  pub columns_at-part_of : (n l : ℕ) → l < n → length table ≡ places_of n → (r : ℕ)
      → r < rights_of n
      → columns_at kind (part_of n l table) r ≡ columns_at kind table (place_of n l r)
  columns_at-part_of n l inside whole r below =
      ap (λ ys. slice_index_or ys r []) (sym (take-map kind.meaning n (drop (l * n) table))
      ∙ ap (take n) (sym (drop-map kind.meaning (l * n) table)))
      ∙ part_at n l (map kind.meaning table) inside (length-map table kind.meaning ∙ whole) r []
      below

  pub columns_at_lem : (n l : ℕ) → l < n → length table ≡ places_of n → (r : ℕ) → r < rights_of n
      → columns_at kind (take (l * n + n - l * n) (drop (l * n) table)) r
      ≡ columns_at kind table (place_of n l r)
  columns_at_lem n l inside whole r below =
      ap (λ ys. columns_at kind ys r) (slice_is_part n l table inside whole)
      ∙ columns_at-part_of n l inside whole r below
