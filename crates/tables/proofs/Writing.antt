-- Pair tables stay in order where one pair is written, and tables in which no pair stands are in
-- order.
-- Idea: at the pair's place stand the new byte and the new cost, and everywhere else what stood
-- there before.
use Rattle.std.specs.Prelude.{◌≡◌, ℕ, ◌<◌, true, false, List, [], map, length, ℤ, replicate}
use Rattle.std.specs.Prelude.{slice_index, slice_index_or, slice_set}
use Rattle.std.proofs.Common.{sym, ap, ◌∙◌, subst, ⊎_elim, arith}
use Rattle.std.proofs.lemmas.List.{length-map, map-set, get_or-replicate, get_or-set_other}
use Rattle.std.proofs.lemmas.Grind.{get_or-set_at}
use Rattle.std.proofs.lemmas.Bool.{cases_eq, false≢true}
use Rattle.cost.specs.declared.Cost.{Ghosts}
use Rattle.cost.specs.declared.TheConstants.{COST_LIMIT}
use Rattle.cost.specs.Columns.{AreWithin}
use Rattle.tables.specs.PairTables.{says_stands, says_disturbed}
use Rattle.tables.specs.Said.{columns_at, IsInOrder}

-- a byte and a cost beside it, written at one place
module _ {K : Type 0} (kind : Ghosts K) (places : ℕ) (costs : List K) (standing : List ℕ)
    (costs_long : length costs ≡ places) (standing_long : length standing ≡ places)
    (at byte : ℕ) (cost : K) where
  -- what holds of them, and held of each place, holds of each place afterwards
  each_still : (P : List ℤ → ℕ → Type 0) → P (kind.meaning cost) byte
      → ((k : ℕ) → k < places → P (columns_at kind costs k) (slice_index standing k))
      → (k : ℕ) → k < places
      → P (columns_at kind (slice_set costs at cost) k) (slice_index (slice_set standing at byte) k)
  each_still P new old k h = ⊎_elim
      (λ here. subst (λ p. P p.0 p.1) (same (kind.meaning cost) byte
      (get_or-set_at (map kind.meaning costs) at k (kind.meaning cost) [] here
      (omega (arith, length-map costs kind.meaning)))
      (get_or-set_at standing at k byte 0 here (omega arith))) new)
      (λ there. subst (λ p. P p.0 p.1) (same (columns_at kind costs k) (slice_index standing k)
      (get_or-set_other (map kind.meaning costs) at k (kind.meaning cost) [] there)
      (get_or-set_other standing at k byte 0 there)) (old k h))
      (cases_eq k at)
    where
      same : (x : List ℤ) (b : ℕ)
          → slice_index_or (slice_set (map kind.meaning costs) at (kind.meaning cost)) k [] ≡ x
          → slice_index (slice_set standing at byte) k ≡ b
          → ◌≡◌ {A = List ℤ × ℕ} (x, b)
          (columns_at kind (slice_set costs at cost) k, slice_index (slice_set standing at byte) k)
      same x b e f =
          let g = ap (λ xs. slice_index_or xs k []) (map-set kind.meaning costs at cost) in
          cc

  pub wrote_in_order : says_disturbed byte ≡ false
      → (says_stands byte ≡ true → AreWithin COST_LIMIT (kind.meaning cost))
      → IsInOrder kind places costs standing
      → IsInOrder kind places (slice_set costs at cost) (slice_set standing at byte)
  wrote_in_order calm small o = record {
    bytes = each_still (λ _ b. says_disturbed b ≡ false) calm o.bytes;
    small = each_still (λ x b. says_stands b ≡ true → AreWithin COST_LIMIT x) small o.small;
  }

pub blank_in_order : {K : Type 0} (kind : Ghosts K) (places : ℕ) (costs : List K)
    → IsInOrder kind places costs (replicate places 0)
blank_in_order kind places costs = record {
  bytes = λ k h. ap says_disturbed (get_or-replicate places k 0 0 h);
  small = λ k h stands.
      absurd (false≢true (sym (ap says_stands (get_or-replicate places k 0 0 h)) ∙ stands));
}
