-- What is noted of the free right blocks near a left block stays true from turn to turn and from
-- search to search.
-- Idea: free right blocks are taken and none is let go, so the set only gets smaller, and what is
-- in it still keeps its price. A number that is no block is in no set.
use Rattle.std.proofs.Common.{◌≡◌, ◌≢◌, ℕ, ◌<◌, Bool, true, false, not, ◌&&◌, ◌||◌, eqb, List}
use Rattle.std.proofs.Common.{length, ℤ, inl, inr, sym, refl, subst, ap, ⊎_elim, arith, ◌∙◌}
use Rattle.std.proofs.Common.{replicate}
use Rattle.std.proofs.lemmas.Int.{ints}
use Rattle.std.proofs.lemmas.List.{get_or-replicate}
use Rattle.std.proofs.lemmas.Bool.{cases_eq, cases_Bool, and_parts, and_from, not-true}
use Rattle.std.proofs.lemmas.Bool.{not_from_false, ne_eqb, both_ways}
use Rattle.std.proofs.lemmas.Bool.Decides.{nat_tests}
use Rattle.cost.specs.Weights.{weight}
use Rattle.cost.specs.declared.Cost.{Ghosts}
use Rattle.blockset.specs.declared.BlockSet.{BlockSet}
use Rattle.pairing.specs.Grid.{at}
use Rattle.pairing.specs.Rows.{holds}
use Rattle.assign.specs.declared.tree.Noted.{Noted}
use Rattle.assign.specs.Weighed.{weight_at, cost_weight, SearchTables}
use Rattle.assign.specs.Noted.{IsNoted, free_in, AreNoted}
use Rattle.assign.proofs.Entries.{part_of, part_is}

pub noted_fewer : {set set' : ℕ → Bool} {v v' cost cost' : ℕ → ℤ} {near next : ℕ}
    → ((c : ℕ) → set' c ≡ true → (set c ≡ true) × (v' c ≡ v c) × (cost' c ≡ cost c))
    → IsNoted set v cost near next → IsNoted set' v' cost' near next
noted_fewer {near = near} {next = next} same noted = record {
  first = λ t c s. let a = same near t in let b = same c s in
      omega (arith, ints, a.1, a.2, b.1, b.2, noted.first a.0 c b.0);
  second = λ t c s ne. let a = same next t in let b = same c s in
      omega (arith, ints, a.1, a.2, b.1, b.2, noted.second a.0 c b.0 ne);
}

-- what an offer of left block l to `to` says of the free right blocks, it says of those that the
-- left block stands with
module _ {K : Type 0} {kind : Ghosts K} {rows : List BlockSet} {costs : List K}
    (lent : SearchTables kind rows costs) (held to : ℕ → Bool) (v : ℕ → ℤ) {row : List K}
    {l : ℕ} (hl : l < length rows) (row_is : row ≡ part_of (length rows) l costs)
    (same : (c : ℕ) → free_in to held c ≡ free_in (holds rows l) held c) (noted : Noted)
    (before : AreNoted kind rows costs held v noted) where
  -- the left block's own note, which its row and the whole table tell alike
  abbrev Note : (set : ℕ → Bool) (cost : ℕ → ℤ) → Noted → Type 0
  Note set cost n = IsNoted (free_in set held) v cost (at n.near l) (at n.next l)

  weighs : (c : ℕ) → free_in (holds rows l) held c ≡ true
      → weight_at kind row c ≡ cost_weight kind (length rows) costs l c
  weighs c t = ap (λ z. weight_at kind z c) row_is
      ∙ ap weight (part_is lent l hl c (and_parts (holds rows l c) (not (held c)) t).0)

  pub offer_notes : Note to (weight_at kind row) noted
  offer_notes = noted_fewer
      (λ c t. let s = sym (same c) ∙ t in (s, refl, weighs c s)) (before l hl)

  pub notes_again : (noted' : Noted) → Note to (weight_at kind row) noted'
      → ((m : ℕ) → m ≢ l → (at noted'.near m ≡ at noted.near m)
      × (at noted'.next m ≡ at noted.next m))
      → AreNoted kind rows costs held v noted'
  notes_again noted' new others = λ m h. ⊎_elim
      (λ (e : m ≡ l). subst (λ (z : ℕ). IsNoted (free_in (holds rows z) held) v
      (cost_weight kind (length rows) costs z) (at noted'.near z) (at noted'.next z)) (sym e)
      (noted_fewer (λ c t. (same c ∙ t, refl, sym (weighs c t))) new))
      (λ (ne : m ≡ l → ⊥). let w = others m ne in
      let known = before m h in rw (w.0, w.1) known)
      (cases_eq m l)

module _ {K : Type 0} (kind : Ghosts K) (rows : List BlockSet) (costs : List K)
    (held : ℕ → Bool) (v : ℕ → ℤ) where
  -- where more right blocks are taken, and those that are free keep their prices
  pub notes_fewer : (held' : ℕ → Bool) (v' : ℕ → ℤ) (noted : Noted)
      → ((c : ℕ) → held' c ≡ false → (held c ≡ false) × (v' c ≡ v c))
      → AreNoted kind rows costs held v noted → AreNoted kind rows costs held' v' noted
  notes_fewer held' v' noted free before = λ l h. noted_fewer
      (λ c t. let w = and_parts (holds rows l c) (not (held' c)) t in
      let f = free c (not-true (held' c) w.1) in (
        and_from (holds rows l c) (not (held c)) w.0 (not_from_false (held c) f.0),
        f.1,
        refl,
      ))
      (before l h)

  -- nothing is noted
  pub notes_none : SearchTables kind rows costs
      → AreNoted kind rows costs held v
      (record { near = replicate 64 64; next = replicate 64 64 })
  notes_none lent l h =
      let none : (c : ℕ) → c ≡ 64 → free_in (holds rows l) held c ≡ true → ⊥ =
      λ c e t. omega (
        arith,
        lent.few,
        lent.inside l c h (and_parts (holds rows l c) (not (held c)) t).0,
      ) in
      let no = none (at (replicate 64 64) l)
      (get_or-replicate {A = ℕ} 64 l 64 0 (omega (arith, lent.few))) in
      record { first = λ t. absurd (no t); second = λ t. absurd (no t) }

-- an offer goes to what is not taken, and what is taken is had: so it goes to all that are free
pub free_untaken : (row to taken taken' held : ℕ → Bool) (a : ℕ)
    → ((c : ℕ) → to c ≡ (row c && not (taken' c)))
    → ((c : ℕ) → taken' c ≡ (eqb c a || taken c))
    → ((c : ℕ) → taken c ≡ true → held c ≡ true) → held a ≡ true
    → (c : ℕ) → free_in to held c ≡ free_in row held c
free_untaken row to taken taken' held a to_is more had own c = elim (cases_Bool (held c)) [
  | inl h ↦ grind (arith, nat_tests)
  | inr f ↦
      let old : taken c ≡ false = ⊎_elim
      (λ (t : taken c ≡ true). absurd (both_ways (held c) f (had c t)))
      (λ (e : taken c ≡ false). e) (cases_Bool (taken c)) in
      let other = ne_eqb c a (λ e. both_ways (held c) f (ap held e ∙ own)) in
      grind (arith, nat_tests, to_is c, more c)
]
