-- What holders tell of the left blocks from one on, with and without that one left out, and of the
-- ways of a search.
-- Idea: the left blocks from l on but l are those from l + 1 on; and the right block that a left
-- block has is the one that the holders say it has.
use Rattle.std.proofs.Common.{◌≡◌, ℕ, ◌+◌, ◌≤◌, Bool, false, List, length, sym, refl, ap, ◌∙◌}
use Rattle.std.proofs.Common.{inl, inr, arith}
use Rattle.std.proofs.lemmas.Bool.{cases_eq, both_ways}
use Rattle.blockset.specs.declared.BlockSet.{BlockSet}
use Rattle.blockset.specs.Has.{has, IsEmpty}
use Rattle.pairing.specs.Grid.{at}
use Rattle.matching.specs.declared.chains.Bounds.{Bounds}
use Rattle.matching.specs.declared.chains.Holders.{Holders}
use Rattle.matching.specs.declared.chains.Reach.{Reach}
use Rattle.matching.specs.Exchange.{AreHolders, AreHoldersFrom, HasWaysBack}
use Rattle.matching.specs.Search.{IsReach}
use Rattle.matching.proofs.Alone.{IsAlone, one_not, one_other}

-- of the left blocks from the end on there is none
pub held_start : {l : ℕ} {p : List ℕ} {h : Holders} → length p ≤ l → IsEmpty h.held
    → AreHoldersFrom l p h
held_start {h = h} end none = record {
  all = λ m le lt _. absurd (omega arith);
  low = λ c t. absurd (both_ways (has h.held c) (none c) t);
  high = λ c t. absurd (both_ways (has h.held c) (none c) t);
  inside = λ c t. refl;
  owner = λ c t. absurd (both_ways (has h.held c) (none c) t);
}

module _ {l : ℕ} {p : List ℕ} {h : Holders} where
  -- from l on, all but l
  pub after_alone : {s : BlockSet} → IsAlone s l → AreHoldersFrom (l + 1) p h
      → AreHolders l p (has s) h
  after_alone a w = record {
    all = λ m le lt f. elim (cases_eq m l) [
      | inl e ↦ absurd (one_other a m f e)
      | inr ne ↦ w.all m (omega arith) lt refl
    ];
    low = λ c t. omega (arith, w.low c t);
    high = w.high;
    inside = λ c t. one_not a (at h.owner c) (λ e. omega (arith, w.low c t));
    owner = w.owner;
  }

  -- told by a set of those left out that has none
  pub all_back : {out : ℕ → Bool} → ((m : ℕ) → out m ≡ false) → AreHolders l p out h
      → AreHoldersFrom l p h
  all_back all w = record {
    all = λ m le lt _. w.all m le lt (all m);
    low = w.low;
    high = w.high;
    inside = λ c t. refl;
    owner = w.owner;
  }

  -- the ways of a search, told by the pairing
  pub ways_from : {rows : List BlockSet} {b : Bounds} {x : Reach} → length p ≡ length rows
      → IsReach rows b h x → AreHolders l p (has b.roots) h → HasWaysBack p (has b.roots) x
  ways_from {b = b} {x = x} len w hold = record {
    inside = λ c t. omega (arith, w.small c t);
    taker = λ c t. omega (arith, w.high c t);
    back = λ c t f. elim (w.back c t) [
      | inl r ↦ absurd (both_ways (has b.roots (at x.from c)) f r)
      | inr v ↦
          let own : at p (at x.from c) ≡ v.0 = ap (at p) (sym v.3) ∙ hold.owner v.0 v.2 in
          (ap (has x.reached) own ∙ v.1, rw own v.4)
    ];
  }
