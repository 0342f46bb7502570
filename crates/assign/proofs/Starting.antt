-- The two starts of a search, as its tables tell them: at a left block, and at an imagined one.
-- Idea: nothing is reached before. Each right block that a left block stands with takes its offer,
-- which is just their cost, and the nearest free one is told; no other is reached. The imagined
-- left block offers all the distance 0, and cleared tables tell that.
use Rattle.std.proofs.Common.{◌≡◌, ℕ, ◌+◌, ◌<◌, Bool, true, false, ◌&&◌, List, length, replicate}
use Rattle.std.proofs.Common.{ℤ, pos, ◌+ℤ◌, Option, Some, None, IfSome, MatchOption, is_some, sym}
use Rattle.std.proofs.Common.{refl, ap, ◌∙◌, subst, ⊎_elim, arith}
use Rattle.std.proofs.Math.Bool.{and-false}
use Rattle.std.proofs.lemmas.Int.{ints}
use Rattle.std.proofs.lemmas.Bool.{both_ways, and_from, cases_Bool}
use Rattle.cost.specs.declared.Cost.{Ghosts}
use Rattle.cost.specs.declared.TheConstants.{COST_LIMIT}
use Rattle.cost.specs.Columns.{AreWithin}
use Rattle.cost.proofs.Exact.{within_more}
use Rattle.cost.specs.Weights.{weight}
use Rattle.blockset.specs.declared.BlockSet.{BlockSet}
use Rattle.blockset.specs.Has.{has}
use Rattle.pairing.specs.Grid.{at}
use Rattle.pairing.specs.Rows.{holds}
use Rattle.matching.specs.declared.chains.Holders.{Holders}
use Rattle.assign.specs.declared.limits.TheConstants.{DISTANCE_LIMIT}
use Rattle.assign.specs.declared.search.Offer.{Offer}
use Rattle.assign.specs.declared.tree.Nearby.{Nearby}
use Rattle.assign.specs.Weighed.{weight_at, cost_weight, graph, SearchTables}
use Rattle.assign.specs.Offers.{IsOffered, IsFreeOffered, distances}
use Rattle.assign.specs.Search.{Graph, Pairing, Kept, Start, from_row, from_all, course, Grown}
use Rattle.assign.specs.Trees.{stage_at_first, HasFree, Begins, IsNearestFree}
use Rattle.assign.proofs.Dijkstra.{started}
use Rattle.assign.proofs.Entries.{part_of, part_is}
use Rattle.assign.proofs.Stages.{stage_reached, stage_none, reached_is}

-- just what the start offers is reached, at its distance
pub started_at : {g : Graph} {q : Pairing} → Kept g q → (start : Start) (seen : ℕ → Bool)
    (via : ℕ → ℕ) → ((c : ℕ) → c < g.size → seen c ≡ start.offer c)
    → ((c : ℕ) → IfSome start.root (λ k. via c ≡ k))
    → Grown g q start (course start.base via (stage_at_first seen)) 0 g.size
started_at kept start seen via offers root =
    started kept start (course start.base via (stage_at_first seen))
    (λ c h. ⊎_elim
    (λ (r : seen c ≡ true). omega
    (arith, stage_reached (λ _. false) seen (replicate 64 0) c refl r))
    (λ (r : seen c ≡ false). omega
    (arith, stage_none (λ _. false) seen (replicate 64 0) c refl r))
    (cases_Bool (seen c)))
    (λ c h r. stage_reached (λ _. false) seen (replicate 64 0) c refl (offers c h ∙ r))
    (λ c h e. (
      root c,
      sym (offers c h) ∙ (reached_is (λ _. false) seen (replicate 64 0) c e).1,
      refl,
    ))

-- left block k has made its offer, and what came of it is what the search begins with
pub record IsRowStart {K : Type 0} (kind : Ghosts K) (rows : List BlockSet) (costs : List K)
    (holders : Holders) (right : List K) (k : ℕ) (offer : Offer K) (none : ℕ → Bool)
    (before free : Option (Nearby K)) (via₀ via₁ via : List ℕ) (dist dist' : List K)
    (reached : BlockSet) : Type 0 where
  pub lent : SearchTables kind rows costs
  pub room : k < length rows
  pub from : offer.from ≡ k
  pub row : offer.costs.now ≡ part_of (length rows) k costs
  pub to : (c : ℕ) → has offer.to c ≡ holds rows k c
  pub seen : (c : ℕ) → has reached c ≡ holds rows k c
  pub zero : weight (kind.meaning offer.shift) ≡ pos 0
  pub nothing : AreWithin 0 (kind.meaning offer.shift)
  pub empty : (c : ℕ) → none c ≡ false
  pub none_before : before ≡ None
  pub found : MatchOption free ((before ≡ None) × (via₁ ≡ via₀)
      × ((c : ℕ) → has offer.to c ≡ true → has holders.held c ≡ true))
      (IsFreeOffered kind offer (has holders.held) right before via₀ via₁)
  pub made : (c : ℕ) → IsOffered kind offer (λ j. has offer.to j && has holders.held j) none
      (distances kind holders dist) (distances kind holders dist') via₁ via c

module _ {K : Type 0} {kind : Ghosts K} {rows : List BlockSet} {costs : List K}
    {holders : Holders} {right : List K} {k : ℕ} {offer : Offer K} {none : ℕ → Bool}
    {before free : Option (Nearby K)} {via₀ via₁ via : List ℕ} {dist dist' : List K}
    {reached : BlockSet}
    (start : IsRowStart kind rows costs holders right k offer none before free via₀ via₁
    via dist dist' reached) where
  abbrev cost : ℕ → ℤ
  cost = cost_weight kind (length rows) costs k

  -- what is offered is the cost
  way_is : (c : ℕ) → has offer.to c ≡ true
      → weight (kind.meaning offer.shift) +ℤ weight_at kind offer.costs.now c ≡ cost c
  way_is c t =
      let w = ap (λ z. weight_at kind z c) start.row
      ∙ ap weight (part_is start.lent k start.room c (sym (start.to c) ∙ t)) in
      omega (arith, ints, start.zero, w)

  offered : (c : ℕ) → has reached c ≡ true → has offer.to c ≡ true
  offered c r = start.to c ∙ sym (start.seen c) ∙ r

  told : (c : ℕ) → has reached c ≡ true → has holders.held c ≡ true
      → (cost c ≡ weight (distances kind holders dist' c)) × (k ≡ at via c)
  told c r h = let t = offered c r in ⊎_elim
      (λ w. absurd (both_ways (none c) (start.empty c) w.0))
      (λ w. (sym (w.0 ∙ way_is c t), sym (w.1 ∙ start.from)))
      ((start.made c).change (and_from (has offer.to c) (has holders.held c) t h))

  nearest : (r : Option (Nearby K))
      → MatchOption r ((before ≡ None) × (via₁ ≡ via₀)
      × ((c : ℕ) → has offer.to c ≡ true → has holders.held c ≡ true))
      (IsFreeOffered kind offer (has holders.held) right before via₀ via₁)
      → IfSome r (IsNearestFree kind holders right (has reached) via cost (λ _. k))
  nearest None w = tt
  nearest (Some near) w = ⊎_elim (λ x. absurd (both_ways (is_some before)
      (ap is_some start.none_before) (ap is_some x.0)))
      (λ x. record {
        dist = sym (way_is near.block x.member) ∙ sym x.key;
        via = sym (((start.made near.block).others
            (ap (λ z. has offer.to near.block && z) x.free
            ∙ and-false (has offer.to near.block))).1 ∙ x.from ∙ start.from);
        least = λ c r f. let t = offered c r in
            omega (arith, ints, w.least c t f, way_is c t);
      })
      w.choice

  begins_row : (next : Option (Nearby K))
      → Begins kind rows costs holders right (from_row (graph kind rows costs) k)
      (record { seen = reached; via = via; free = free; next = next }) dist'
  begins_row next = (
    cost,
    λ _. k,
    record {
      dist = λ c r h. (told c r h).0;
      via = λ c r h. (told c r h).1;
      nearest = nearest free start.found;
    },
    λ out p kept. started_at kept (from_row (graph kind rows costs) k) (has reached) (λ _. k)
        (λ c h. start.seen c) (λ c. refl),
  )

  free_in : (r : Option (Nearby K))
      → MatchOption r ((before ≡ None) × (via₁ ≡ via₀)
      × ((c : ℕ) → has offer.to c ≡ true → has holders.held c ≡ true))
      (IsFreeOffered kind offer (has holders.held) right before via₀ via₁)
      → HasFree kind holders right (has reached) r
  free_in None w = λ c r. w.2 c (offered c r)
  free_in (Some near) w = ⊎_elim (λ x. absurd (both_ways (is_some before)
      (ap is_some start.none_before) (ap is_some x.0)))
      (λ x. record {
        seen = start.seen near.block ∙ sym (start.to near.block) ∙ x.member;
        free = x.free;
        reach = λ y priced le. within_more (0 + COST_LIMIT + y) (DISTANCE_LIMIT + y)
            (kind.meaning near.key) (omega arith)
            (x.reach 0 y start.nothing (omega arith) priced le);
      })
      w.choice

  -- so the search begins here, and the nearest free right block is known
  pub started_row : HasFree kind holders right (has reached) free × ((next : Option (Nearby K))
      → Begins kind rows costs holders right (from_row (graph kind rows costs) k)
      (record { seen = reached; via = via; free = free; next = next }) dist')
  started_row = (free_in free start.found, begins_row)

-- the imagined left block, in cleared tables
pub begins_all : {K : Type 0} (kind : Ghosts K) (rows : List BlockSet) (costs : List K)
    (holders : Holders) (right dist : List K) (all : BlockSet) (via : List ℕ)
    (free next : Option (Nearby K)) → ((c : ℕ) → c < length rows → has all c ≡ true)
    → ((c : ℕ) → has holders.held c ≡ true → weight (distances kind holders dist c) ≡ pos 0)
    → ((c : ℕ) → at via c ≡ 0) → free ≡ None
    → Begins kind rows costs holders right from_all
    (record { seen = all; via = via; free = free; next = next }) dist
begins_all kind rows costs holders right dist all via free next whole zero none no_free = (
  λ _. pos 0,
  λ _. 0,
  record {
    dist = λ c r h. sym (zero c h);
    via = λ c r h. sym (none c);
    nearest = subst (λ z. IfSome z (IsNearestFree kind holders right (has all) via (λ _. pos 0)
        (λ _. 0))) (sym no_free) tt;
  },
  λ out p kept. started_at kept from_all (has all) (λ _. 0) whole (λ c. tt),
)
