-- A search that starts from all right blocks at the distance 0 when every left block is paired: it
-- takes them all, and its distances become the prices.
-- Idea: there are as many left as right blocks, so every right block has a left block, and the
-- search never comes to a free one. It ends with all that is reached taken, and all right blocks
-- are reached from the start. Each left block hands its distance to the right block that it has.
use Rattle.std.proofs.Common.{◌≡◌, ℕ, ◌<◌, ◌≤◌, true, false, List, length, ℤ, ◌+ℤ◌, Some, None}
use Rattle.std.proofs.Common.{Option, sym, refl, ap, ◌∙◌, subst, ⊎_elim, arith, ◌≢◌}
use Rattle.std.proofs.lemmas.Bool.{cases_lt, both_ways}
use Rattle.cost.specs.declared.Cost.{Ghosts}
use Rattle.cost.specs.Columns.{AreWithin}
use Rattle.cost.specs.Weights.{weight}
use Rattle.blockset.specs.declared.BlockSet.{BlockSet}
use Rattle.blockset.specs.Has.{has}
use Rattle.pairing.specs.Grid.{at, IsPerfect}
use Rattle.pairing.proofs.Counting.{onto}
use Rattle.matching.specs.declared.chains.Holders.{Holders}
use Rattle.tables.specs.Said.{columns_at}
use Rattle.assign.specs.declared.limits.TheConstants.{DISTANCE_LIMIT}
use Rattle.assign.specs.declared.tree.Tree.{Tree}
use Rattle.assign.specs.Weighed.{weight_at, cost_weight, graph}
use Rattle.assign.specs.Offers.{distances}
use Rattle.assign.specs.Search.{Graph, Pairing, pairing, from_all, Course, course, Kept, Grown}
use Rattle.assign.specs.Search.{Ends}
use Rattle.assign.specs.Trees.{stage_in, HasCome, HasEnded}
use Rattle.assign.specs.Pairs.{so_far, IsPriced}
use Rattle.assign.specs.Prices.{Topmost}
use Rattle.assign.proofs.Ending.{perfect_of}
use Rattle.assign.proofs.Own.{own_row}
use Rattle.assign.proofs.Owners.{distance_is}
use Rattle.assign.proofs.Stages.{taken_is}

-- all left blocks are paired
module _ {g : Graph} {q : Pairing} (kept : Kept g q) (all : (l : ℕ) → q.out l ≡ false) where
  pub perfect : IsPerfect g.size g.stands q.partners
  perfect = perfect_of kept (λ l h. all l)

  pub all_held : (c : ℕ) → c < g.size → has q.holders.held c ≡ true
  all_held c h =
      let w = onto g.size g.stands q.partners perfect c h in
      subst (λ (z : ℕ). has q.holders.held z ≡ true) w.2
      (kept.holding.all w.0 (omega arith) (omega (arith, w.1, kept.pairs.len)) (all w.0))

  module _ (s : Course) where
    -- it ends at no free right block
    stops : (goal : Option ℕ) → Ends g q from_all s goal
        → ((c : ℕ) → c < g.size → s.stage c ≡ 1 → ⊥)
        × ((t : ℕ) × Grown g q from_all s t g.size)
    stops None ends = ends
    stops (Some f) ends = absurd (both_ways (has q.holders.held f) ends.2 (all_held f ends.0))

    takes_all : (goal : Option ℕ) → Ends g q from_all s goal → (c : ℕ) → c < g.size
        → 2 ≤ s.stage c
    takes_all goal ends c h =
        let w = stops goal ends in
        let r = (w.1.1.offered c h refl).0 in
        ⊎_elim (λ (m : s.stage c < 2). absurd (w.0 c h (omega arith))) (λ m. m)
        (cases_lt (s.stage c) 2)

-- a table with the distances of a search that has taken all right blocks: each has its own at the
-- left block that has it, and none is far
pub record AreDistances {K : Type 0} (kind : Ghosts K) (rows : List BlockSet) (costs : List K)
    (partners : List ℕ) (holders : Holders) (v : ℕ → ℤ) (table : List K) : Type 0 where
  pub search : Course
  pub turns : ℕ
  pub grown : Grown (graph kind rows costs) (pairing (λ _. false) partners holders v) from_all
      search turns (length rows)
  pub done : (c : ℕ) → c < length rows → search.stage c ≢ 1
  pub told : (l : ℕ) → l < length rows → weight_at kind table l ≡ search.dist (at partners l)
  pub near : (l : ℕ) → l < length rows → AreWithin DISTANCE_LIMIT (columns_at kind table l)

-- the search leaves such a table
module _ {K : Type 0} {kind : Ghosts K} {rows : List BlockSet} {costs : List K}
    {partners : List ℕ} {holders : Holders} {right dist : List K} {tree : Tree K}
    (paired : IsPriced kind rows costs (so_far (λ _. false) partners holders right))
    (come : HasCome kind rows costs holders right from_all tree dist)
    (ended : HasEnded kind (length rows) holders right dist tree) where
  abbrev search : Course
  search = course come.0 come.1 (stage_in tree)

  ends : Ends (graph kind rows costs)
      (pairing (λ _. false) partners holders (weight_at kind right)) from_all search
      tree.taken.goal
  ends = come.3 (λ _. false) partners paired.kept

  held : (c : ℕ) → c < length rows → has holders.held c ≡ true
  held = all_held paired.kept (λ _. refl)

  taken : (c : ℕ) → c < length rows → has tree.taken.reached c ≡ true
  taken c h = taken_is (has tree.taken.reached) (has tree.seen) tree.taken.rank c
      (takes_all paired.kept (λ _. refl) search tree.taken.goal ends c h)

  -- the distance of the right block that a left block has stands there
  at_partner : (l : ℕ) → l < length rows
      → distances kind holders dist (at partners l) ≡ columns_at kind dist l
  at_partner l h =
      let c = at partners l in
      distance_is kind holders dist c (held c (paired.kept.pairs.below l h refl))
      ∙ ap (columns_at kind dist) (own_row paired.kept l h refl)

  pub swept : AreDistances kind rows costs partners holders (weight_at kind right) dist
  swept =
      let w = stops paired.kept (λ _. refl) search tree.taken.goal ends in
      record {
        search = search;
        turns = w.1.0;
        grown = w.1.1;
        done = w.0;
        told = λ l h.
            let c = at partners l in
            let b = paired.kept.pairs.below l h refl in
            ap weight (sym (at_partner l h))
            ∙ sym (come.2.dist c (ended.among c (taken c b)) (held c b));
        near = λ l h.
            let c = at partners l in
            let b = paired.kept.pairs.below l h refl in
            subst (AreWithin DISTANCE_LIMIT) (at_partner l h)
            (ended.near c (taken c b) (held c b));
      }

-- the price of each right block becomes its distance
module _ {K : Type 0} {kind : Ghosts K} {rows : List BlockSet} {costs : List K}
    {partners : List ℕ} {holders : Holders} {right table : List K}
    (paired : IsPriced kind rows costs (so_far (λ _. false) partners holders right))
    (far : AreDistances kind rows costs partners holders (weight_at kind right) table)
    (right' : List K) (moved : (l : ℕ) → l < length rows
    → columns_at kind right' (at partners l) ≡ columns_at kind table l) where
  -- what is so of the right block of each left block is so of each right block
  each : (P : ℕ → Type 0) → ((l : ℕ) → l < length rows → P (at partners l)) → (c : ℕ)
      → c < length rows → P c
  each P h c i =
      let t = all_held paired.kept (λ _. refl) c i in
      subst P (paired.kept.holding.owner c t)
      (h (at holders.owner c) (omega (arith, paired.kept.holding.high c t, paired.kept.pairs.len)))

  pub right_near : (c : ℕ) → c < length rows → AreWithin DISTANCE_LIMIT (columns_at kind right' c)
  right_near = each (λ c. AreWithin DISTANCE_LIMIT (columns_at kind right' c))
      (λ l h. subst (AreWithin DISTANCE_LIMIT) (sym (moved l h)) (far.near l h))

  pub topmost_of : {left : List K} → ((l : ℕ) → l < length rows
      → weight_at kind left l +ℤ weight_at kind right' (at partners l)
      ≡ cost_weight kind (length rows) costs l (at partners l))
      → Topmost kind rows costs partners holders (weight_at kind right) left right'
  topmost_of tight = record {
    search = far.search;
    turns = far.turns;
    grown = far.grown;
    done = far.done;
    priced = each (λ c. weight_at kind right' c ≡ far.search.dist c)
        (λ l h. ap weight (moved l h) ∙ far.told l h);
    tight = tight;
  }
