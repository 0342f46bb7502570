-- Once a search has come to a free right block: the prices are lowered and the pairs exchanged, and
-- one left block more is paired. If some pairing is perfect, the search does come to a free right
-- block.
-- Idea: lowering the taken right blocks by what the free one is farther makes every step of the
-- search tight, and hurts no other pair, since what is not taken is at least as far. Tight steps
-- may be exchanged. If no free right block were reached, the left blocks that were looked at would
-- stand with taken right blocks only; each of these has one of them, and the root has none: one
-- left block too many.
use Rattle.std.proofs.Common.{◌≡◌, ℕ, ◌+◌, ◌<◌, ◌≤◌, Bool, true, false, not, ◌&&◌, ◌||◌, eqb, List}
use Rattle.std.proofs.Common.{ℤ, ◌+ℤ◌, ◌≤ℤ◌, Some, None, Option, sym, refl, ⊎_elim, arith}
use Rattle.std.proofs.Math.Bool.{and-false}
use Rattle.std.proofs.lemmas.Int.{ints}
use Rattle.std.proofs.lemmas.Bool.{cases_Bool, cases_eq}
use Rattle.blockset.specs.Has.{has}
use Rattle.blockset.specs.Sets.{members}
use Rattle.blockset.proofs.Members.{members_with, members_like, members_no, inject_le}
use Rattle.pairing.specs.Grid.{at, IsPerfect}
use Rattle.pairing.specs.Chains.{IsShut}
use Rattle.pairing.proofs.Crowds.{left_out_le, perfect_partial}
use Rattle.matching.specs.declared.chains.Reach.{Reach}
use Rattle.matching.specs.Exchange.{without, GivesDistinct, AreHolders, HasWaysBack, IsExchanged}
use Rattle.matching.proofs.Exchanging.{without_from}
use Rattle.std.proofs.lemmas.Bool.Decides.{nat_tests}
use Rattle.assign.specs.Search.{Graph, Pairing, pairing, Kept, from_row, Course, From, Grown, Ends}
use Rattle.assign.proofs.Own.{own_row}

-- The search from left block k, which is left out, has come to its end. `reach` has what it has
-- taken, and when.
pub record HasSearched (g : Graph) (q : Pairing) (k : ℕ) (s : Course) (reach : Reach)
    (goal : Option ℕ) : Type 0 where
  pub kept : Kept g q
  pub room : k < g.size
  pub unpaired : q.out k ≡ true
  pub inside : (c : ℕ) → has reach.reached c ≡ true → c < g.size
  pub ranked : (c : ℕ) → has reach.reached c ≡ true → s.stage c ≡ at reach.rank c + 2
  pub taken : (c : ℕ) → 2 ≤ s.stage c → has reach.reached c ≡ true
  pub end : Ends g q (from_row g k) s goal

-- The goal of a search is farther than its price by `far`, and what is taken and had has got a
-- price as much less than its distance. The pairs on the way from left block r are exchanged.
pub record HasAugmented (q : Pairing) (s : Course) (reach : Reach) (goal : ℕ) (far : ℤ) (r : ℕ)
    (next : Pairing) : Type 0 where
  pub goal_far : s.dist goal ≡ far +ℤ q.price goal
  pub fallen : (c : ℕ) → has reach.reached c ≡ true → has q.holders.held c ≡ true
      → next.price c +ℤ far ≡ s.dist c
  pub same : (c : ℕ) → (has reach.reached c && has q.holders.held c) ≡ false
      → next.price c ≡ q.price c
  pub exchanged : IsExchanged q.partners next.partners q.out reach r
  pub told : AreHolders 0 next.partners (without q.out r) next.holders

-- it has come to a free right block
module _ {g : Graph} {q : Pairing} {k : ℕ} {s : Course} {reach : Reach} {goal : ℕ}
    (searched : HasSearched g q k s reach (Some goal)) where
  grown : Grown g q (from_row g k) s searched.end.3.0 goal
  grown = searched.end.3.1

  late : (c : ℕ) → has reach.reached c ≡ true → 2 ≤ s.stage c
  late c t = omega (arith, searched.ranked c t)

  source : (c : ℕ) → has reach.reached c ≡ true → From g q (from_row g k) s c
  source c t = grown.source c (searched.inside c t) (omega (arith, late c t))

  -- no left block has the free right block
  goal_free : (l : ℕ) → l < g.size → q.out l ≡ false → at q.partners l ≡ goal → ⊥
  goal_free l h u e = grind
      (arith, searched.kept.holding.all l, searched.kept.pairs.len, searched.end.2)

  -- it is the only one that is taken
  pub only_goal : (c : ℕ) → has reach.reached c ≡ true → has q.holders.held c ≡ false → c ≡ goal
  only_goal c t f = grind
      (arith, cases_eq c goal, grown.held c (searched.inside c t) (late c t))

  -- `reach` also has from where each was reached
  module _ (from : (c : ℕ) → has reach.reached c ≡ true → s.via c ≡ at reach.from c) where
    -- the chains back from the taken right blocks
    pub ways_of : HasWaysBack q.partners q.out reach
    ways_of = record {
      inside = λ c m. omega (arith, searched.inside c m, searched.kept.pairs.len);
      taker = λ c m. grind (arith, source c m, from c m, searched.room, searched.kept.pairs.len);
      back = λ c m u. grind (
        arith,
        source c m,
        from c m,
        searched.unpaired,
        searched.ranked c,
        searched.ranked (at q.partners (at reach.from c)),
        searched.taken (at q.partners (at reach.from c)),
      );
    }

    -- the prices are lowered, and the pairs exchanged
    module _ {far : ℤ} {r : ℕ} {next : Pairing} (new : HasAugmented q s reach goal far r next) where
      -- the way back leads to the root of the search
      root : r ≡ k
      root = grind (
        arith,
        new.exchanged.came r new.exchanged.inside,
        new.exchanged.was_out,
        source (at next.partners r),
        from (at next.partners r),
      )

      -- a taken right block's price is its distance short of how far the goal is
      short : (c : ℕ) → has reach.reached c ≡ true → next.price c +ℤ far ≡ s.dist c
      short c t = ⊎_elim (new.fallen c t)
          (λ (f : has q.holders.held c ≡ false). grind
          (arith, ints, only_goal c t f, new.same c, new.goal_far))
          (cases_Bool (has q.holders.held c))

      same : (c : ℕ) → has reach.reached c ≡ false → next.price c ≡ q.price c
      same c f = new.same c (grind arith)

      -- prices only fall
      falls : (c : ℕ) → c < g.size → next.price c ≤ℤ q.price c
      falls c h = ⊎_elim
          (λ (t : has reach.reached c ≡ true). omega (
            arith,
            ints,
            short c t,
            new.goal_far,
            grown.last c h searched.end.0 (late c t),
          ))
          (λ (f : has reach.reached c ≡ false). omega (arith, ints, same c f))
          (cases_Bool (has reach.reached c))

      -- that of a reached right block is at most its distance short of how far the goal is
      near : (c : ℕ) → c < g.size → 1 ≤ s.stage c → (next.price c +ℤ far) ≤ℤ s.dist c
      near c h m = ⊎_elim
          (λ (t : has reach.reached c ≡ true). omega (arith, ints, short c t))
          (λ (f : has reach.reached c ≡ false). omega (
            arith,
            ints,
            same c f,
            new.goal_far,
            grown.ordered goal c searched.end.0 h searched.end.1
                (grind (arith, searched.taken c)),
          ))
          (cases_Bool (has reach.reached c))

      -- what a left block stands with is no farther than the way through its right block, if that
      -- was taken
      looked : (l c : ℕ) → l < g.size → q.out l ≡ false → c < g.size → g.stands l c ≡ true
          → has reach.reached (at q.partners l) ≡ true → (1 ≤ s.stage c)
          × ((s.dist c +ℤ g.cost l (at q.partners l)) ≤ℤ (s.dist (at q.partners l) +ℤ g.cost l c))
      looked l c hl u hc st t = rw (own_row searched.kept l hl u) at (grown.relaxed
          (at q.partners l) c (searched.kept.pairs.below l hl u) hc (late (at q.partners l) t)
          (goal_free l hl u)) st

      -- the old pairs are still as good as any
      fair_old : (l c : ℕ) → l < g.size → q.out l ≡ false → c < g.size → g.stands l c ≡ true
          → (next.price c +ℤ g.cost l (at q.partners l))
          ≤ℤ (next.price (at q.partners l) +ℤ g.cost l c)
      fair_old l c hl u hc st = ⊎_elim
          (λ (t : has reach.reached (at q.partners l) ≡ true). let w = looked l c hl u hc st t in
          omega (arith, ints, short (at q.partners l) t, near c hc w.0, w.1))
          (λ (f : has reach.reached (at q.partners l) ≡ false). omega (
            arith,
            ints,
            same (at q.partners l) f,
            falls c hc,
            searched.kept.fair l c hl u hc st,
          ))
          (cases_Bool (has reach.reached (at q.partners l)))

      -- right block c stands with left block l, for which no other one is better
      Serves : ℕ → ℕ → Type 0
      Serves l c = (g.stands l c ≡ true) × ((b : ℕ) → b < g.size → g.stands l b ≡ true
          → (next.price b +ℤ g.cost l c) ≤ℤ (next.price c +ℤ g.cost l b))

      -- a taken right block serves the left block that it was reached from
      chained : (c : ℕ) → has reach.reached c ≡ true → Serves (at reach.from c) c
      unfolding Serves
      chained c t = rw (sym (from c t)) (⊎_elim
          (λ w. rw w.0 (
            w.1,
            λ b h st. let o = grown.offered b h st in
                omega (arith, ints, w.2, short c t, near b h o.0, o.1),
          ))
          (λ w. (
            w.3,
            λ b h st. omega (
              arith,
              ints,
              w.4,
              short c t,
              short (at q.partners (s.via c)) (searched.taken (at q.partners (s.via c)) w.2),
              fair_old (s.via c) b w.0 w.1 h st,
            ),
          ))
          (source c t))

      whole : GivesDistinct g.size next.partners (without q.out k)
      whole = rw searched.kept.pairs.len at rw root at new.exchanged.distinct

      every : (l : ℕ) → l < g.size → without q.out k l ≡ false → Serves l (at next.partners l)
      unfolding Serves
      every l h u = ⊎_elim
          (λ w. let old = without_from q.out k l u (rw root at w.0) in
          rw w.1 (searched.kept.pairs.standing l h old, λ c. fair_old l c h old))
          (λ w. rw w.1 at (chained (at next.partners l) w.0))
          (new.exchanged.came l (omega (arith, searched.kept.pairs.len)))

      pub added : Kept g (pairing (without q.out k) next.partners next.holders next.price)
      unfolding Serves
      added = record {
        pairs = record {
          len = whole.len;
          below = whole.below;
          standing = λ l h u. (every l h u).0;
          once = whole.once;
        };
        holding = rw root at new.told;
        fair = λ l c h u. (every l h u).1 c;
      }

-- it does not come to none if some pairing is perfect
module _ {g : Graph} {q : Pairing} {k : ℕ} {s : Course} {reach : Reach}
    (stuck : HasSearched g q k s reach None) where
  looked_at : ℕ → Bool
  looked_at l = not (q.out l) && has reach.reached (at q.partners l)

  crowd : ℕ → Bool
  crowd l = eqb l k || looked_at l

  closed : (c : ℕ) → c < g.size → 1 ≤ s.stage c → has reach.reached c ≡ true
  closed c h m = grind (arith, stuck.end.0 c h, stuck.taken c)

  shut : IsShut g.size g.stands crowd (has reach.reached)
  unfolding crowd looked_at
  shut l c hl hc x st = grind (
    arith,
    nat_tests,
    closed c hc,
    stuck.end.1.1.offered c hc,
    stuck.end.1.1.relaxed (at q.partners l) c,
    stuck.kept.pairs.below l,
    own_row stuck.kept l,
    stuck.ranked (at q.partners l),
  )

  had : (c : ℕ) → c < g.size → has reach.reached c ≡ true → has q.holders.held c ≡ true
  had c h m = stuck.end.1.1.held c h (omega (arith, stuck.ranked c m)) (λ z. omega arith)

  -- each taken right block has a left block of its own among those that were looked at
  enough : members g.size (has reach.reached) ≤ members g.size looked_at
  unfolding looked_at
  enough = inject_le g.size g.size (has reach.reached) looked_at (λ c _. at q.holders.owner c)
      (λ c t h. let w = had c h t in grind (
        arith,
        stuck.kept.holding.high c w,
        stuck.kept.pairs.len,
        stuck.kept.holding.inside c w,
        stuck.kept.holding.owner c w,
      ))
      (λ a b ta tb ha hb e. grind (
        arith,
        stuck.kept.holding.owner a (had a ha ta),
        stuck.kept.holding.owner b (had b hb tb),
      ))

  root_apart : looked_at k ≡ false
  unfolding looked_at
  root_apart = grind (arith, stuck.unpaired)

  pub never : (p : List ℕ) → IsPerfect g.size g.stands p → ⊥
  unfolding crowd
  never p perfect =
      let more = members_with g.size looked_at crowd k stuck.room root_apart (λ l. refl) in
      let few = left_out_le g.size g.stands crowd (has reach.reached) shut p (λ _. false)
      (perfect_partial g.size g.stands p perfect) in
      let none = members_like g.size (λ _. false) (λ l. crowd l && false)
      (λ l _. and-false (crowd l)) in
      omega (arith, enough, members_no g.size)
