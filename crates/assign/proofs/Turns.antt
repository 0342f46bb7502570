-- The turns of a search as its tables tell them.
-- Idea: the nearest right block is the nearest free one, or the nearest of those that wait and are
-- had. Taking it gives it the turn's stage and leaves all others; what its left block offers to
-- right blocks that are not taken makes those seen. One right block more is taken each turn, so
-- after n turns all are.
use Rattle.std.proofs.Common.{◌≡◌, ℕ, ◌+◌, ◌*◌, ◌<◌, ◌≤◌, Bool, true, false, cond, not, ◌&&◌, ◌||◌}
use Rattle.std.proofs.Common.{eqb, List, length, set, ℤ, ◌+ℤ◌, ◌≤ℤ◌, Option, Some, None}
use Rattle.std.proofs.Common.{MatchOption, ◌⊎◌}
use mathlib.Core.Path.{fun_ext}
use Rattle.std.proofs.Common.{replicate, sym, refl, ap, ◌∙◌, subst, inl, inr, ⊎_elim, arith}
use Rattle.std.proofs.Math.Logic.{⊎_swap}
use Rattle.std.proofs.lemmas.List.{get_or-set_same, get_or-set_other, length-set}
use Rattle.std.proofs.lemmas.Int.{ints}
use Rattle.std.proofs.lemmas.Bool.Decides.{nat_tests}
use Rattle.std.proofs.lemmas.Bool.{cases_eq, cases_Bool, both_ways, and_from, and_parts, or_left}
use Rattle.std.proofs.lemmas.Bool.{or_right, or_cases, not_from_false, not-true, ne_eqb, eq-eqb}
use Rattle.cost.specs.declared.Cost.{Ghosts}
use Rattle.cost.specs.declared.TheConstants.{COST_LIMIT}
use Rattle.cost.specs.Columns.{AreWithin}
use Rattle.cost.proofs.Exact.{within_more}
use Rattle.cost.specs.Weights.{weight}
use Rattle.blockset.specs.declared.BlockSet.{BlockSet}
use Rattle.blockset.specs.Has.{has}
use Rattle.blockset.specs.Sets.{members}
use Rattle.blockset.proofs.Members.{members_like, members_all, members_without, members_none}
use Rattle.pairing.specs.Grid.{at}
use Rattle.pairing.specs.Rows.{holds}
use Rattle.matching.specs.declared.chains.Holders.{Holders}
use Rattle.matching.specs.declared.chains.Reach.{Reach}
use Rattle.assign.specs.declared.limits.TheConstants.{DISTANCE_LIMIT, SHIFT_LIMIT}
use Rattle.assign.specs.declared.search.Offer.{Offer}
use Rattle.assign.specs.declared.tree.Nearby.{Nearby}
use Rattle.assign.specs.declared.tree.Tree.{Tree}
use Rattle.assign.specs.Weighed.{weight_at, cost_weight, graph, SearchTables}
use Rattle.assign.specs.Offers.{IsOffered, IsFreeOffered, NearestWithKey, Nearer, distances}
use Rattle.assign.specs.Search.{Start, pairing, course, Grown, Ends}
use Rattle.assign.specs.Trees.{Begun, begun_in, IsUntaken, stage, block_of, waiting, IsFreeSeen}
use Rattle.assign.specs.Trees.{HasFree, HasNext, Tells, Searches, Begins, HasCome, HasEnded}
use Rattle.assign.proofs.Entries.{part_of, part_is}
use Rattle.assign.proofs.Stages.{stage_taken, stage_reached, stage_none, untaken_is, reached_is}
use Rattle.assign.proofs.Dijkstra.{Eased, took, looked}
use Rattle.assign.proofs.Picking.{IsLook, dist_then, via_then, then_offered, then_tells}

-- how far a distance can be at the beginning of turn t
abbrev pub far_at : ℕ → ℕ
far_at t = COST_LIMIT + t * (2 * COST_LIMIT)

module _ {K : Type 0} (kind : Ghosts K) (rows : List BlockSet) (costs : List K)
    (holders : Holders) (right : List K) (begun : Begun K) (dist₀ : List K) where
  -- the search at the beginning of turn t, whatever start it is about
  pub record Turning (seen : BlockSet) (taken : Reach) (free next : Option (Nearby K))
      (dist : List K) (t : ℕ) : Type 0 where
    pub grown : (start : Start) → Begins kind rows costs holders right start begun dist₀
        → Searches kind rows costs holders right dist (has seen) taken.from free
        (stage (has taken.reached) (has seen) taken.rank)
        (λ q s. Grown (graph kind rows costs) q start s t (length rows))
    pub left : members (length rows) (λ j. not (has taken.reached j)) + t ≡ length rows
    pub inside : (c : ℕ) → has seen c ≡ true → c < length rows
    pub among : (c : ℕ) → has taken.reached c ≡ true → has seen c ≡ true
    pub held : (c : ℕ) → has taken.reached c ≡ true → has holders.held c ≡ true
    pub near : (c : ℕ) → has seen c ≡ true → has holders.held c ≡ true
        → AreWithin (far_at t) (distances kind holders dist c)
    pub nearest_free : HasFree kind holders right (has seen) free
    pub nearest_held : HasNext kind holders right dist (has seen) (has taken.reached) next
    pub ranks : length taken.rank ≡ 64
    pub no_goal : taken.goal ≡ None

module _ {K : Type 0} {kind : Ghosts K} {rows : List BlockSet} {costs : List K}
    {holders : Holders} {right : List K} {begun : Begun K} {dist₀ : List K} where
  module _ {seen : BlockSet} {taken : Reach} {free next : Option (Nearby K)} {dist : List K}
      {t : ℕ} (turning : Turning kind rows costs holders right begun dist₀ seen taken free next
      dist t) where
    abbrev held : ℕ → Bool
    held = has holders.held

    abbrev waits : ℕ → Bool
    waits = waiting held (has seen) (has taken.reached)

    abbrev v : ℕ → ℤ
    v = weight_at kind right

    -- the right block that is taken next
    pub record IsChosen (near : Nearby K) : Type 0 where
      pub come_to : has seen near.block ≡ true
      pub untaken : has taken.reached near.block ≡ false
      pub least : (d : ℕ → ℤ) (came : ℕ → ℕ)
          → Tells kind holders right dist (has seen) taken.from free d came
          → (d near.block ≡ weight (kind.meaning near.key) +ℤ v near.block)
          × ((c : ℕ) → has seen c ≡ true → has taken.reached c ≡ false
          → (weight (kind.meaning near.key) +ℤ v c) ≤ℤ d c)
      pub goal : held near.block ≡ false → free ≡ Some near

    -- a free one is not taken
    free_untaken : (c : ℕ) → held c ≡ false → has taken.reached c ≡ false
    free_untaken c f = ⊎_elim
        (λ (m : has taken.reached c ≡ true). absurd (both_ways (held c) f (turning.held c m)))
        (λ (m : has taken.reached c ≡ false). m) (cases_Bool (has taken.reached c))

    waits_is : (c : ℕ) → waits c ≡ true
        → (has seen c ≡ true) × (held c ≡ true) × (has taken.reached c ≡ false)
    waits_is c w = grind (arith, nat_tests)

    waits_from : (c : ℕ) → has seen c ≡ true → held c ≡ true → has taken.reached c ≡ false
        → waits c ≡ true
    waits_from c r h m = grind (arith, nat_tests)

    -- no right block that waits is nearer than k
    abbrev NoneWaits : ℤ → Type 0
    NoneWaits k = (d : ℕ → ℤ) (came : ℕ → ℕ)
        → Tells kind holders right dist (has seen) taken.from free d came
        → (c : ℕ) → waits c ≡ true → (k +ℤ v c) ≤ℤ d c

    -- no free one is
    abbrev NoneFree : ℤ → Type 0
    NoneFree k = (d : ℕ → ℤ) (came : ℕ → ℕ)
        → Tells kind holders right dist (has seen) taken.from free d came
        → (c : ℕ) → has seen c ≡ true → held c ≡ false → (k +ℤ v c) ≤ℤ d c

    none_nearer : (k : ℤ) → NoneWaits k → NoneFree k → (d : ℕ → ℤ) (came : ℕ → ℕ)
        → Tells kind holders right dist (has seen) taken.from free d came
        → (c : ℕ) → has seen c ≡ true → has taken.reached c ≡ false → (k +ℤ v c) ≤ℤ d c
    none_nearer k waiting free d came tells c r m = ⊎_elim
        (λ (h : held c ≡ true). waiting d came tells c (waits_from c r h m))
        (λ (f : held c ≡ false). free d came tells c r f) (cases_Bool (held c))

    -- the nearest free one is no farther than those that wait
    chosen_free : (a : Nearby K) → free ≡ Some a → IsFreeSeen kind holders right (has seen) a
        → NoneWaits (weight (kind.meaning a.key)) → IsChosen a
    chosen_free a is known none = record {
      come_to = known.seen;
      untaken = free_untaken a.block known.free;
      least = λ d came tells. let near = rw is at tells.nearest in (
        near.dist,
        none_nearer (weight (kind.meaning a.key)) none
            (λ d came tells. let near = rw is at tells.nearest in near.least) d came tells,
      );
      goal = λ _. is;
    }

    -- the nearest one that waits is no farther than the free ones
    chosen_held : (b : Nearby K) → NearestWithKey kind waits right (distances kind holders dist) b
        → NoneFree (weight (kind.meaning b.key)) → IsChosen b
    chosen_held b nearest none = let w = waits_is b.block nearest.nearest.member in record {
      come_to = w.0;
      untaken = w.2;
      least = λ d came tells. (
        let x = tells.dist b.block w.0 w.1 in omega (arith, ints, nearest.key),
        none_nearer (weight (kind.meaning b.key))
            (λ d came tells c m. let u = waits_is c m in let x = tells.dist c u.0 u.1 in
            omega (arith, ints, nearest.key, nearest.nearest.least c m)) none d came tells,
      );
      goal = λ f. absurd (both_ways (held b.block) f w.1);
    }

    abbrev Choice : Option (Nearby K) → Type 0
    Choice chosen = MatchOption chosen
        ((free ≡ None) × ((c : ℕ) → has seen c ≡ true → has taken.reached c ≡ true)) IsChosen

    choose : (f x r : Option (Nearby K)) → free ≡ f → HasFree kind holders right (has seen) f
        → HasNext kind holders right dist (has seen) (has taken.reached) x → Nearer kind f x r
        → Choice r
    choose None None r is known next e = subst Choice (sym e) (
      is,
      λ c s. ⊎_elim (λ m. m)
          (λ m. absurd (both_ways (waits c) (next c) (waits_from c s (known c s) m)))
          (cases_Bool (has taken.reached c)),
    )
    choose None (Some b) r is known next e = subst Choice (sym e)
        (chosen_held b next (λ d came tells c s f. absurd (both_ways (held c) f (known c s))))
    choose (Some a) None r is known next e = subst Choice (sym e)
        (chosen_free a is known (λ d came tells c w. absurd (both_ways (waits c) (next c) w)))
    choose (Some a) (Some b) r is known next (inl e) = subst Choice (sym e.0)
        (chosen_free a is known (λ d came tells c w. let u = waits_is c w in
        let x = tells.dist c u.0 u.1 in
        omega (arith, ints, e.1, next.key, next.nearest.least c w)))
    choose (Some a) (Some b) r is known next (inr e) = subst Choice (sym e.0)
        (chosen_held b next (λ d came tells c s f.
        let near = rw is at tells.nearest in omega (arith, ints, e.1, near.least c s f)))

    pub chosen : (r : Option (Nearby K)) → Nearer kind free next r → Choice r
    chosen r e = choose free next r refl turning.nearest_free turning.nearest_held e

    -- nothing is left to take: the search has come to no free right block
    abbrev pub HasStopped : Tree K → Type 0
    HasStopped tree = ((start : Start)
        → Begins kind rows costs holders right start begun dist₀
        → HasCome kind rows costs holders right start tree dist)
        × HasEnded kind (length rows) holders right dist tree

    pub far_enough : length rows ≤ 64 → t ≤ length rows → (c : ℕ) → has seen c ≡ true
        → held c ≡ true → AreWithin DISTANCE_LIMIT (distances kind holders dist c)
    far_enough few time c r h = within_more (far_at t) DISTANCE_LIMIT
        (distances kind holders dist c) (omega arith) (turning.near c r h)

    pub stuck : length rows ≤ 64 → t ≤ length rows → free ≡ None
        → ((c : ℕ) → has seen c ≡ true → has taken.reached c ≡ true)
        → HasStopped (record { seen = seen; taken = taken; free = free })
    stuck few time none all = (
      λ start begins.
          let w = turning.grown start begins in (
            w.0,
            w.1,
            w.2,
            λ out p kept. subst (Ends (graph kind rows costs) (pairing out p holders v) start
                (course w.0 w.1 (stage (has taken.reached) (has seen) taken.rank)))
                (sym turning.no_goal) (
                  λ c h one. let r = reached_is (has taken.reached) (has seen) taken.rank c one in
                      both_ways (has taken.reached c) r.0 (all c r.1),
                  (t, w.3 out p kept),
                ),
          ),
      record {
        goal = turning.no_goal ∙ ap block_of (sym none);
        free = turning.nearest_free;
        among = turning.among;
        inside = λ c m. turning.inside c (turning.among c m);
        near = λ c m. far_enough few time c (turning.among c m);
      },
    )

    -- all turns are over, and all right blocks are taken
    pub over : length rows ≤ 64 → t ≡ length rows
        → HasStopped (record { seen = seen; taken = taken; free = free })
    over few time = stuck few (omega arith) (no_free free refl turning.nearest_free) all
      where
        all : (c : ℕ) → has seen c ≡ true → has taken.reached c ≡ true
        all c r = ⊎_elim (λ m. m) (λ m. absurd (both_ways (not (has taken.reached c))
            (members_none (length rows) (λ j. not (has taken.reached j))
            (omega (arith, turning.left)) c (turning.inside c r))
            (not_from_false (has taken.reached c) m))) (cases_Bool (has taken.reached c))

        no_free : (f : Option (Nearby K)) → free ≡ f
            → HasFree kind holders right (has seen) f → free ≡ None
        no_free None is known = is
        no_free (Some a) is known = absurd (both_ways (held a.block) known.free
            (turning.held a.block (all a.block known.seen)))

    -- the chosen right block is taken
    module _ {near : Nearby K} (chosen : IsChosen near) (reached' : BlockSet)
        (inserted : (j : ℕ) → has reached' j ≡ (eqb j near.block || has taken.reached j))
        (few : length rows ≤ 64) where
      abbrev a : ℕ
      a = near.block

      abbrev ranks' : List ℕ
      ranks' = set taken.rank near.block t

      pub in_range : near.block < length rows
      in_range = turning.inside a chosen.come_to

      now_taken : has reached' a ≡ true
      now_taken = inserted a ∙ or_left (eqb a a) (has taken.reached a) (eq-eqb a a refl)

      others_same : (c : ℕ) → (c ≡ a → ⊥) → has reached' c ≡ has taken.reached c
      others_same c ne = inserted c ∙ ap (λ z. z || has taken.reached c) (ne_eqb c a ne)

      stage_a : stage (has reached') (has seen) ranks' a ≡ t + 2
      stage_a = stage_taken (has reached') (has seen) ranks' a now_taken
          ∙ ap (λ z. z + 2) (get_or-set_same taken.rank a t 0
          (omega (arith, in_range, turning.ranks)))

      stage_others : (c : ℕ) → (c ≡ a → ⊥)
          → stage (has reached') (has seen) ranks' c
          ≡ stage (has taken.reached) (has seen) taken.rank c
      stage_others c ne =
          ap (λ z. cond (has reached' c) (z + 2) (cond (has seen c) 1 0))
          (get_or-set_other taken.rank a c t 0 ne)
          ∙ ap (λ z. cond z (at taken.rank c + 2) (cond (has seen c) 1 0)) (others_same c ne)

      pub taken_stage : 2 ≤ stage (has reached') (has seen) ranks' a
      taken_stage = omega (arith, stage_a)

      pub took_one : (start : Start) → Begins kind rows costs holders right start begun dist₀
          → Searches kind rows costs holders right dist (has seen) taken.from free
          (stage (has reached') (has seen) ranks')
          (λ q s. Grown (graph kind rows costs) q start s (t + 1) near.block)
      took_one start begins =
          let w = turning.grown start begins in
          let least = chosen.least w.0 w.1 w.2 in (
            w.0,
            w.1,
            w.2,
            λ out p kept. took kept start (w.3 out p kept) a
                (stage (has reached') (has seen) ranks') in_range
                (stage_reached (has taken.reached) (has seen) taken.rank a chosen.untaken
                chosen.come_to)
                (λ c h one. let r = reached_is (has taken.reached) (has seen) taken.rank c one in
                let x = least.1 c r.1 r.0 in omega (arith, ints, x, least.0))
                stage_a stage_others,
          )

      pub among_too : (c : ℕ) → has reached' c ≡ true → has seen c ≡ true
      among_too c m = ⊎_elim
          (λ (e : c ≡ a). subst (λ (z : ℕ). has seen z ≡ true) (sym e) chosen.come_to)
          (λ (ne : c ≡ a → ⊥). turning.among c (sym (others_same c ne) ∙ m)) (cases_eq c a)

      pub one_fewer : members (length rows) (λ j. not (has reached' j)) + (t + 1) ≡ length rows
      one_fewer = omega (
        arith,
        turning.left,
        members_without (length rows) (λ j. not (has taken.reached j)) a in_range
            (not_from_false (has taken.reached a) chosen.untaken),
        members_like (length rows) (λ j. not (has taken.reached j) && not (eqb j a))
            (λ j. not (has reached' j))
            (λ j _. ap not (inserted j) ∙ neither (eqb j a) (has taken.reached j)),
      )
        where
          neither : (x y : Bool) → not (x || y) ≡ (not y && not x)
          neither true true = refl
          neither true false = refl
          neither false true = refl
          neither false false = refl

      -- it is free, so the search has come to its end
      pub came : held near.block ≡ false → t < length rows → HasStopped (record {
        seen = seen;
        taken = record {
          reached = reached';
          from = taken.from;
          rank = set taken.rank near.block t;
          goal = Some near.block;
        };
        free = free;
      })
      came unheld time = (
        λ start begins. let w = took_one start begins in (
          w.0,
          w.1,
          w.2,
          λ out p kept. (
            in_range,
            taken_stage,
            unheld,
            (t + 1, w.3 out p kept),
          ),
        ),
        record {
          goal = ap block_of (sym (chosen.goal unheld));
          free = turning.nearest_free;
          among = among_too;
          inside = λ c m. turning.inside c (among_too c m);
          near = λ c m. far_enough few (omega arith) c (among_too c m);
        },
      )

      -- its left block l, which has it, offers its ways to the right blocks that it stands with
      pub record IsTurn (offer : Offer K) (seen' : BlockSet) (free' next' : Option (Nearby K))
          (via₁ via' : List ℕ) (dist' : List K) : Type 0 where
        pub lent : SearchTables kind rows costs
        pub time : t < length rows
        pub owned : held near.block ≡ true
        pub owner : at holders.owner near.block < length rows
        pub from : offer.from ≡ at holders.owner near.block
        pub to : (c : ℕ) → has offer.to c
            ≡ (holds rows (at holders.owner near.block) c && not (has reached' c))
        pub row : offer.costs.now ≡ part_of (length rows) (at holders.owner near.block) costs
        pub shift : weight (kind.meaning offer.shift)
            +ℤ cost_weight kind (length rows) costs (at holders.owner near.block) near.block
            ≡ weight (distances kind holders dist near.block)
        pub shift_near : AreWithin (far_at t + COST_LIMIT) (kind.meaning offer.shift)
        pub joined : (c : ℕ) → has seen' c ≡ (has seen c || has offer.to c)
        pub offered_free : MatchOption free' ((free ≡ None) × (via₁ ≡ taken.from)
            × ((c : ℕ) → has offer.to c ≡ true → held c ≡ true))
            (IsFreeOffered kind offer held right free taken.from via₁)
        pub made : (c : ℕ) → IsOffered kind offer (λ k. has offer.to k && held k) (has seen)
            (distances kind holders dist) (distances kind holders dist') via₁ via' c
        pub bound : (b c : ℕ) → AreWithin b (kind.meaning offer.shift) → b ≤ SHIFT_LIMIT
            → (has offer.to c ≡ false → AreWithin (b + COST_LIMIT) (distances kind holders dist c))
            → (has seen c ≡ true → AreWithin (b + COST_LIMIT) (distances kind holders dist c))
            → held c ≡ true → AreWithin (b + COST_LIMIT) (distances kind holders dist' c)
        pub next_held : HasNext kind holders right dist' (has seen') (has reached') next'

      module _ {offer : Offer K} {seen' : BlockSet} {free' next' : Option (Nearby K)}
          {via₁ via' : List ℕ} {dist' : List K}
          (turn : IsTurn offer seen' free' next' via₁ via' dist') where
        abbrev l : ℕ
        l = at holders.owner near.block

        to_parts : (c : ℕ) → has offer.to c ≡ true
            → (holds rows l c ≡ true) × (has reached' c ≡ false)
        to_parts c y = let w = and_parts (holds rows l c) (not (has reached' c))
            (sym (turn.to c) ∙ y) in (w.0, not-true (has reached' c) w.1)

        row_is : (c : ℕ) → has offer.to c ≡ true
            → weight_at kind offer.costs.now c ≡ cost_weight kind (length rows) costs l c
        row_is c y = ap (λ z. weight_at kind z c) turn.row
            ∙ ap weight (part_is turn.lent l turn.owner c (to_parts c y).0)

        -- a right block that is not offered anything
        unoffered : (c : ℕ) → has offer.to c ≡ false
            → stage (has reached') (has seen') ranks' c ≡ stage (has reached') (has seen) ranks' c
        unoffered c f = ap (λ z. cond (has reached' c) (at ranks' c + 2) (cond z 1 0))
            (turn.joined c ∙ or_no (has seen c) (has offer.to c) f)
          where
            or_no : (x y : Bool) → y ≡ false → (x || y) ≡ x
            or_no true y e = refl
            or_no false y e = e

        module _ (d : ℕ → ℤ) (came : ℕ → ℕ)
            (tells : Tells kind holders right dist (has seen) taken.from free d came) where
          look : IsLook kind holders right dist dist' offer (has seen) taken.from via₁ via' free
              free' d came
          look = record {
            tells = tells;
            known = turning.nearest_free;
            found = turn.offered_free;
            made = turn.made;
          }

          eased : (c : ℕ) → c < length rows → Eased (graph kind rows costs) l a
              (course d came (stage (has reached') (has seen) ranks'))
              (course (dist_then look) (via_then look) (stage (has reached') (has seen') ranks')) c
          eased c i =
              let w = then_offered look c in
              let here : d near.block ≡ weight (distances kind holders dist near.block) =
              tells.dist a chosen.come_to turn.owned in
              ⊎_elim
              (λ (f : has offer.to c ≡ false).
              let x = w.others f in
              record {
                change = inl (x.0, unoffered c f, x.1);
                less = λ _. omega (arith, ints, x.0);
                done = λ st low. absurd
                    (both_ways (has offer.to c) f
                    (turn.to c ∙ and_from (holds rows l c) (not (has reached' c)) st
                    (not_from_false (has reached' c)
                    (untaken_is (has reached') (has seen) ranks' c low))));
              })
              (λ (y : has offer.to c ≡ true).
              let b = to_parts c y in
              let now = stage_reached (has reached') (has seen') ranks' c b.1
              (turn.joined c ∙ or_right (has seen c) (has offer.to c) y) in
              let low : stage (has reached') (has seen) ranks' c < 2 =
              ⊎_elim (λ (r : has seen c ≡ true). omega
              (arith, stage_reached (has reached') (has seen) ranks' c b.1 r))
              (λ (r : has seen c ≡ false). omega
              (arith, stage_none (has reached') (has seen) ranks' c b.1 r))
              (cases_Bool (has seen c)) in
              record {
                change = ⊎_elim
                    (λ x. inl (
                      x.1,
                      now ∙ sym (stage_reached (has reached') (has seen) ranks' c b.1 x.0),
                      x.2,
                    ))
                    (λ x. inr (
                      b.0,
                      low,
                      now,
                      x.1 ∙ turn.from,
                      omega (arith, ints, x.0, row_is c y, turn.shift, here),
                    ))
                    (w.change y);
                less = λ m. w.less y
                    (reached_is (has reached') (has seen) ranks' c (omega arith)).1;
                done = λ _ _. (now, omega (arith, ints, w.most y, row_is c y, turn.shift, here));
              })
              (⊎_swap (cases_Bool (has offer.to c)))

        -- what was seen before or is offered now
        seen_is : (c : ℕ) → has seen' c ≡ true → (has seen c ≡ true) ⊎ (has offer.to c ≡ true)
        seen_is c r = or_cases (has seen c) (has offer.to c) (sym (turn.joined c) ∙ r)

        seen_still : (c : ℕ) → has seen c ≡ true → has seen' c ≡ true
        seen_still c r = turn.joined c ∙ or_left (has seen c) (has offer.to c) r

        still_near : (c : ℕ) → has seen c ≡ true → held c ≡ true
            → AreWithin (far_at t + COST_LIMIT + COST_LIMIT) (distances kind holders dist c)
        still_near c r h = within_more (far_at t) (far_at t + COST_LIMIT + COST_LIMIT)
            (distances kind holders dist c) (omega arith) (turning.near c r h)

        near_then : (c : ℕ) → has seen' c ≡ true → held c ≡ true
            → AreWithin (far_at (t + 1)) (distances kind holders dist' c)
        near_then c r h = within_more (far_at t + COST_LIMIT + COST_LIMIT) (far_at (t + 1))
            (distances kind holders dist' c) (omega arith)
            (turn.bound (far_at t + COST_LIMIT) c turn.shift_near
            (omega (arith, turn.time, few))
            (λ f. still_near c (⊎_elim (λ x. x)
            (λ x. absurd (both_ways (has offer.to c) f x)) (seen_is c r)) h)
            (λ x. still_near c x h) h)

        free_seen : (r : Option (Nearby K)) → MatchOption r ((free ≡ None) × (via₁ ≡ taken.from)
            × ((c : ℕ) → has offer.to c ≡ true → held c ≡ true))
            (IsFreeOffered kind offer held right free taken.from via₁)
            → HasFree kind holders right (has seen') r
        free_seen None w = let known = rw w.0 at turning.nearest_free in
            λ c r. ⊎_elim (known c) (w.2 c) (seen_is c r)
        free_seen (Some best) w = ⊎_elim
            (λ x. let known = rw x.0 at turning.nearest_free in record {
              seen = seen_still best.block known.seen;
              free = known.free;
              reach = known.reach;
            })
            (λ x. record {
              seen = turn.joined best.block
                  ∙ or_right (has seen best.block) (has offer.to best.block) x.member;
              free = x.free;
              reach = λ y priced le. within_more (far_at t + COST_LIMIT + COST_LIMIT + y)
                  (DISTANCE_LIMIT + y) (kind.meaning best.key) (omega (arith, turn.time, few))
                  (x.reach (far_at t + COST_LIMIT) y turn.shift_near (omega (arith, turn.time, few))
                  priced le);
            })
            w.choice

        pub turned : {goal : Option ℕ} → goal ≡ None
            → Turning kind rows costs holders right begun dist₀ seen'
            (record { reached = reached'; from = via'; rank = ranks'; goal = goal }) free' next'
            dist' (t + 1)
        turned no_goal = record {
          grown = λ start begins.
              let w = took_one start begins in (
                dist_then (look w.0 w.1 w.2),
                via_then (look w.0 w.1 w.2),
                then_tells (look w.0 w.1 w.2) (has seen') turn.joined,
                λ out p kept. looked kept start (w.3 out p kept) in_range taken_stage turn.owned
                    (eased w.0 w.1 w.2),
              );
          left = one_fewer;
          inside = λ c r. ⊎_elim (turning.inside c)
              (λ x. turn.lent.inside l c turn.owner (to_parts c x).0) (seen_is c r);
          among = λ c m. seen_still c (among_too c m);
          held = λ c m. ⊎_elim
              (λ (e : c ≡ a). subst (λ (z : ℕ). held z ≡ true) (sym e) turn.owned)
              (λ (ne : c ≡ a → ⊥). turning.held c (sym (others_same c ne) ∙ m)) (cases_eq c a);
          near = near_then;
          nearest_free = free_seen free' turn.offered_free;
          nearest_held = turn.next_held;
          ranks = length-set taken.rank a t ∙ turning.ranks;
          no_goal = no_goal;
        }

-- at first no right block is taken
pub turning_none : {K : Type 0} {kind : Ghosts K} {rows : List BlockSet} {costs : List K}
    {holders : Holders} {right : List K} {dist₀ : List K} (tree : Tree K)
    (next : Option (Nearby K)) → IsUntaken tree.taken
    → ((c : ℕ) → has tree.seen c ≡ true → c < length rows)
    → ((c : ℕ) → has tree.seen c ≡ true → has holders.held c ≡ true
    → AreWithin COST_LIMIT (distances kind holders dist₀ c))
    → HasFree kind holders right (has tree.seen) tree.free
    → HasNext kind holders right dist₀ (has tree.seen) (λ _. false) next
    → Turning kind rows costs holders right (begun_in tree next) dist₀ tree.seen tree.taken
    tree.free next dist₀ 0
turning_none {K} {kind} {rows} {costs} {holders} {right} {dist₀} tree next fresh inside near free
    waits =
    let empty = fresh.none in
    let taken = has tree.taken.reached in
    let same : (λ (_ : ℕ). false) ≡ taken = sym (fun_ext empty) in
    record {
      grown = λ start begins. subst (λ rank. Searches kind rows costs holders right dist₀
          (has tree.seen) tree.taken.from tree.free (stage taken (has tree.seen) rank)
          (λ q s. Grown (graph kind rows costs) q start s 0 (length rows))) (sym fresh.ranks)
          (subst (λ z. Searches kind rows costs holders right dist₀
          (has tree.seen) tree.taken.from tree.free (stage z (has tree.seen) (replicate 64 0))
          (λ q s. Grown (graph kind rows costs) q start s 0 (length rows))) same begins);
      left = omega (
        arith,
        members_like (length rows) (λ _. true) (λ j. not (taken j))
            (λ c h. not_from_false (taken c) (empty c)),
        members_all (length rows),
      );
      inside = inside;
      among = λ c m. absurd (both_ways (taken c) (empty c) m);
      held = λ c m. absurd (both_ways (taken c) (empty c) m);
      near = λ c r h. within_more COST_LIMIT (far_at 0) (distances kind holders dist₀ c)
          (omega arith) (near c r h);
      nearest_free = free;
      nearest_held = subst (λ z. HasNext kind holders right dist₀ (has tree.seen) z next) same
          waits;
      ranks = ap length fresh.ranks;
      no_goal = fresh.no_goal;
    }
