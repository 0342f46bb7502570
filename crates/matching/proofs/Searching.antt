-- A search goes on: it reaches one right block more, or is done with a left block.
-- Idea: the left blocks still to be looked at are pending. Each pair that leads from a root or from
-- a left block that has a reached right block leads to a reached one already, unless that left
-- block is pending; so when none is pending the search is complete. A right block that is reached
-- gets the number of those before it as its rank, which is above the ranks of all of them.
use Rattle.std.proofs.Common.{◌≡◌, ℕ, suc, ◌<◌, ◌≤◌, true, false, not, ◌&&◌, ◌||◌, ◌==◌, nat_lt}
use Rattle.std.proofs.Common.{◌⊎◌, Option, List, length, slice_set, sym, ap, ◌∙◌, subst, inl, inr}
use Rattle.std.proofs.Common.{arith}
use Rattle.std.proofs.lemmas.List.{get_or-set_same, get_or-set_other, length-set}
use Rattle.std.proofs.lemmas.Bool.{cases_eq, both_ways, and_from, not_from_false, ne_eqb}
use Rattle.blockset.specs.declared.TheConstants.{MOST_BLOCKS, SET_WIDTH}
use Rattle.blockset.specs.declared.BlockSet.{BlockSet}
use Rattle.blockset.specs.Has.{has, IsLeast}
use Rattle.blockset.specs.Sets.{members}
use Rattle.blockset.proofs.Members.{members_with, members-le, members-within}
use Rattle.blockset.proofs.Removing.{still_in}
use Rattle.pairing.specs.Grid.{at}
use Rattle.matching.specs.declared.chains.Bounds.{Bounds}
use Rattle.matching.specs.declared.chains.Holders.{Holders}
use Rattle.matching.specs.declared.chains.Reach.{Reach}
use Rattle.matching.specs.Search.{is_along, IsReach}
use Rattle.matching.proofs.Inserting.{inserted, new_in, old_in, old_from}

-- where the search stands: what it has reached, and the left blocks that are still to be looked at
pub record Searching (rows : List BlockSet) (b : Bounds) (h : Holders) (x : Reach)
    (pending : BlockSet) : Type 0 where
  pub ways : IsReach rows b h x
  pub sized_from : length x.from ≡ SET_WIDTH
  pub sized_rank : length x.rank ≡ SET_WIDTH
  pub inside : (l : ℕ) → has pending l ≡ true → l < length rows
  pub waiting : (l : ℕ) → has pending l ≡ true → (has b.roots l ≡ true)
      ⊎ ((d : ℕ) × (has x.reached d ≡ true) × (has h.held d ≡ true) × (at h.owner d ≡ l))
  pub rooted : (l c : ℕ) → has b.roots l ≡ true → is_along rows b l c ≡ true
      → (has x.reached c ≡ true) ⊎ (has pending l ≡ true)
  pub onward : (d c : ℕ) → has x.reached d ≡ true → has h.held d ≡ true
      → is_along rows b (at h.owner d) c ≡ true
      → (has x.reached c ≡ true) ⊎ (has pending (at h.owner d) ≡ true)
  pub no_goal : (c : ℕ) → has x.reached c ≡ true → has b.goals c ≡ false

-- the left block l that is looked at leads to the right block c, which is reached next
pub record Reaching (rows : List BlockSet) (b : Bounds) (x : Reach) (pending : BlockSet) (l c : ℕ)
    (reached : BlockSet) : Type 0 where
  pub few : length rows ≤ MOST_BLOCKS
  pub waits : has pending l ≡ true
  pub inside : c < length rows
  pub leads : is_along rows b l c ≡ true
  pub new : has x.reached c ≡ false
  pub is : (j : ℕ) → has reached j ≡ (j == c || has x.reached j)

pub reaching : {rows : List BlockSet} {b : Bounds} {x : Reach} {pending : BlockSet} {l c : ℕ}
    {reached : BlockSet} → length rows ≤ MOST_BLOCKS
    → ((m d : ℕ) → is_along rows b m d ≡ true → d < length rows) → IsLeast pending l
    → (c < SET_WIDTH) × (is_along rows b l c ≡ true) × (has x.reached c ≡ false)
    → ((j : ℕ) → has reached j ≡ ((nat_lt j SET_WIDTH && j == c) || has x.reached j))
    → Reaching rows b x pending l c reached
reaching {x = x} {l = l} {c = c} {reached = reached} few inside least found put = record {
  few = few;
  waits = least.1;
  inside = inside l c found.1;
  leads = found.1;
  new = found.2;
  is = inserted (has x.reached) (has reached) c found.0 put;
}

-- what is reached then
abbrev pub reached_next : Reach → (l c : ℕ) → BlockSet → Reach
reached_next x l c reached = record {
  reached = reached;
  from = slice_set x.from c l;
  rank = slice_set x.rank c (members SET_WIDTH (has x.reached));
  goal = x.goal;
}

module _ {rows : List BlockSet} {b : Bounds} {h : Holders} {x : Reach} {pending : BlockSet}
    (s : Searching rows b h x pending) where
  -- left block l leads to nothing new
  pub search_retired : (l : ℕ) (pending' : BlockSet)
      → ((c : ℕ) → is_along rows b l c ≡ true → has x.reached c ≡ true)
      → ((j : ℕ) → has pending' j ≡ (has pending j && not (j == l)))
      → Searching rows b h x pending'
  search_retired l pending' closed is = record {
    ways = s.ways;
    sized_from = s.sized_from;
    sized_rank = s.sized_rank;
    inside = λ j t. s.inside j (was j t);
    waiting = λ j t. s.waiting j (was j t);
    rooted = λ j c t a. leads j c a (s.rooted j c t a);
    onward = λ d c t o a. leads (at h.owner d) c a (s.onward d c t o a);
    no_goal = s.no_goal;
  }
    where
      was : (j : ℕ) → has pending' j ≡ true → has pending j ≡ true
      was j t = (still_in (has pending) (has pending') l is j t).0

      leads : (j c : ℕ) → is_along rows b j c ≡ true
          → (has x.reached c ≡ true) ⊎ (has pending j ≡ true)
          → (has x.reached c ≡ true) ⊎ (has pending' j ≡ true)
      leads j c a is_or = elim (cases_eq j l) [
        | inl e ↦ inl (closed c (subst (λ m. is_along rows b m c ≡ true) e a))
        | inr ne ↦ elim is_or [
          | inl t ↦ inl t
          | inr t ↦
              inr (is j ∙ and_from (has pending j) _ t (not_from_false _ (ne_eqb j l ne)))
        ]
      ]

  module _ {l c : ℕ} {reached : BlockSet} (r : Reaching rows b x pending l c reached) where
    abbrev next : Reach
    next = reached_next x l c reached

    more : (j : ℕ) → has x.reached j ≡ true → has reached j ≡ true
    more = old_in (has x.reached) (has reached) c r.is

    old : (j : ℕ) → has reached j ≡ true → (j ≡ c → ⊥) → has x.reached j ≡ true
    old = old_from (has x.reached) (has reached) c r.is

    -- what holds of the new right block, and of the old ones, holds of all
    each : (P : ℕ → Type 0) → P c → ((j : ℕ) → has x.reached j ≡ true → P j) → (j : ℕ)
        → has reached j ≡ true → P j
    each P here there j t = elim (cases_eq j c) [
      | inl e ↦ subst P (sym e) here
      | inr ne ↦ there j (old j t ne)
    ]

    apart : (j : ℕ) → has x.reached j ≡ true → j ≡ c → ⊥
    apart j t e = both_ways (has x.reached j) (ap (has x.reached) e ∙ r.new) t

    pub search_grown : members SET_WIDTH (has reached) ≡ suc (members SET_WIDTH (has x.reached))
    search_grown = members_with SET_WIDTH (has x.reached) (has reached) c
        (omega (arith, r.inside, r.few))
        r.new r.is

    from_here : at next.from c ≡ l
    from_here = get_or-set_same x.from c l 0 (omega (arith, s.sized_from, r.inside, r.few))

    from_old : (j : ℕ) → has x.reached j ≡ true → at next.from j ≡ at x.from j
    from_old j t = get_or-set_other x.from c j l 0 (apart j t)

    rank_here : at next.rank c ≡ members SET_WIDTH (has x.reached)
    rank_here = get_or-set_same x.rank c (members SET_WIDTH (has x.reached)) 0
        (omega (arith, s.sized_rank, r.inside, r.few))

    rank_old : (j : ℕ) → has x.reached j ≡ true → at next.rank j ≡ at x.rank j
    rank_old j t =
        get_or-set_other x.rank c j (members SET_WIDTH (has x.reached)) 0 (apart j t)

    -- one that was reached before has a lesser rank
    rank_less : (j : ℕ) → has x.reached j ≡ true
        → at next.rank j < members SET_WIDTH (has x.reached)
    rank_less j t = omega (arith, rank_old j t, s.ways.ranked j t)

    Back : ℕ → ℕ → Type 0
    Back m k = (has b.roots m ≡ true)
        ⊎ ((d : ℕ) × (has reached d ≡ true) × (has h.held d ≡ true) × (at h.owner d ≡ m)
        × (at next.rank d < k))

    back_here : Back l (members SET_WIDTH (has x.reached))
    unfolding Back
    back_here = elim (s.waiting l r.waits) [
      | inl t ↦ inl t
      | inr w ↦ inr (w.0, more w.0 w.1, w.2, w.3, rank_less w.0 w.1)
    ]

    back_old : (j : ℕ) → has x.reached j ≡ true → Back (at x.from j) (at x.rank j)
    unfolding Back
    back_old j t = elim (s.ways.back j t) [
      | inl f ↦ inl f
      | inr w ↦
          inr (w.0, more w.0 w.1, w.2, w.3, rw (rank_old w.0 w.1) w.4)
    ]

    pub search_ways : (goal : Option ℕ) → IsReach rows b h (record next { goal = goal })
    unfolding Back
    search_ways goal = record {
      high = each (λ j. at next.from j < length rows) (rw from_here (s.inside l r.waits))
          (λ j t. rw (from_old j t) (s.ways.high j t));
      small = each (λ j. j < length rows) r.inside s.ways.small;
      by = each (λ j. is_along rows b (at next.from j) j ≡ true) (rw from_here r.leads)
          (λ j t. rw (from_old j t) (s.ways.by j t));
      back = each (λ j. Back (at next.from j) (at next.rank j))
          (rw (from_here, rank_here) back_here)
          (λ j t. rw (from_old j t, rank_old j t) (back_old j t));
      ranked = each (λ j. at next.rank j < members SET_WIDTH (has reached))
          (omega (arith, rank_here, search_grown))
          (λ j t. omega (arith, search_grown, rank_less j t));
      once = λ j k t u e. elim (cases_eq j c) [
        | inl a ↦ elim (cases_eq k c) [
          | inl d ↦ a ∙ sym d
          | inr d ↦ absurd (omega
              (arith, rank_less k (old k u d), e, ap (at next.rank) a ∙ rank_here))
        ]
        | inr a ↦ elim (cases_eq k c) [
          | inl d ↦ absurd (omega
              (arith, rank_less j (old j t a), e, ap (at next.rank) d ∙ rank_here))
          | inr d ↦ s.ways.once j k (old j t a) (old k u d)
              (sym (rank_old j (old j t a)) ∙ e ∙ rank_old k (old k u d))
        ]
      ];
    }

    -- no more right blocks are reached than there are
    pub search_least : members SET_WIDTH (has reached) ≤ length rows
    search_least = omega (
      arith,
      members-within SET_WIDTH (length rows) (has reached) r.few (search_ways x.goal).small,
      members-le (length rows) (has reached),
    )

    -- right block c is reached, and the left block that has it, if any, is pending
    pub search_more : {pending' : BlockSet} → has b.goals c ≡ false
        → ((j : ℕ) → has pending j ≡ true → has pending' j ≡ true)
        → (has h.held c ≡ true → has pending' (at h.owner c) ≡ true)
        → ((j : ℕ) → has pending' j ≡ true → (has pending j ≡ true)
        ⊎ ((has h.held c ≡ true) × (j ≡ at h.owner c) × (j < length rows)))
        → Searching rows b h next pending'
    search_more {pending' = pending'} free keeps add only = record {
      ways = search_ways x.goal;
      sized_from = length-set x.from c l ∙ s.sized_from;
      sized_rank = length-set x.rank c (members SET_WIDTH (has x.reached)) ∙ s.sized_rank;
      inside = λ j t. elim (only j t) [ inl e ↦ s.inside j e | inr e ↦ e.2 ];
      waiting = λ j t. elim (only j t) [
        | inl e ↦ elim (s.waiting j e) [ inl f ↦ inl f | inr w ↦ inr (w.0, more w.0 w.1, w.2, w.3) ]
        | inr e ↦ inr (c, new_in (has x.reached) (has reached) c r.is, e.0, sym e.1)
      ];
      rooted = λ j d t a. elim (s.rooted j d t a)
          [ inl e ↦ inl (more d e) | inr e ↦ inr (keeps j e) ];
      onward = λ d j t o a. each (λ d. has h.held d ≡ true
          → is_along rows b (at h.owner d) j ≡ true
          → (has reached j ≡ true) ⊎ (has pending' (at h.owner d) ≡ true))
          (λ o _. inr (add o))
          (λ d t o a. elim (s.onward d j t o a)
          [ inl e ↦ inl (more j e) | inr e ↦ inr (keeps (at h.owner d) e) ]) d t o a;
      no_goal = each (λ j. has b.goals j ≡ false) free s.no_goal;
    }
