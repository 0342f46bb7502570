-- What a search along alternating paths finds: which right blocks it reaches, and from where.
use Rattle.std.specs.Prelude.{◌≡◌, ℕ, ◌<◌, Bool, true, false, if◌then◌else◌, ◌&&◌, ◌⊎◌, List}
use Rattle.std.specs.Prelude.{length, Some, None, IsTrue, ◌↔◌, Option}
use Rattle.blockset.specs.declared.TheConstants.{SET_WIDTH}
use Rattle.blockset.specs.declared.BlockSet.{BlockSet}
use Rattle.blockset.specs.Has.{has}
use Rattle.blockset.specs.Sets.{members}
use Rattle.pairing.specs.Grid.{at}
use Rattle.pairing.specs.Chains.{HasChain}
use Rattle.matching.specs.declared.chains.Bounds.{Bounds}
use Rattle.matching.specs.declared.chains.Holders.{Holders}
use Rattle.matching.specs.declared.chains.Reach.{Reach}
use Rattle.pairing.specs.Rows.{holds, rights_in}

-- a search goes along the pair of l and c: l's row holds c, and c is offered if l is a root, or
-- else live
abbrev pub is_along : List BlockSet → Bounds → ℕ → ℕ → Bool
is_along rows b l c = holds rows l c
    && (if has b.roots l then has b.offer c else has b.live c)

-- Right blocks that are reached by alternating paths, and for each the left block `from` that the
-- search came to it from: a root, or one that has a right block reached before. The rank of a right
-- block tells how many were reached before it.
pub record IsReach (rows : List BlockSet) (b : Bounds) (h : Holders) (x : Reach) : Type 0 where
  pub high : (c : ℕ) → has x.reached c ≡ true → at x.from c < length rows
  pub small : (c : ℕ) → has x.reached c ≡ true → c < rights_in rows
  pub by : (c : ℕ) → has x.reached c ≡ true → is_along rows b (at x.from c) c ≡ true
  pub back : (c : ℕ) → has x.reached c ≡ true
      → (has b.roots (at x.from c) ≡ true)
      ⊎ ((d : ℕ) × (has x.reached d ≡ true) × (has h.held d ≡ true)
      × (at h.owner d ≡ at x.from c) × (at x.rank d < at x.rank c))
  pub ranked : (c : ℕ) → has x.reached c ≡ true → at x.rank c < members SET_WIDTH (has x.reached)
  pub once : (c d : ℕ) → has x.reached c ≡ true → has x.reached d ≡ true
      → at x.rank c ≡ at x.rank d → c ≡ d

-- the search has gone along every pair that it may from a root, or from a left block that has a
-- reached right block; and it reached no goal
pub record IsComplete (rows : List BlockSet) (b : Bounds) (h : Holders) (x : Reach) : Type 0 where
  pub rooted : (l c : ℕ) → has b.roots l ≡ true → is_along rows b l c ≡ true
      → has x.reached c ≡ true
  pub onward : (d c : ℕ) → has x.reached d ≡ true → has h.held d ≡ true
      → is_along rows b (at h.owner d) c ≡ true → has x.reached c ≡ true
  pub no_goal : (c : ℕ) → has x.reached c ≡ true → has b.goals c ≡ false

-- where a search has ended: at a goal that it reached, or nowhere
abbrev pub HasEnded : List BlockSet → Bounds → Holders → Reach → Option ℕ → Type 0
HasEnded rows b h x None = IsComplete rows b h x
HasEnded rows b h x (Some c) = (has x.reached c ≡ true) × (has b.goals c ≡ true)

-- each right block of a left block has a set that tells which right blocks chains from it lead to:
-- the closure of the single steps
abbrev pub AreLeads : List BlockSet → List ℕ → List BlockSet → Type 0
AreLeads rows p led = (l c : ℕ) → l < length rows → c < rights_in rows
    → (IsTrue (holds led (at p l) c) ↔ HasChain (length rows) 0 (holds rows) p (at p l) c)
