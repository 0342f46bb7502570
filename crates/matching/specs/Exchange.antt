-- Exchanging the pairs along an alternating path: the holders that a pairing has, the ways back
-- along the paths that a search took, and what the exchange makes.
use Rattle.std.specs.Prelude.{◌≡◌, ℕ, ◌<◌, ◌≤◌, Bool, true, false, not, ◌&&◌, ◌⊎◌, List, ◌==◌, ◌≢◌}
use Rattle.std.specs.Prelude.{length}
use Rattle.blockset.specs.Has.{has}
use Rattle.matching.specs.declared.chains.Holders.{Holders}
use Rattle.matching.specs.declared.chains.Reach.{Reach}
use Rattle.pairing.specs.Grid.{at}
use Rattle.pairing.specs.Largest.{IsPartial}
use Rattle.pairing.specs.Places.{rights_of}

-- a set without one block
abbrev pub without : (ℕ → Bool) → ℕ → ℕ → Bool
without set block j = set j && not (j == block)

-- p gives those of n left blocks that are not in `out` right blocks, no two of them the same
abbrev pub GivesDistinct : (n : ℕ) (p : List ℕ) (out : ℕ → Bool) → Type 0
GivesDistinct n p out = IsPartial n (λ _ _. true) p out

-- the holders tell which right blocks those left blocks of p from k on have that are not in `out`,
-- and whose each is
pub record AreHolders (k : ℕ) (p : List ℕ) (out : ℕ → Bool) (h : Holders) : Type 0 where
  pub all : (l : ℕ) → k ≤ l → l < length p → out l ≡ false → has h.held (at p l) ≡ true
  pub low : (c : ℕ) → has h.held c ≡ true → k ≤ at h.owner c
  pub high : (c : ℕ) → has h.held c ≡ true → at h.owner c < length p
  pub inside : (c : ℕ) → has h.held c ≡ true → out (at h.owner c) ≡ false
  pub owner : (c : ℕ) → has h.held c ≡ true → at p (at h.owner c) ≡ c

-- the holders tell which right blocks the left blocks from k on have, and whose each is
abbrev pub AreHoldersFrom : ℕ → List ℕ → Holders → Type 0
AreHoldersFrom k p h = AreHolders k p (λ _. false) h

-- The ways back from the reached right blocks: each is reached from a left block of `out`, or from
-- one whose right block is reached too and has a smaller rank. So a way back is an alternating
-- path, and from a right block that is free an augmenting path.
pub record HasWaysBack (p : List ℕ) (out : ℕ → Bool) (x : Reach) : Type 0 where
  pub inside : (c : ℕ) → has x.reached c ≡ true → c < rights_of (length p)
  pub taker : (c : ℕ) → has x.reached c ≡ true → at x.from c < length p
  pub back : (c : ℕ) → has x.reached c ≡ true → out (at x.from c) ≡ false
      → (has x.reached (at p (at x.from c)) ≡ true)
      × (at x.rank (at p (at x.from c)) < at x.rank c)

-- The pairs along an augmenting path are exchanged: one more left block, `paired`, has a right
-- block. Each left block that has another right block than before has one that is reached from it.
pub record IsExchanged (before after : List ℕ) (out : ℕ → Bool) (x : Reach) (paired : ℕ) : Type 0
  where
    pub inside : paired < length before
    pub was_out : out paired ≡ true
    pub distinct : GivesDistinct (length before) after (without out paired)
    pub came : (l : ℕ) → l < length before → ((l ≢ paired) × (at after l ≡ at before l))
        ⊎ ((has x.reached (at after l) ≡ true) × (at x.from (at after l) ≡ l))
    pub kept : (l : ℕ) → l < length before → out l ≡ true → (l ≢ paired) → at after l ≡ at before l
