-- Whose the right blocks are that are had.
-- Idea: the holder of a right block has it as its own, and no two left blocks have the same one.
use Rattle.std.proofs.Common.{◌≡◌, ℕ, ◌<◌, true, false, arith}
use Rattle.blockset.specs.Has.{has}
use Rattle.pairing.specs.Grid.{at}
use Rattle.assign.specs.Offers.{HaveOwners}
use Rattle.assign.specs.Search.{Graph, Pairing, Kept}

module _ {g : Graph} {q : Pairing} (kept : Kept g q) where
  -- the right block of a left block is had by it
  pub own_row : (l : ℕ) → l < g.size → q.out l ≡ false
      → at q.holders.owner (at q.partners l) ≡ l
  own_row l h u =
      let c = at q.partners l in
      let t = kept.holding.all l (omega arith) (omega (arith, kept.pairs.len)) u in
      kept.pairs.once (at q.holders.owner c) l
      (omega (arith, kept.holding.high c t, kept.pairs.len)) h
      (kept.holding.inside c t) u (kept.holding.owner c t)

  pub owners_of : HaveOwners g.size q.holders
  owners_of = record {
    below = λ c t. omega (arith, kept.holding.high c t, kept.pairs.len);
    apart = λ b c s t e. grind (arith, kept.holding.owner b, kept.holding.owner c);
  }

  -- a left block stands with the right block that it has
  pub owner_stands : (c : ℕ) → has q.holders.held c ≡ true
      → g.stands (at q.holders.owner c) c ≡ true
  owner_stands c t = grind (
    arith,
    kept.holding.owner c,
    kept.holding.inside c,
    kept.pairs.standing (at q.holders.owner c),
    owners_of.below c,
  )
