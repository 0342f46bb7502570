-- The two starts: pairs that cost least at their right blocks go with the prices that are these
-- least costs, and no pair at all goes with any prices.
-- Idea: a left block's own right block is at its price exactly, and every other right block that it
-- stands with is at most at its cost. No right block comes twice, since it is cheapest with one
-- left block only.
use Rattle.std.proofs.Common.{◌≡◌, ◌<◌, Bool, true, false, List, ℕ, length, ℤ, arith}
use Rattle.std.proofs.lemmas.Bool.{both_ways}
use Rattle.std.proofs.lemmas.Int.{ints}
use Rattle.blockset.specs.Has.{has}
use Rattle.pairing.specs.Grid.{at}
use Rattle.matching.specs.declared.chains.Holders.{Holders}
use Rattle.assign.specs.declared.tree.Cheapest.{Cheapest}
use Rattle.assign.specs.declared.tree.FirstPairs.{FirstPairs}
use Rattle.assign.specs.Search.{Graph, pairing, Kept}
use Rattle.assign.specs.Pairs.{AreCheapest, AreChosen}

pub cheaply_kept : {g : Graph} {stands : ℕ → ℕ → Bool} {of : Cheapest} {v : ℕ → ℤ}
    → AreCheapest g.size g.size stands g.cost of v
    → ((l c : ℕ) → stands l c ≡ true → g.stands l c ≡ true)
    → ((l c : ℕ) → l < g.size → c < g.size → g.stands l c ≡ true → stands l c ≡ true)
    → {p : List ℕ} {made : FirstPairs}
    → length p ≡ g.size → AreChosen g.size of p made
    → Kept g (pairing (has made.out) p made.holders v)
cheaply_kept {g = g} {of = of} cheapest part whole {p = p} sized chosen = record {
  pairs = record {
    len = sized;
    below = λ l h u. grind (arith, chosen.cheap l, cheapest.inside);
    standing = λ l h u. grind (arith, chosen.cheap l, cheapest.stood, part l (at p l));
    once = λ l m hl hm ul um e. grind (arith, chosen.cheap l, chosen.cheap m);
  };
  holding = chosen.holding;
  fair = λ l c h u i s. grind
      (arith, ints, chosen.cheap l, cheapest.costs (at p l), cheapest.least l c, whole l c);
}

-- where no left block is paired, any prices go with that
pub unpaired_kept : {g : Graph} {p : List ℕ} → length p ≡ g.size → {out : ℕ → Bool}
    → ((l : ℕ) → l < g.size → out l ≡ true) → (o : Holders) → ((c : ℕ) → has o.held c ≡ false)
    → (v : ℕ → ℤ) → Kept g (pairing out p o v)
unpaired_kept {g = g} sized {out = out} all o none v = record {
  pairs = record {
    len = sized;
    below = λ l h u. absurd (both_ways (out l) u (all l h));
    standing = λ l h u. absurd (both_ways (out l) u (all l h));
    once = λ l m h i u. absurd (both_ways (out l) u (all l h));
  };
  holding = record {
    all = λ l _ h u. absurd (both_ways (out l) u (all l (omega (arith, sized))));
    low = λ c t. absurd (both_ways (has o.held c) (none c) t);
    high = λ c t. absurd (both_ways (has o.held c) (none c) t);
    inside = λ c t. absurd (both_ways (has o.held c) (none c) t);
    owner = λ c t. absurd (both_ways (has o.held c) (none c) t);
  };
  fair = λ l c h u. absurd (both_ways (out l) u (all l h));
}
