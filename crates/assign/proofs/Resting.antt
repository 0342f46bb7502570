-- Where every right price is zero, the last search need not be made: what it would find is known.
-- Idea: the prices go with the pairing, so at prices that are all the same no left block has a
-- cheaper pair than its own. Hence no left block offers less than the distance 0 that every right
-- block has from the start, and a search may take the right blocks one by one at that distance.
use Rattle.std.proofs.Common.{◌≡◌, ℕ, ◌+◌, ◌<◌, false, All, List, [], length, replicate, pos}
use Rattle.std.proofs.Common.{refl, ap, ◌∙◌, inl, arith}
use Rattle.std.proofs.lemmas.Int.{ints}
use Rattle.std.proofs.lemmas.List.{get_or-map}
use Rattle.cost.specs.declared.Cost.{Ghosts}
use Rattle.cost.specs.Columns.{zeros}
use Rattle.cost.specs.Weights.{weight}
use Rattle.cost.proofs.Weights.{weight_zeros}
use Rattle.blockset.specs.declared.BlockSet.{BlockSet}
use Rattle.pairing.specs.Grid.{at}
use Rattle.matching.specs.declared.chains.Holders.{Holders}
use Rattle.assign.specs.declared.limits.TheConstants.{DISTANCE_LIMIT}
use Rattle.assign.specs.Weighed.{weight_at}
use Rattle.assign.specs.Search.{Graph, Pairing, from_all, Course, course, Kept, Grown}
use Rattle.assign.specs.Pairs.{so_far, IsPriced}
use Rattle.assign.proofs.Pricing.{cleared_within, cleared_weighs}
use Rattle.assign.proofs.Sweeping.{all_held, AreDistances}

-- every right block is taken at the distance 0
abbrev at_rest : Course
at_rest = course (λ _. pos 0) (λ _. 0) (λ c. c + 2)

-- all left blocks are paired, and each right price is zero
module _ {g : Graph} {q : Pairing} (kept : Kept g q) (all : (l : ℕ) → q.out l ≡ false)
    (zero : (c : ℕ) → c < g.size → q.price c ≡ pos 0) where
  rests : Grown g q from_all at_rest g.size g.size
  rests = record {
    offered = λ c h e. (omega arith, omega (arith, ints));
    relaxed = λ a c ha hc m x st.
        let l = at q.holders.owner a in
        let t = all_held kept all a ha in (
          omega arith,
          grind (
            arith,
            ints,
            kept.holding.owner a t,
            kept.fair l c (omega (arith, kept.holding.high a t, kept.pairs.len)) (all l) hc st,
            zero a ha,
            zero c hc,
          ),
        );
    ordered = λ a c ha hc m e. absurd (omega arith);
    last = λ c h x. absurd (omega arith);
    held = λ c h m x. all_held kept all c h;
    source = λ c h m. inl (tt, refl, refl);
    turns = λ c h. omega arith;
  }

-- the distances are those of a cleared table
module _ {K : Type 0} {kind : Ghosts K} (nothing : kind.meaning kind.zero ≡ zeros kind.columns)
    {rows : List BlockSet} {costs : List K} {partners : List ℕ} {holders : Holders}
    {right : List K} (long : length right ≡ length rows)
    (paired : IsPriced kind rows costs (so_far (λ _. false) partners holders right))
    (zero : All (λ price. kind.meaning price ≡ zeros kind.columns) right) (table : List K)
    (cleared : table ≡ replicate (length rows) kind.zero) where
  price_is : (c : ℕ) → c < length rows → weight_at kind right c ≡ pos 0
  price_is c h =
      let b : c < length right = omega arith in
      ap weight (get_or-map kind.meaning right c kind.zero [] b ∙ zero c kind.zero b)
      ∙ weight_zeros kind.columns

  pub rested : AreDistances kind rows costs partners holders (weight_at kind right) table
  rested = record {
    search = at_rest;
    turns = length rows;
    grown = rests paired.kept (λ _. refl) price_is;
    done = λ c h e. omega arith;
    told = cleared_weighs kind kind.zero kind.columns nothing (length rows) table cleared;
    near = cleared_within kind kind.zero kind.columns nothing (length rows) table cleared
        DISTANCE_LIMIT;
  }
