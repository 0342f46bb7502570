-- The cheapest pairs go with the cheapest prices, and none of these is farther than a cost; prices
-- of zero go with no pair at all.
use Rattle.std.proofs.Common.{◌≡◌, ℕ, ◌<◌, ◌≤◌, Bool, true, ◌&&◌, ltb, length, replicate, ◌∙◌}
use Rattle.std.proofs.Common.{arith}
use Rattle.std.proofs.lemmas.Bool.{and_parts, and_from, lt-ltb}
use Rattle.cost.specs.declared.TheConstants.{COST_LIMIT}
use Rattle.cost.proofs.Exact.{within_more}
use Rattle.blockset.specs.Has.{has}
use Rattle.blockset.proofs.Members.{members-le, members-within}
use Rattle.pairing.specs.Rows.{holds}
use Rattle.tables.specs.Said.{columns_at}
use Rattle.assign.specs.declared.limits.TheConstants.{INNER_PRICE_LIMIT}
use Rattle.assign.specs.Weighed.{weight_at}
use Rattle.assign.proofs.Cheaply.{cheaply_kept, unpaired_kept}
use Rattle.assign.proofs.Pricing.{cleared_within}
use Rattle.assign.proofs.pairs.begin.Goals as goal

pub overflow_sub-n : goal.overflow_sub-n
overflow_sub-n g c = omega (
  arith,
  c.len.ensures,
  members-within 64 (length c.args.rows.now) (has c.pair_cheapest-some.result.out)
      c.requires.lent.few c.pair_cheapest-some.ensures.inside,
  members-le (length c.args.rows.now) (has c.pair_cheapest-some.result.out),
)

pub pair_cheapest-requires-clause-inside : goal.pair_cheapest-requires-clause-inside
pair_cheapest-requires-clause-inside g c = λ j t. (
  c.price_cheapest-cheapest.ensures.cheapest.inside j t,
  c.price_cheapest-cheapest.ensures.cheapest.low j t,
)

-- all right blocks of n are in the set of all
whole : (all : ℕ → Bool) (n : ℕ) → ((c : ℕ) → all c ≡ (ltb c 64 && ltb c n)) → n ≤ 64 → (c : ℕ)
    → c < n → all c ≡ true
whole all n is few c h =
    is c ∙ and_from (ltb c 64) (ltb c n) (lt-ltb c 64 (omega arith)) (lt-ltb c n h)

pub returns-then-n-len-clause-paired : goal.returns-then-n-len-clause-paired
returns-then-n-len-clause-paired g c =
    let rows = c.args.rows.now in
    let all = has c.all-all.result in
    let cheapest = c.price_cheapest-cheapest in
    let inside = whole all (length rows) c.all-all.ensures c.requires.lent.few in
    record {
      kept = cheaply_kept cheapest.ensures.cheapest
          (λ l j t. (and_parts (holds rows l j) (all l && all j) t).0)
          (λ l j i h t. and_from (holds rows l j) (all l && all j) t (and_from (all l) (all j)
          (inside l i) (inside j h)))
          (c.pair_cheapest.auto.partners ∙ c.pair_cheapest-some.auto.partners
          ∙ c.requires.partnered) c.pair_cheapest.ensures;
      priced = λ j h. within_more COST_LIMIT INNER_PRICE_LIMIT
          (columns_at g.K.Cost cheapest.new.right j) (omega arith) (cheapest.ensures.bound j h);
      unsold = λ j h _. cheapest.ensures.bound j h;
    }

pub returns-clause-paired : goal.returns-clause-paired
returns-clause-paired g c =
    let kind = g.K.Cost in
    let near = λ (b j : ℕ) (h : j < length c.args.rows.now). cleared_within kind kind.zero
    kind.columns g.met.K.Cost.laws.zero_columns (length c.price_cheapest-sample.new.right)
    c.clear.new.table c.clear.ensures b j
    (omega (arith, c.price_cheapest-sample.auto.right, c.requires.rights)) in
    record {
      kept = unpaired_kept (c.pair_cheapest-some.auto.partners ∙ c.requires.partnered)
          (whole (has c.all-all.result) (length c.args.rows.now) c.all-all.ensures
          c.requires.lent.few)
          (record { held = c.empty.result; owner = replicate 64 0 }) c.empty.ensures
          (weight_at kind c.clear.new.table);
      priced = near INNER_PRICE_LIMIT;
      unsold = λ j h _. near COST_LIMIT j h;
    }

pub returns-clause-near : goal.returns-clause-near
returns-clause-near g c = λ j h. cleared_within g.K.Cost g.K.Cost.zero g.K.Cost.columns
    g.met.K.Cost.laws.zero_columns (length c.price_cheapest-sample.new.right) c.clear.new.table
    c.clear.ensures COST_LIMIT j
    (omega (arith, c.price_cheapest-sample.auto.right, c.requires.rights))
