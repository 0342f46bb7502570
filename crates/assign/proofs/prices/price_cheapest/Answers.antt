-- Each turn is one step of proofs/Pricing.antt: left block l offers its part of the cost table,
-- with nothing added, so that no price is beyond a cost.
use mathlib.Core.Path.{fun_ext}
use Rattle.std.proofs.Common.{ℕ, ◌&&◌, ◌||◌, length, replicate, sym, refl, ap, ◌∙◌, subst}
use Rattle.std.proofs.Common.{arith}
use Rattle.std.proofs.lemmas.Bool.{and_parts}
use Rattle.blockset.specs.Has.{has}
use Rattle.pairing.specs.Grid.{at}
use Rattle.assign.specs.Offers.{Offered}
use Rattle.blockset.specs.declared.TheConstants.{SET_WIDTH}
use Rattle.cost.specs.declared.TheConstants.{COST_LIMIT, HALF_RAIL}
use Rattle.cost.specs.Columns.{AreWithin}
use Rattle.cost.proofs.Exact.{zeros_within, within_more}
use Rattle.cost.specs.Weights.{weight}
use Rattle.cost.proofs.Weights.{weight_zeros}
use Rattle.pairing.specs.Rows.{holds}
use Rattle.tables.specs.Said.{columns_at}
use Rattle.tables.proofs.Filling.{row_length}
use Rattle.assign.specs.declared.limits.TheConstants.{SHIFT_LIMIT}
use Rattle.assign.specs.Weighed.{weight_at, cost_weight}
use Rattle.assign.proofs.Entries.{part_of, part_is, row_modest}
use Rattle.assign.proofs.Pricing.{cleared_within, cheapest_none, cheapest_more}
use Rattle.assign.proofs.prices.price_cheapest.Goals as goal

pub loop-l-init : goal.loop-l-init
loop-l-init g c =
    let kind = g.K.Cost in
    let n = length c.args.rows.now in
    record {
      cheapest = cheapest_none n
          (λ l j. holds c.args.rows.now l j && (has c.args.from l && has c.args.to j))
          (cost_weight kind n c.args.costs.now)
          (record { priced = c.empty-priced.result; owner = replicate SET_WIDTH 0 })
          (weight_at kind c.clear.new.table) c.empty-priced.ensures;
      bound = λ k h. cleared_within kind g.K.Cost.zero g.K.Cost.columns
          g.met.K.Cost.laws.zero_columns (length c.args.right.now) c.clear.new.table
          c.clear.ensures COST_LIMIT k (omega (arith, c.requires.rights));
    }

pub offer_all-requires : goal.offer_all-requires
offer_all-requires g c =
    let kind = g.K.Cost in
    let l = c.loop-l.l in
    let lies = c.loop-l-test.true in
    let long = row_length c.args.costs.now (length c.args.rows.now) l lies
    c.requires.lent.square in
    record {
      modest = row_modest c.requires.lent l lies refl refl
          (subst (AreWithin SHIFT_LIMIT)
          (sym (ap kind.meaning c.zero.ensures ∙ g.met.K.Cost.laws.zero_columns))
          (zeros_within SHIFT_LIMIT g.K.Cost.columns))
          (λ j r. (and_parts (holds c.args.rows.now l j) (has c.args.from l && has c.args.to j)
          (sym (c.row_between-row.ensures j) ∙ r)).0);
      sized = omega (arith, long, c.loop-l.auto.right, c.clear.auto.table, c.requires.rights);
      inside = λ j r. omega (
        arith,
        long,
        c.requires.lent.inside l j lies (and_parts
            (holds c.args.rows.now l j) ((has c.args.from l && has c.args.to j))
            (sym (c.row_between-row.ensures j) ∙ r)).0,
      );
      known = λ j t. within_more COST_LIMIT HALF_RAIL (columns_at kind c.loop-l.right j)
          (omega arith) (c.loop-l.invariant.bound j (c.loop-l.invariant.cheapest.inside j t));
    }

pub loop-l-preserved : goal.loop-l-preserved
loop-l-preserved g c =
    let kind = g.K.Cost in
    let rows = c.args.rows.now in
    let n = length rows in
    let from = c.args.from in
    let to = c.args.to in
    let l = c.loop-l.l in
    let lies = c.loop-l-test.true in
    let zero = ap kind.meaning c.zero.ensures ∙ g.met.K.Cost.laws.zero_columns in
    record {
      cheapest = cheapest_more n (λ m j. holds rows m j && (has from m && has to j))
          (cost_weight kind n c.args.costs.now) l
          (record { priced = c.loop-l.priced; owner = c.loop-l.owner })
          (record { priced = c.union-priced.result; owner = c.offer_all.new.via })
          (weight_at kind c.loop-l.right) (weight_at kind c.offer_all.new.dist)
          c.loop-l.invariant.cheapest (weight (kind.meaning c.zero.result))
          (ap weight zero ∙ weight_zeros g.K.Cost.columns)
          (weight_at kind (part_of n l c.args.costs.now))
          (λ j r. c.requires.lent.inside l j lies
          (and_parts (holds rows l j) (has from l && has to j) r).0)
          (λ j r. ap weight (part_is c.requires.lent l lies j
          (and_parts (holds rows l j) (has from l && has to j) r).0))
          (λ j. c.union-priced.ensures j
          ∙ ap (λ z. has c.loop-l.priced j || z) (c.row_between-row.ensures j))
          (subst (λ to. (j : ℕ) → Offered (weight (kind.meaning c.zero.result))
          (weight_at kind (part_of n l c.args.costs.now)) l to (has c.loop-l.priced)
          (weight_at kind c.loop-l.right) (at c.loop-l.owner) (weight_at kind c.offer_all.new.dist)
          (at c.offer_all.new.via) j)
          (fun_ext c.row_between-row.ensures) c.offer_all.ensures.offered);
      bound = λ k h. c.offer_all.ensures.bound 0 k
          (subst (AreWithin 0) (sym zero) (zeros_within 0 g.K.Cost.columns)) (omega arith)
          (λ _. c.loop-l.invariant.bound k h) (λ _. c.loop-l.invariant.bound k h);
    }
