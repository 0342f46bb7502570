-- Past the test of the lengths, the test of the order decides.
use Rattle.std.proofs.Common.{sym, ◌∙◌, subst}
use Rattle.std.proofs.lemmas.Bool.{both_ways}
use Rattle.tables.specs.PairTables.{in_order}
use Rattle.pairing.specs.Places.{places_of}
use Rattle.tables.specs.Lent.{HasLengths, IsUsable, IsUnusable}
use Rattle.tables.specs.declared.flaw.Flaw.TheVariants.{Order}
use Rattle.tables.proofs.Orderly.{in_order_tells}
use Rattle.tables.proofs.lent.check_usable.Goals as goal

pub returns-then-not-in_order-clause-unusable : goal.returns-then-not-in_order-clause-unusable
returns-then-not-in_order-clause-unusable g c =
    let t = c.tables.inside in
    let long = subst HasLengths (sym c.tables.view_is) (c.fit.ensures.0 c.if-not-fit.false) in
    let told = in_order_tells g.K.Cost t.costs.now t.standing.now (places_of t.size)
    long.room.costs_long long.room.standing_long in
    subst (λ u. IsUnusable g.K.Cost u Order) c.tables.view_is (
      c.if-tables-gt-MOST_BLOCKS.false,
      long,
      λ o. both_ways (in_order g.K.Cost.meaning t.costs.now t.standing.now)
          (sym c.in_order.ensures ∙ c.if-not-in_order.true) (told.1 o),
    )

pub returns-clause-usable : goal.returns-clause-usable
returns-clause-usable g c =
    let t = c.tables.inside in
    let long = subst HasLengths (sym c.tables.view_is) (c.fit.ensures.0 c.if-not-fit.false) in
    let told = in_order_tells g.K.Cost t.costs.now t.standing.now (places_of t.size)
    long.room.costs_long long.room.standing_long in
    subst (IsUsable g.K.Cost) c.tables.view_is (record {
      few = c.if-tables-gt-MOST_BLOCKS.false;
      lengths = long;
      in_order = told.0 (sym c.in_order.ensures ∙ c.if-not-in_order.false);
    })
