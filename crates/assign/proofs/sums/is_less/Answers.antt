-- Values on the rail compare as they weigh.
use Rattle.std.proofs.Common.{◌≡◌, true, Ordering, Less, Equal, Greater, sym, refl, ap, ◌∙◌, arith}
use Rattle.std.specs.Ordering.{is_lt}
use Rattle.std.proofs.lemmas.Bool.{true≢false}
use Rattle.cost.specs.declared.TheConstants.{RAIL}
use Rattle.cost.proofs.Exact.{within_more}
use Rattle.cost.proofs.Weights.{less_is, not_less_is}
use Rattle.assign.proofs.sums.is_less.Goals as goal

is_less_lem : (o : Ordering) → is_lt o ≡ true → o ≡ Less
is_less_lem Less h = refl
is_less_lem Equal h = absurd (true≢false (sym h))
is_less_lem Greater h = absurd (true≢false (sym h))

pub returns : goal.returns
returns g c =
    let m = g.K.Cost.meaning in
    let a = m c.args.a in
    let b = m c.args.b in
    let said = c.is_less_near.ensures in
    let same = g.met.K.Cost.laws.column_count c.args.a
    ∙ sym (g.met.K.Cost.laws.column_count c.args.b) in
    let wa = within_more RAIL 4000000000000000000 a (omega arith)
    (g.met.K.Cost.laws.on_rail c.args.a) in
    let wb = within_more RAIL 4000000000000000000 b (omega arith)
    (g.met.K.Cost.laws.on_rail c.args.b) in
    record {
      less = λ e. less_is a b same wa wb (is_less_lem _ (sym said ∙ e));
      not_less = λ e. not_less_is a b same wa wb (λ z. true≢false (sym (said ∙ ap is_lt z) ∙ e));
    }
