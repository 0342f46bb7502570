-- A value that compares as equal to zero is zero in each column, and the other way round.
-- Idea: all values of a kind have the same number of columns, and of two such only the same compare
-- as equal. Zero has 0 in each of its columns.
use Rattle.std.proofs.Common.{sym, ap, ◌∙◌}
use Rattle.std.specs.Cmp.{Equal-is}
use Rattle.std.specs.Ordering.{is_eq}
use Rattle.cost.specs.Columns.{lex}
use Rattle.cost.proofs.Order.{lex_same, lex_refl}
use Rattle.assign.proofs.prices.is_zero.Goals as goal

pub returns : goal.returns
returns g c =
    let meaning = g.K.Cost.meaning in
    let laws = g.met.K.Cost.laws in
    let value = meaning c.args.value in
    let nought = meaning c.zero.result in
    let wide = laws.column_count c.args.value ∙ sym (laws.column_count c.zero.result) in
    let nothing = ap meaning c.zero.ensures ∙ laws.zero_columns in (
      λ t. lex_same value nought wide
          ((Equal-is (lex value nought)).0 (sym c.is_equal_near.ensures ∙ t)) ∙ nothing,
      λ e. c.is_equal_near.ensures
          ∙ ap (λ xs. is_eq (lex xs nought)) (e ∙ sym nothing)
          ∙ ap is_eq (lex_refl nought),
    )
