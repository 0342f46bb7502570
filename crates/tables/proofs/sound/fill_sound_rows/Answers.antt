-- One row more, made from its parts of the tables, or one that shows that not all is sound; at the
-- end all rows are made.
use Rattle.std.proofs.Common.{◌≡◌, ◌<◌, ◌+◌, length, slice_index_or, slice_set, sym, refl, ap}
use Rattle.std.proofs.Common.{◌∙◌, subst, arith}
use Rattle.std.proofs.lemmas.Bool.{false≢true}
use Rattle.cost.specs.declared.TheConstants.{PRICE_LIMIT}
use Rattle.cost.specs.Columns.{AreWithin}
use Rattle.tables.specs.Lent.{lent, ArePriced}
use Rattle.tables.specs.Sound.{IsSound}
use Rattle.tables.proofs.Filling.{value_at}
use Rattle.tables.proofs.Sounding.{AreFilled, filled_more, row_of_sound, all_sound, tight_rows}
use Rattle.tables.proofs.sound.fill_sound_rows.Goals as goal

pub sound_row-requires-clause-left_near : goal.sound_row-requires-clause-left_near
sound_row-requires-clause-left_near g c =
    let t = c.tables.inside in
    let l = c.loop-l.l in
    let priced = subst (ArePriced g.K.Cost) (sym c.tables.view_is) c.requires.priced in
    let inside : l < t.size = omega (arith, ap (λ u. u.size) c.tables.view_is) in
    subst (AreWithin PRICE_LIMIT) (sym (value_at g.K.Cost t.left.now l
    (slice_index_or t.left.now l c.index-tables-l.result) (omega (arith, priced.room.left_long))
    (ap (slice_index_or t.left.now l) c.index-tables-l.is))) (priced.left_near l inside)

pub loop-l-preserved : goal.loop-l-preserved
loop-l-preserved g c =
    let kind = g.K.Cost in
    let s = c.tables.inside in
    let t = lent s.size s.costs.now s.standing.now s.partners.now s.left.now s.right.now in
    let l = c.loop-l.l in
    let rows = c.loop-l.rows in
    let priced = subst (ArePriced kind) (sym c.tables.view_is) c.requires.priced in
    let inside : l < s.size = omega (arith, ap (λ u. u.size) c.tables.view_is) in
    let in_rows : l < length rows = omega arith in
    subst (λ u. AreFilled kind u (l + 1) (slice_set rows l c.in-Some.tight)) c.tables.view_is
    (filled_more kind t priced.room l (slice_index_or s.left.now l c.index-tables-l.result)
    c.part_of-costs.result.now c.part_of-standing.result.now inside
    (ap (slice_index_or s.left.now l) c.index-tables-l.is) c.part_of-costs.ensures
    c.part_of-standing.ensures rows c.in-Some.tight in_rows
    (subst (λ u. AreFilled kind u l rows) (sym c.tables.view_is) c.loop-l.invariant)
    c.in-Some.ensures.sound c.in-Some.ensures.tight)

pub returns-in-None-clause-sound : goal.returns-in-None-clause-sound
returns-in-None-clause-sound g c =
    let kind = g.K.Cost in
    let s = c.tables.inside in
    let t = lent s.size s.costs.now s.standing.now s.partners.now s.left.now s.right.now in
    let l = c.loop-l.l in
    let priced = subst (ArePriced kind) (sym c.tables.view_is) c.requires.priced in
    let inside : l < s.size = omega (arith, ap (λ u. u.size) c.tables.view_is) in (
      λ e. absurd (false≢true e),
      λ h. absurd (c.in-None.ensures.unsound
          (row_of_sound kind t priced.room l
          (slice_index_or s.left.now l c.index-tables-l.result)
          c.part_of-costs.result.now c.part_of-standing.result.now inside
          (ap (slice_index_or s.left.now l) c.index-tables-l.is) c.part_of-costs.ensures
          c.part_of-standing.ensures (subst (IsSound kind) (sym c.tables.view_is) h))),
    )

pub returns : goal.returns
returns g c =
    let kind = g.K.Cost in
    let t = c.args.tables.now in
    let long : length c.loop-l.rows ≡ t.size = c.loop-l.auto.rows ∙ c.requires.long in
    let done : c.loop-l.l ≡ t.size = omega arith in
    let filled = subst (λ k. AreFilled kind t k c.loop-l.rows) done c.loop-l.invariant in
    record {
      sound = (
        λ _. all_sound kind t c.requires.priced.room c.loop-l.rows filled,
        λ _. refl,
      );
      tight = tight_rows kind t c.requires.priced.room c.loop-l.rows filled
          g.met.K.Cost.laws.column_count long;
    }
