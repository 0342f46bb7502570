-- Opening over new tables is never refused, and leaves every pair absent.
-- Idea: a refusal would contradict that all needs are met; and what opening two whole tables leaves
-- is what the call says.
use Rattle.std.proofs.Common.{length, ap, ◌∙◌}
use Rattle.sheet.specs.Size.{IsSize}
use Rattle.session.specs.Book.{opened}
use Rattle.session.specs.Program.{state_at}
use Rattle.console_words.proofs.NewTables.{never_refused, absent_in_whole}
use Rattle.console_words.proofs.desk.Desk.open.Goals as goal

pub unreachable-requires : goal.unreachable-requires
unreachable-requires g c =
    let refused = rw c.in_default.is at c.open.ensures.call in
    let size : IsSize c.args.size.blocks =
    record { some = c.args.size.some; few = c.args.size.few } in
    absurd (never_refused _ _ _ _ c.in_default.field-0 size c.in_ok-tables.ensures.lengths
    (ap length c.as_mut_slice.ensures.value) (ap length c.as_mut_slice-2.ensures.value) refused.0)

pub returns : goal.returns
returns g c = record {
  sized = record { some = c.args.size.some; few = c.args.size.few };
  state = ap (λ s. state_at opened s) c.in-Ok.ensures.call.1.0;
  cells = absent_in_whole _ _ c.open.new.costs _ c.open.new.standing _ _ _
      (c.open.auto.costs ∙ c.as_mut_slice.ensures.len)
      (c.open.auto.standing ∙ c.as_mut_slice-2.ensures.len) c.in-Ok.ensures.cells;
}
