-- What stands in no row of a later left block is kept.
-- Idea: the rows that are gathered are those from l + 1 on, so the right block would be in their
-- union if one of these had it.
use Rattle.std.proofs.Common.{◌≡◌, ℕ, ◌+◌, ◌-◌, ◌<◌, ◌≤◌, true, List, length, drop}
use Rattle.std.proofs.Common.{slice_index_or, ◌∙◌, arith}
use Rattle.std.specs.List.{list_any}
use Rattle.std.proofs.lemmas.Bool.{both_ways}
use Rattle.std.proofs.lemmas.Grind.{common_steps}
use Rattle.std.proofs.lemmas.List.Folds.{list_any-from_Any}
use Rattle.blockset.specs.declared.BlockSet.{BlockSet}
use Rattle.blockset.specs.Has.{has, no_blocks}
use Rattle.pairing.specs.Grid.{at}
use Rattle.pairing.specs.Rows.{holds}
use Rattle.matching.proofs.Order.{IsInNoneFrom, lowest}
use Rattle.matching.proofs.stepping.lower.Goals as goal

found : (rows : List BlockSet) (l m block : ℕ) → l + 1 ≤ m → m < length rows
    → holds rows m block ≡ true
    → list_any (λ row. has row block) (drop (l + 1) rows) ≡ true
found rows l m block later inside h = list_any-from_Any (λ row. has row block) _ (
  m - (l + 1),
  slice_index_or rows m no_blocks,
  grind (arith, common_steps),
  grind (arith, common_steps),
  h,
)

pub returns-else-contains-clause-improved : goal.returns-else-contains-clause-improved
returns-else-contains-clause-improved c =
    let rows = c.args.rows.now in
    let block = at c.args.p.now c.args.l in
    let gathered = c.contains.ensures ∙ c.union_from.ensures block in
    let none : IsInNoneFrom (c.args.l + 1) rows block = λ m later inside h.
    both_ways c.contains.result c.if-contains.false
    (gathered ∙ found rows c.args.l m block later inside h) in
    lowest rows c.args.p.now c.requires.pairs c.args.l c.requires.inside none
