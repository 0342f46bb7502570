-- A slice with these bounds is the part.
use Rattle.tables.proofs.Filling.{slice_is_part}
use Rattle.tables.proofs.pair_tables.part_of.Goals as goal

pub returns : goal.returns
returns g c = rw c.rights-width.ensures
    (slice_is_part c.args.n c.args.l c.args.table.now c.requires.inside c.requires.long)
