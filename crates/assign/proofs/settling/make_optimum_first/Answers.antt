-- An optimum pairing is one over the tight rows of its prices, and the first one there is the first
-- of all.
use Rattle.assign.proofs.Firsts.{are_solved, priced, sound, paired, settled}
use Rattle.assign.proofs.settling.make_optimum_first.Goals as goal

pub tight_within-rows-requires : goal.tight_within-rows-requires
tight_within-rows-requires g c =
    let solved = are_solved c.requires.usable c.requires.solved in
    record { priced = priced solved; sound = sound solved }

pub make_first-requires-clause-pairs : goal.make_first-requires-clause-pairs
make_first-requires-clause-pairs g c =
    let solved = are_solved c.requires.usable c.requires.solved in
    let rows = c.tight_within-rows in
    rw c.as_slice.ensures.rows
    (paired solved g.met.K.Cost.laws.column_count rows.result rows.ensures)

pub returns : goal.returns
returns g c =
    let solved = are_solved c.requires.usable c.requires.solved in
    let rows = c.tight_within-rows in
    let done = settled solved g.met.K.Cost.laws.column_count rows.result rows.ensures
    c.make_first.new.p c.make_first.auto.p (rw c.as_slice.ensures.rows at c.make_first.ensures) in
    record { first = done.0; together = done.1 }
