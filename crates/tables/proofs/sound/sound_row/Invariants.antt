-- What was gathered tells whether the pairs before r are sound, and if they are, the row has just
-- the right blocks before r that are tight.
use Rattle.tables.proofs.Sounding.{IsGathered}
use Rattle.tables.proofs.sound.sound_row.Given as goal

abbrev pub invariant-loop-r : goal.invariant-loop-r
invariant-loop-r g l = IsGathered g.K.Cost l.costs l.standing (g.K.Cost.meaning l.left) l.right l.r
    l.seen l.faults l.row
