-- The pairs of the left blocks before l are sound, and their rows hold what is tight.
use Rattle.tables.proofs.Sounding.{AreFilled}
use Rattle.tables.proofs.sound.fill_sound_rows.Given as goal

abbrev pub invariant-loop-l : goal.invariant-loop-l
invariant-loop-l g l = AreFilled g.K.Cost l.tables l.l l.rows
