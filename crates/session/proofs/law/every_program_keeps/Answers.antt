-- The main theorem, as `proofs/Theorem` has it.
use Rattle.session.proofs.Theorem.{every_program_keeps}
use Rattle.session.proofs.law.every_program_keeps.Goals as goal

pub returns : goal.returns
returns g c = every_program_keeps g.K.Cost g.met.K.Cost.laws
