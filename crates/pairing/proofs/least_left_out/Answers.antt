-- The theorem itself, proved in proofs/Crowds.antt, at both ways of the comparison.
use Rattle.std.proofs.Common.{refl, arith}
use Rattle.pairing.proofs.Crowds.{leaves_out}
use Rattle.pairing.proofs.least_left_out.Goals as goal

pub returns-then-few-many : goal.returns-then-few-many
returns-then-few-many c = leaves_out c.args.many c.args.few _ refl

pub returns-else-few-many : goal.returns-else-few-many
returns-else-few-many c = leaves_out c.args.many c.args.few 0 (omega arith)
