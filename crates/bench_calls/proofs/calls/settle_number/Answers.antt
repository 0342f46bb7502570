-- More than MOST_BLOCKS partners are refused before the call, for the flaw that it would name.
use Rattle.std.proofs.Common.{refl, Err}
use Rattle.tables.specs.declared.flaw.Flaw.TheVariants.{Size}
use Rattle.bench_calls.proofs.calls.settle_number.Goals as goal

pub returns-then-partners : goal.returns-then-partners
returns-then-partners g c = (Err Size, refl, (c.if-partners.true, refl))
