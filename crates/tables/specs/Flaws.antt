-- What a flaw of lent tables displays itself as.
use Rattle.std.specs.Prelude.{ℕ, List, codes}
use Rattle.tables.specs.declared.flaw.Flaw.{Flaw}
use Rattle.tables.specs.declared.flaw.Flaw.TheVariants.{Size, Length, Order}

abbrev pub flaw_text : Flaw → List ℕ
flaw_text Size = codes "more than 64 blocks a plane"
flaw_text Length = codes "a table of the wrong length"
flaw_text Order = codes "a standing byte above 1, or a standing pair's cost not within 10^9"
