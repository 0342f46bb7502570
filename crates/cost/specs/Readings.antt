-- Which cost of a pair stands once a reading of it is entered.
use Rattle.std.specs.Prelude.{if◌then◌else◌, Some, None, Option}
use Rattle.std.specs.Ordering.{is_lt}
use Rattle.cost.specs.declared.Cost.{Ghosts}
use Rattle.cost.specs.Columns.{lex}

-- Nothing stood there: the reading. A cost did: the worse of the two, which is the greater as a
-- whole value, and of two that compare as equal the earlier. A kind may have several values with
-- the same columns, so this tells which of them it is.
abbrev pub worse : {K : Type 0} → Ghosts K → Option K → K → K
worse kind None reading = reading
worse kind (Some cost) reading =
    (if is_lt (lex (kind.meaning cost) (kind.meaning reading)) then reading else cost)
