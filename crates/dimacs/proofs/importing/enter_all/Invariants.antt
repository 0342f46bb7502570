-- Lines lead from where the reader stands to the end of the text, and the tables are those after
-- the pairs that came; each line leaves less of the text.
use Rattle.std.proofs.Common.{◌≡◌, length, drop}
use Rattle.orderfile.specs.Format.{StatedOrder}
use Rattle.dimacs.specs.Readers.{text_of, offset_of}
use Rattle.dimacs.specs.Texts.{States}
use Rattle.dimacs.proofs.Entering.{IsAhead}
use Rattle.dimacs.proofs.importing.enter_all.Given as goal

abbrev pub invariant-loop-line : goal.invariant-loop-line
invariant-loop-line l = record {
  text : text_of l.lines ≡ l.text;
  ahead : (order : StatedOrder) (s : States l.text order) (size : order.size ≡ l.n)
      → IsAhead s size l.initial.costs l.initial.standing (offset_of l.lines) l.costs l.standing;
}

abbrev pub decreases-loop-line : goal.decreases-loop-line
decreases-loop-line l = length (drop (offset_of l.lines) (text_of l.lines))
