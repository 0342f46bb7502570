-- The text has the lines up to here, and the list is the pairing of the next line.
use Rattle.std.proofs.Common.{◌≡◌, ◌++◌, take, string_bytes}
use Rattle.pairing.specs.Optima.{optima}
use Rattle.matching.specs.Answers.{IsNth}
use Rattle.tables.specs.Lent.{grid}
use Rattle.orderfile.specs.Loading.{plain_kind}
use Rattle.report.specs.Listing.{pairing_lines}
use Rattle.report.proofs.list_file.push_pairings.Given as goal

abbrev pub invariant-loop : goal.invariant-loop
invariant-loop l = record {
  lines : string_bytes l.text ≡ string_bytes l.initial.text
      ++ pairing_lines (take l.counter (optima (grid plain_kind l.tables)));
  here : IsNth (optima (grid plain_kind l.tables)) l.counter l.list;
}
