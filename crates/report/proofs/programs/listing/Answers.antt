-- The text that was printed is the listing.
use Rattle.std.proofs.Common.{ap, ◌∙◌, Some}
use Rattle.std.proofs.lemmas.Result.{IfOk-weaker}
use Rattle.command.specs.declared.command.Command.TheVariants.{Run}
use Rattle.command.proofs.Obeying.{obeys}
use Rattle.report.specs.declared.input.TheConstants.{MOST_BYTES}
use Rattle.report.specs.declared.programs.TheConstants.{LISTING_USAGE}
use Rattle.report.specs.Listing.{Lists}
use Rattle.report.specs.Programs.{PrintsOf, ListsInput}
use Rattle.report.proofs.Asked.{prints_told}
use Rattle.report.proofs.programs.listing.Goals as goal

pub returns-in_ok-list_input-in-Some-Run : goal.returns-in_ok-list_input-in-Some-Run
returns-in_ok-list_input-in-Some-Run g c =
    let output_of = g.W.Write.contents in
    let errors_of = g.E.Write.contents in
    let to = c.args.to.now in
    let to' = c.print.new.self in
    let words = c.args.words.now in
    let known = g.R.Read.remaining c.args.input in
    let lists = PrintsOf output_of errors_of to to' known MOST_BYTES Lists in
    IfOk-weaker c.print.result lists (ListsInput output_of errors_of to to' known words)
    (λ code listed. obeys output_of errors_of to to' words LISTING_USAGE.now lists code
    c.asked.result Run c.asked.ensures.run c.asked.ensures.help
    (c.in-Some-Run.is ∙ ap Some c.in-Some-Run.field-0-is) listed)
    (prints_told output_of errors_of to to' c.print.result known MOST_BYTES Lists _ _
    c.as_str.ensures.value c.in_ok-list_input-in-Some-Run.ensures c.print.ensures)
