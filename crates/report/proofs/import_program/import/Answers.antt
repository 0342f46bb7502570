-- What was printed is what was asked for.
use Rattle.std.proofs.Common.{ap, ◌∙◌, codes, Some}
use Rattle.report.specs.declared.form.Form.TheVariants.{Lines}
use Rattle.report.specs.declared.import_program.TheConstants.{IMPORT_USAGE}
use Rattle.report.specs.declared.input.TheConstants.{MOST_TEXT_BYTES}
use Rattle.report.specs.Describing.{DescribesText}
use Rattle.report.specs.Programs.{PrintsOf, Exports}
use Rattle.report.proofs.Asked.{prints_told, obeys_word}
use Rattle.report.proofs.import_program.import.Goals as goal

pub returns-in_ok-describe_text_input-in-Some-Lines :
    goal.returns-in_ok-describe_text_input-in-Some-Lines
returns-in_ok-describe_text_input-in-Some-Lines g c =
    let output_of = g.W.Write.contents in
    let errors_of = g.E.Write.contents in
    let to = c.args.to.now in
    let to' = c.print.new.self in
    let known = g.R.Read.remaining c.args.input in
    obeys_word output_of errors_of to to' c.print.result c.args.words.now (codes "order")
    IMPORT_USAGE.now (PrintsOf output_of errors_of to to' known MOST_TEXT_BYTES DescribesText)
    (Exports output_of errors_of to to' known) c.asked.result Lines c.asked.ensures
    (c.in-Some-Lines.is ∙ ap Some c.in-Some-Lines.field-0-is)
    (prints_told output_of errors_of to to' c.print.result known MOST_TEXT_BYTES DescribesText
    _ _ c.as_str.ensures.value c.in_ok-describe_text_input-in-Some-Lines.ensures c.print.ensures)
