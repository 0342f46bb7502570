-- The text that was printed is the one that was asked for.
use Rattle.std.proofs.Common.{ap, ◌∙◌, codes, Some}
use Rattle.report.specs.declared.form.Form.TheVariants.{Lines, ByWord}
use Rattle.report.specs.declared.input.TheConstants.{MOST_BYTES}
use Rattle.report.specs.declared.programs.TheConstants.{INSPECT_USAGE}
use Rattle.report.specs.Describing.{Describes}
use Rattle.report.specs.Drawing.{Draws}
use Rattle.report.specs.Programs.{PrintsOf}
use Rattle.report.proofs.Asked.{prints_told, obeys_word}
use Rattle.report.proofs.programs.inspect.Goals as goal

pub returns-in_ok-describe_input-in-Some-Lines : goal.returns-in_ok-describe_input-in-Some-Lines
returns-in_ok-describe_input-in-Some-Lines g c =
    let output_of = g.W.Write.contents in
    let errors_of = g.E.Write.contents in
    let to = c.args.to.now in
    let to' = c.print.new.self in
    let known = g.R.Read.remaining c.args.input in
    obeys_word output_of errors_of to to' c.print.result c.args.words.now (codes "map")
    INSPECT_USAGE.now (PrintsOf output_of errors_of to to' known MOST_BYTES Describes)
    (PrintsOf output_of errors_of to to' known MOST_BYTES Draws) c.asked.result Lines
    c.asked.ensures (c.in-Some-Lines.is ∙ ap Some c.in-Some-Lines.field-0-is)
    (prints_told output_of errors_of to to' c.print.result known MOST_BYTES Describes _ _
    c.as_str.ensures.value c.in_ok-describe_input-in-Some-Lines.ensures c.print.ensures)

pub returns-in_ok-draw_input-in-Some-ByWord : goal.returns-in_ok-draw_input-in-Some-ByWord
returns-in_ok-draw_input-in-Some-ByWord g c =
    let output_of = g.W.Write.contents in
    let errors_of = g.E.Write.contents in
    let to = c.args.to.now in
    let to' = c.print-in-Some-ByWord.new.self in
    let known = g.R.Read.remaining c.args.input in
    obeys_word output_of errors_of to to' c.print-in-Some-ByWord.result c.args.words.now
    (codes "map") INSPECT_USAGE.now
    (PrintsOf output_of errors_of to to' known MOST_BYTES Describes)
    (PrintsOf output_of errors_of to to' known MOST_BYTES Draws) c.asked.result ByWord
    c.asked.ensures (c.in-Some-ByWord.is ∙ ap Some c.in-Some-ByWord.field-0-is)
    (prints_told output_of errors_of to to' c.print-in-Some-ByWord.result known MOST_BYTES Draws
    _ _ c.as_str-in-Some-ByWord.ensures.value c.in_ok-draw_input-in-Some-ByWord.ensures
    c.print-in-Some-ByWord.ensures)
