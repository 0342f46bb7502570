-- What is told is told of the bytes that were read.
use Rattle.std.proofs.Common.{take, string_bytes}
use Rattle.report.specs.Describing.{DescribesText}
use Rattle.report.specs.declared.input.TheConstants.{MOST_TEXT_BYTES}
use Rattle.report.proofs.Cutting.{told_of_input}
use Rattle.report.proofs.input.describe_text_input.Goals as goal

pub returns : goal.returns
returns g c = told_of_input (g.R.Read.remaining c.args.reader) c.in_ok-text.text.items
    c.as_slice.result.now (take MOST_TEXT_BYTES)
    (λ text. DescribesText text (string_bytes c.in_ok-describe_text.field-0))
    c.as_slice.ensures.value c.in_ok-text.ensures c.in_ok-describe_text.ensures
