-- The text is that of the bytes that were read.
use Rattle.std.proofs.Common.{take, string_bytes}
use Rattle.report.specs.Drawing.{Draws}
use Rattle.report.specs.declared.input.TheConstants.{MOST_BYTES}
use Rattle.report.proofs.Cutting.{told_of_input}
use Rattle.report.proofs.input.draw_input.Goals as goal

pub returns : goal.returns
returns g c = told_of_input (g.R.Read.remaining c.args.reader) c.in_ok-file.file.items
    c.as_slice.result.now (take MOST_BYTES)
    (λ file. Draws file (string_bytes c.in_ok-draw.field-0)) c.as_slice.ensures.value
    c.in_ok-file.ensures c.in_ok-draw.ensures
