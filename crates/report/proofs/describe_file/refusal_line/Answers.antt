-- The line is what was formatted.
use Rattle.report.proofs.describe_file.refusal_line.Goals as goal

pub returns : goal.returns
returns c = c.format.ensures.ok
