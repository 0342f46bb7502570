-- The cut reader gives the first bytes of what the reader has.
use Rattle.std.proofs.Common.{rules}
use Rattle.report.proofs.Cutting.{cut_bytes}
use Rattle.report.proofs.input.read_first.Goals as goal

pub returns : goal.returns
returns g c = cut_bytes g.R.Read.remaining c.args.reader c.args.most c.take.result
    c.read_to_end.new.buf.items c.take.ensures.limit c.take.ensures.inner (search rules)
