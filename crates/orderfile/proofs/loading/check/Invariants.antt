-- What was read is a sound front of the file, and its size is known once it was read; each record
-- leaves less of the file.
use Rattle.std.proofs.Common.{length}
use Rattle.orderfile.proofs.Reading.{IsReadTo, IsKnownSize}
use Rattle.orderfile.proofs.loading.check.Given as goal

abbrev pub invariant-loop-record : goal.invariant-loop-record
invariant-loop-record l = IsReadTo l.file l.records.stage l.records.fields.rest.now
    l.records.fields.at × IsKnownSize l.records.stage l.size

abbrev pub decreases-loop-record : goal.decreases-loop-record
decreases-loop-record l = length l.records.fields.rest.now
