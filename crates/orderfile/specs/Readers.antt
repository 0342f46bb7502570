-- How far the readers of a file have come, and one step of a record reader.
use Rattle.std.specs.Prelude.{ℕ, List, Option, Result}
use Rattle.sheet.specs.declared.fault.Fault.{Fault}
use Rattle.orderfile.specs.declared.field.FieldReader.{FieldReader}
use Rattle.orderfile.specs.declared.record.Record.{Record}
use Rattle.orderfile.specs.declared.record.Stage.{Stage}
use Rattle.orderfile.specs.declared.record_reader.RecordReader.{RecordReader}
use Rattle.orderfile.specs.Records.{StepsFrom}

-- the bytes from the next field on
abbrev pub rest_of : FieldReader → List ℕ
rest_of reader = reader.rest.now

-- the offset of that field
abbrev pub offset_of : FieldReader → ℕ
offset_of reader = reader.at

-- the field reader of a record reader, and what it has read so far
abbrev pub fields_of : RecordReader → FieldReader
fields_of reader = reader.fields

abbrev pub stage_of : RecordReader → Stage
stage_of reader = reader.stage

abbrev pub ReadsOn : RecordReader → Result (Option Record) Fault → RecordReader → Type 0
ReadsOn before answer after =
    StepsFrom (stage_of before) (rest_of (fields_of before)) (offset_of (fields_of before)) answer
    (stage_of after) (rest_of (fields_of after)) (offset_of (fields_of after))
