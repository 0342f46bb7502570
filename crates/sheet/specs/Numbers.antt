-- The number of each cause and of each layer of a refusal.
use Rattle.std.specs.Prelude.{ℕ}
use Rattle.sheet.specs.declared.fault.Cause.{Cause}
use Rattle.sheet.specs.declared.fault.Cause.TheVariants.{Size, TableLength, Block, CostRange}
use Rattle.sheet.specs.declared.fault.Cause.TheVariants.{Absent, NoPerfectPairing, Inconsistent}
use Rattle.sheet.specs.declared.fault.Cause.TheVariants.{Overrun, Tag, FieldLength, ShortBuffer}
use Rattle.sheet.specs.declared.fault.Cause.TheVariants.{Line, Counts}
use Rattle.sheet.specs.declared.fault.Layer.{Layer}
use Rattle.sheet.specs.declared.fault.Layer.TheVariants.{Field, Record, Sheet}

abbrev pub cause_number : Cause → ℕ
cause_number Size = 1
cause_number TableLength = 2
cause_number Block = 3
cause_number CostRange = 4
cause_number Absent = 5
cause_number NoPerfectPairing = 6
cause_number Inconsistent = 7
cause_number Overrun = 8
cause_number Tag = 9
cause_number FieldLength = 10
cause_number ShortBuffer = 11
cause_number Line = 12
cause_number Counts = 13

abbrev pub layer_number : Layer → ℕ
layer_number Field = 1
layer_number Record = 2
layer_number Sheet = 3

-- the layer that refuses for a cause
abbrev pub layer_of : Cause → Layer
layer_of Size = Sheet
layer_of TableLength = Sheet
layer_of Block = Sheet
layer_of CostRange = Sheet
layer_of Absent = Sheet
layer_of NoPerfectPairing = Sheet
layer_of Inconsistent = Sheet
layer_of Overrun = Field
layer_of Tag = Record
layer_of FieldLength = Record
layer_of ShortBuffer = Sheet
layer_of Line = Record
layer_of Counts = Record
