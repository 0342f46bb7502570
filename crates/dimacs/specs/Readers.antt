-- Where a reader of lines stands: the text that it reads, and the offset of its next line.
use Rattle.std.specs.Prelude.{ℕ, List}
use Rattle.dimacs.specs.declared.line_reader.LineReader.{LineReader}

abbrev pub text_of : LineReader → List ℕ
text_of reader = reader.text.now

abbrev pub offset_of : LineReader → ℕ
offset_of reader = reader.at
