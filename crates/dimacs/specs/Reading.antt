-- What is read of bytes that stand at an offset of a text: the line that begins them.
use Rattle.std.specs.Prelude.{◌≡◌, ℕ, ◌+◌, List, ◌++◌, length, Some, None, Option}
use Rattle.dimacs.specs.declared.line.Line.{Line}
use Rattle.dimacs.specs.declared.line.Line.TheVariants.{Comment, Problem, Node, Arc}
use Rattle.dimacs.specs.declared.line_reader.Read.{Read}
use Rattle.dimacs.specs.declared.words.Words.{Words}
use Rattle.dimacs.specs.Statements.{Statement}
use Rattle.dimacs.specs.Taking.{rest_of, offset_of}
use Rattle.dimacs.specs.Lines.{bytes_of, States, BeginsNoLine}

-- the places of the words of a line at an offset, each behind the one before and a blank
abbrev pub ArePlaced : ℕ → Line → Type 0
ArePlaced at (Comment behind) = Unit {0}
ArePlaced at (Problem nodes arcs) = (nodes.place ≡ at + 6)
    × (arcs.place ≡ nodes.place + length nodes.text.now + 1)
ArePlaced at (Node number) = number.place ≡ at + 2
ArePlaced at (Arc left right cost) = (left.place ≡ at + 2)
    × (right.place ≡ left.place + length left.text.now + 1)
    × (cost.place ≡ right.place + length right.text.now + 1)

-- a line begins bytes that stand at an offset, and ends before another
pub record BeginsLine (bytes : List ℕ) (at : ℕ) (line : Line) (end : ℕ) : Type 0 where
  pub statement : Statement
  pub states : States line statement
  pub placed : ArePlaced at line
  pub more : List ℕ
  pub splits : bytes ≡ bytes_of line ++ more
  pub moves : end ≡ at + length (bytes_of line)

-- the line was read, or none begins the bytes
abbrev pub ReadsLine : (bytes : List ℕ) → (at : ℕ) → Option Read → Type 0
ReadsLine bytes at (Some read) = BeginsLine bytes at read.line read.end
ReadsLine bytes at None = BeginsNoLine bytes

-- likewise where the front of the line was passed already
abbrev pub ReadsBehind : (front rest : List ℕ) → (place : ℕ) → Option Read → Type 0
ReadsBehind front rest place read = (at : ℕ) → place ≡ at + length front
    → ReadsLine (front ++ rest) at read

-- and its words are read on
abbrev pub ReadsWords : (front : List ℕ) → Words → Option Read → Type 0
ReadsWords front words read = ReadsBehind front (rest_of words) (offset_of words) read
