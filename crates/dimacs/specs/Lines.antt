-- Lines as a reader hands them out: their bytes, their words with their places, what they state.
use Rattle.std.specs.Prelude.{◌≡◌, ◌≢◌, ℕ, ◌+◌, List, [], ◌++◌, length, take, drop}
use Rattle.std.specs.Prelude.{Some, None, Ok, Err, Option, Result}
use Rattle.std.specs.List.{All}
use Rattle.sheet.specs.Refusals.{fault}
use Rattle.sheet.specs.declared.fault.Fault.{Fault}
use Rattle.sheet.specs.declared.fault.Cause.TheVariants.{Line as LineCause}
use Rattle.dimacs.specs.declared.line.Line.{Line}
use Rattle.dimacs.specs.declared.line.Line.TheVariants.{Comment, Problem, Node, Arc}
use Rattle.dimacs.specs.Words.{Writes, WritesCost}
use Rattle.dimacs.specs.Statements.{Statement, nothing, problem, node, arc, comment_line}
use Rattle.dimacs.specs.Statements.{problem_line, node_line, arc_line, Begins}

-- the bytes of a line, by its words
abbrev pub bytes_of : Line → List ℕ
bytes_of (Comment behind) = comment_line behind.now
bytes_of (Problem nodes arcs) = problem_line nodes.text.now arcs.text.now
bytes_of (Node number) = node_line number.text.now
bytes_of (Arc left right cost) = arc_line left.text.now right.text.now cost.text.now

-- a line states this, by the numbers that its words write
abbrev pub States : Line → Statement → Type 0
States (Comment behind) nothing = All (λ byte. byte ≢ 10) behind.now
States (Problem nodes arcs) (problem n m) = Writes nodes n × Writes arcs m
States (Node number) (node i) = Writes number i
States (Arc left right cost) (arc i j z) = Writes left i × Writes right j × WritesCost cost z
States _ _ = ⊥

-- a word stands in a text at a place, byte for byte
pub record IsWordAt (text : List ℕ) (at : ℕ) (word : List ℕ) (place : ℕ) : Type 0 where
  pub place_is : place ≡ at
  pub part : word ≡ take (length word) (drop at text)

-- the words of a line that begins at a place of a text, each behind the one before and a blank
abbrev pub AreWordsAt : List ℕ → ℕ → Line → Type 0
AreWordsAt text at (Comment behind) = IsWordAt text (at + 1) behind.now (at + 1)
AreWordsAt text at (Problem nodes arcs) = IsWordAt text (at + 6) nodes.text.now nodes.place
    × IsWordAt text (nodes.place + length nodes.text.now + 1) arcs.text.now arcs.place
AreWordsAt text at (Node number) = IsWordAt text (at + 2) number.text.now number.place
AreWordsAt text at (Arc left right cost) = IsWordAt text (at + 2) left.text.now left.place
    × IsWordAt text (left.place + length left.text.now + 1) right.text.now right.place
    × IsWordAt text (right.place + length right.text.now + 1) cost.text.now cost.place

-- no line begins some bytes
abbrev pub BeginsNoLine : List ℕ → Type 0
BeginsNoLine bytes = (s : Statement) (line more : List ℕ) → Begins bytes s line more → ⊥

-- a line was read at a place of a text
pub record IsRead (text : List ℕ) (at : ℕ) (line : Line) (at' : ℕ) : Type 0 where
  pub statement : Statement
  pub states : States line statement
  pub words : AreWordsAt text at line
  pub splits : drop at text ≡ bytes_of line ++ drop at' text
  pub moves : at' ≡ at + length (bytes_of line)

-- one step of a reader that stands at a place of a text: it answers that the text ended, or the
-- line that begins there and stands behind it, or that none does and stays
abbrev pub ReadsOn : List ℕ → ℕ → Result (Option Line) Fault → ℕ → Type 0
ReadsOn text at (Ok None) at' = (drop at text ≡ []) × (at' ≡ at)
ReadsOn text at (Ok (Some line)) at' = IsRead text at line at'
ReadsOn text at (Err f) at' = (drop at text ≢ []) × BeginsNoLine (drop at text)
    × (f ≡ fault LineCause at) × (at' ≡ at)
