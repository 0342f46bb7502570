-- What an assignment text states, and its first fault.
use Rattle.std.specs.Prelude.{◌≡◌, ℕ, zero, suc, ◌+◌, ◌-◌, ◌/◌, ◌%◌, ◌<◌, ◌≤◌, ◌⊎◌, List, []}
use Rattle.std.specs.Prelude.{◌∷◌, ◌++◌, length, ℤ, unsigned_abs, ⊤}
use Rattle.cost.specs.declared.TheConstants.{COST_LIMIT}
use Rattle.sheet.specs.Refusals.{fault}
use Rattle.sheet.specs.Size.{IsSize}
use Rattle.sheet.specs.declared.fault.Cause.TheVariants.{Size, Block, CostRange, Line, Counts}
use Rattle.sheet.specs.declared.fault.Fault.{Fault}
use Rattle.orderfile.specs.declared.record.StatedPair.{StatedPair}
use Rattle.orderfile.specs.Format.{StatedOrder}
use Rattle.dimacs.specs.Statements.{Statement, nothing, problem, node, arc, Begins}

-- the blocks of a plane for so many nodes: half of them, rounded down
abbrev pub blocks_of : ℕ → ℕ
blocks_of nodes = nodes / 2

-- what came from the problem line on: its two counts and its place, the left nodes that were named
-- behind it, and the pairs of the arcs
pub record Stated : Type 0 where
  pub nodes : ℕ
  pub arcs : ℕ
  pub place : ℕ
  pub named : ℕ
  pub pairs : List StatedPair

-- how far the lines have come: no problem line yet, or some that came from it on
pub data Stage : Type 0 where
  start : Stage
  stated : Stated → Stage

-- an arc goes from a left node, of which there are n, to a right one; and the pair that it states
pub record AreNodes (n i j : ℕ) : Type 0 where
  pub left_from : 1 ≤ i
  pub left_to : i ≤ n
  pub right_from : n < j
  pub right_to : j ≤ n + n

abbrev pub pair_of : (n i j : ℕ) → ℤ → StatedPair
pair_of n i j cost = record { left = i - 1; right = j - n - 1; cost = cost }

-- ---- Line by line

-- a line may come at a stage: a comment anywhere, the problem line first, then the left nodes from
-- 1 on, then arcs
abbrev pub MayCome : Stage → Statement → Type 0
MayCome s nothing = ⊤
MayCome start (problem nodes arcs) = ⊤
MayCome (stated s) (node i) = (s.named < blocks_of s.nodes) × (i ≡ s.named + 1)
MayCome (stated s) (arc i j cost) = s.named ≡ blocks_of s.nodes
MayCome _ _ = ⊥

-- what is wrong with a line that may come and stands at a place: a size that no sheet has; nodes of
-- another side or of none; and then a cost that is not within 10^9
abbrev pub IsWrong : Stage → ℕ → Statement → Fault → Type 0
IsWrong start at (problem nodes arcs) f = (IsSize (blocks_of nodes) → ⊥) × (f ≡ fault Size at)
IsWrong (stated s) at (arc i j cost) f =
    ((AreNodes (blocks_of s.nodes) i j → ⊥) × (f ≡ fault Block at))
    ⊎ (AreNodes (blocks_of s.nodes) i j × (COST_LIMIT < unsigned_abs cost)
    × (f ≡ fault CostRange at))
IsWrong _ at _ f = ⊥

-- the stage behind a line
abbrev pub stage_after : Stage → ℕ → Statement → Stage
stage_after start at (problem nodes arcs) =
    stated (record { nodes = nodes; arcs = arcs; place = at; named = 0; pairs = [] })
stage_after (stated s) at (node i) = stated (record {
  nodes = s.nodes;
  arcs = s.arcs;
  place = s.place;
  named = i;
  pairs = s.pairs;
})
stage_after (stated s) at (arc i j cost) = stated (record {
  nodes = s.nodes;
  arcs = s.arcs;
  place = s.place;
  named = s.named;
  pairs = s.pairs ++ pair_of (blocks_of s.nodes) i j cost ∷ [];
})
stage_after s at _ = s

-- ---- Through a text

-- how far a text is read: the stage, the place of the next line, and the bytes from there on
pub record Point : Type 0 where
  pub stage : Stage
  pub place : ℕ
  pub rest : List ℕ

abbrev pub start_of : List ℕ → Point
start_of text = record { stage = start; place = 0; rest = text }

-- a line that may come stands at a point
pub record Comes (p : Point) (statement : Statement) (line more : List ℕ) : Type 0 where
  pub begins : Begins p.rest statement line more
  pub may : MayCome p.stage statement

-- and has no fault, and leads to the point behind it
pub record LeadsTo (p q : Point) : Type 0 where
  pub statement : Statement
  pub line : List ℕ
  pub comes : Comes p statement line q.rest
  pub sound : (f : Fault) → IsWrong p.stage p.place statement f → ⊥
  pub stage_is : q.stage ≡ stage_after p.stage p.place statement
  pub place_is : q.place ≡ p.place + length line

-- so do so many lines in turn
abbrev pub Leads : ℕ → Point → Point → Type 0
Leads zero p q = p ≡ q
Leads (suc k) p q = (m : Point) × LeadsTo p m × Leads k m q

-- ---- The end

-- all left nodes were named, so that the text may end here
abbrev pub MayEnd : Stage → Type 0
MayEnd start = ⊥
MayEnd (stated s) = s.named ≡ blocks_of s.nodes

-- the number of nodes is even, and that of the arcs is the stated one
pub record AreMet (s : Stated) : Type 0 where
  pub even : s.nodes % 2 ≡ 0
  pub arcs : s.arcs ≡ length s.pairs

-- the text ends at a point where it may, and this is what came
pub record EndsAt (p : Point) (s : Stated) : Type 0 where
  pub none_left : p.rest ≡ []
  pub stage_is : p.stage ≡ stated s
  pub may_end : MayEnd (stated s)

-- ---- Why reading stops at a point

-- no line that may come begins what is left, and the text does not end where it may
pub record HasNoLine (p : Point) (f : Fault) : Type 0 where
  pub none : (statement : Statement) (line more : List ℕ) → Comes p statement line more → ⊥
  pub unended : p.rest ≡ [] → MayEnd p.stage → ⊥
  pub fault_is : f ≡ fault Line p.place

-- the line that comes next is wrong
pub record HasWrongLine (p : Point) (f : Fault) : Type 0 where
  pub statement : Statement
  pub line : List ℕ
  pub more : List ℕ
  pub comes : Comes p statement line more
  pub wrong : IsWrong p.stage p.place statement f

-- the text ends, and its counts are not met
pub record HasWrongCounts (p : Point) (f : Fault) : Type 0 where
  pub came : Stated
  pub ends : EndsAt p came
  pub unmet : AreMet came → ⊥
  pub fault_is : f ≡ fault Counts came.place

abbrev pub StopsAt : Point → Fault → Type 0
StopsAt p f = HasNoLine p f ⊎ HasWrongLine p f ⊎ HasWrongCounts p f

-- ---- What a text states, and its first fault

-- lines without a fault, some or none, lead to a point that has this one
pub record FirstFault (text : List ℕ) (f : Fault) : Type 0 where
  pub lines : ℕ
  pub point : Point
  pub leads : Leads lines (start_of text) point
  pub stops : StopsAt point f

-- lines without a fault lead to the end of the text, and the counts of its problem line are met: so
-- it states half as many blocks a plane as nodes, and the pairs of its arcs in their order
pub record States (text : List ℕ) (order : StatedOrder) : Type 0 where
  pub lines : ℕ
  pub point : Point
  pub leads : Leads lines (start_of text) point
  pub came : Stated
  pub ends : EndsAt point came
  pub met : AreMet came
  pub size_is : order.size ≡ blocks_of came.nodes
  pub pairs_are : order.pairs ≡ came.pairs
