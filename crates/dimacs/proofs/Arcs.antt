-- The lines of arcs among the others: an arc adds the pair that its words write, another line none.
-- Idea: case by case over stages, lines and statements. A number of a text is handed out stopped at
-- the end of 64 bits; those of an arc that a sheet takes are far below it, so they are exact.
use Rattle.std.proofs.Common.{◌≡◌, ℕ, suc, min, ◌≤◌, List, [], ◌∷◌, ◌++◌, ℤ, pos, negsuc, neg_ℤ}
use Rattle.std.proofs.Common.{refl, ap, ◌∙◌, arith, unsigned_abs}
use Rattle.cost.specs.declared.TheConstants.{COST_LIMIT}
use Rattle.sheet.specs.declared.fault.Fault.{Fault}
use Rattle.orderfile.specs.declared.record.StatedPair.{StatedPair}
use Rattle.dimacs.specs.Lines.{States}
use Rattle.dimacs.specs.Statements.{Statement, nothing, problem, node, arc}
use Rattle.dimacs.specs.Texts.{Stage, start, stated, Stated, MayCome, IsWrong, stage_after}
use Rattle.dimacs.specs.Texts.{blocks_of, AreNodes, pair_of}
use Rattle.dimacs.specs.Words.{Writes, WritesCost}
use Rattle.dimacs.specs.declared.line.Line.{Line}
use Rattle.dimacs.specs.declared.line.Line.TheVariants.{Comment, Problem, Node, Arc}
use Rattle.dimacs.specs.declared.word.Cost.{Cost}
use Rattle.dimacs.specs.declared.word.Number.{Number}
use Rattle.dimacs.proofs.Runs.{arc_sound}

-- the pairs that came at a stage
abbrev pub pairs_by : Stage → List StatedPair
pairs_by start = []
pairs_by (stated s) = s.pairs

-- ---- Other lines

abbrev pub IsNoArc : Line → Type 0
IsNoArc line = (left right : Number) (cost : Cost) → line ≡ Arc left right cost → ⊥

pub others_add_none : (stage : Stage) (at : ℕ) (line : Line) (s : Statement) → States line s
    → IsNoArc line → pairs_by (stage_after stage at s) ≡ pairs_by stage
others_add_none start at line nothing h other = refl
others_add_none start at line (problem n m) h other = refl
others_add_none start at line (node i) h other = refl
others_add_none start at line (arc i j z) h other = refl
others_add_none (stated c) at line nothing h other = refl
others_add_none (stated c) at line (problem n m) h other = refl
others_add_none (stated c) at line (node i) h other = refl
others_add_none (stated c) at (Arc left right cost) (arc i j z) h other =
    absurd (other left right cost refl)
others_add_none (stated c) at (Comment behind) (arc i j z) h other = absurd h
others_add_none (stated c) at (Problem nodes arcs) (arc i j z) h other = absurd h
others_add_none (stated c) at (Node number) (arc i j z) h other = absurd h

-- ---- Arcs

-- a line of an arc comes behind the problem line, and its words write this arc
pub record IsArc (stage : Stage) (at : ℕ) (s : Statement) (left right : Number)
    (cost : Cost) : Type 0 where
  pub came : Stated
  pub stage_is : stage ≡ stated came
  pub from : ℕ
  pub to : ℕ
  pub price : ℤ
  pub left_writes : Writes left from
  pub right_writes : Writes right to
  pub cost_writes : WritesCost cost price
  pub nodes : AreNodes (blocks_of came.nodes) from to
  pub within : unsigned_abs price ≤ COST_LIMIT
  pub adds : pairs_by (stage_after stage at s)
      ≡ pairs_by stage ++ pair_of (blocks_of came.nodes) from to price ∷ []

pub an_arc : (stage : Stage) (at : ℕ) (s : Statement) (left right : Number) (cost : Cost)
    → States (Arc left right cost) s → MayCome stage s
    → ((f : Fault) → IsWrong stage at s f → ⊥) → IsArc stage at s left right cost
an_arc start at (arc i j z) left right cost h may sound = absurd may
an_arc (stated c) at (arc i j z) left right cost h may sound =
    let known = arc_sound c at i j z sound in
    record {
      came = c;
      stage_is = refl;
      from = i;
      to = j;
      price = z;
      left_writes = h.0;
      right_writes = h.1;
      cost_writes = h.2;
      nodes = known.0;
      within = known.1;
      adds = refl;
    }
an_arc stage at nothing left right cost h may sound = absurd h
an_arc stage at (problem n m) left right cost h may sound = absurd h
an_arc stage at (node i) left right cost h may sound = absurd h

-- ---- Words with nothing stopped

pub number_exact : (number : Number) (x : ℕ) → Writes number x → x ≤ 256 → number.value ≡ x
number_exact number x h small = omega (arith, h.value_is)

pub cost_exact : (cost : Cost) (z : ℤ) → WritesCost cost z → unsigned_abs z ≤ COST_LIMIT
    → cost.value ≡ z
cost_exact cost (pos x) h small =
    let same : min x 9223372036854775807 ≡ x = omega arith in h.value_is ∙ ap pos same
cost_exact cost (negsuc x) h small =
    let same : min (suc x) 9223372036854775807 ≡ suc x = omega arith in
    h.value_is ∙ ap (λ k. neg_ℤ (pos k)) same
