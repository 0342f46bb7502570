-- Runs through a text: one more line at the end of a run, and what a run keeps of its stages.
-- Idea: what one line keeps, lines in turn keep, by recursion over how many they are. A line keeps
-- the number of nodes, once the problem line came; and since none is wrong, a sheet takes the size
-- and every pair that came, so it takes the order that the text states.
use Rattle.std.proofs.Common.{ℤ, ◌≡◌, ℕ, zero, suc, ◌≤◌, List, [], ◌∷◌, ◌++◌, refl, sym, ◌∙◌}
use Rattle.std.specs.Prelude.{⊤}
use Rattle.std.proofs.Common.{◌+◌, subst, inl, inr, ⊎_elim, arith, unsigned_abs}
use Rattle.std.proofs.lemmas.Bool.{cases_lt}
use Rattle.std.specs.List.{AllByRecursion}
use Rattle.cost.specs.declared.TheConstants.{COST_LIMIT}
use Rattle.blockset.specs.declared.TheConstants.{MOST_BLOCKS}
use Rattle.sheet.specs.Refusals.{fault}
use Rattle.sheet.specs.Size.{IsSize}
use Rattle.sheet.specs.declared.fault.Cause.TheVariants.{Size, Block, CostRange}
use Rattle.sheet.specs.declared.fault.Fault.{Fault}
use Rattle.orderfile.specs.Format.{StatedOrder, FitsSheet, PairFits}
use Rattle.dimacs.specs.Statements.{Statement, nothing, problem, node, arc}
use Rattle.dimacs.specs.Texts.{Stage, start, stated, Stated, Point, start_of, MayCome, IsWrong}
use Rattle.dimacs.specs.Texts.{stage_after, blocks_of, AreNodes, pair_of, LeadsTo, Leads, States}

-- one more line at the end
pub leads_more : (k : ℕ) (p q r : Point) → Leads k p q → LeadsTo q r → Leads (suc k) p r
leads_more zero p q r run to = (r, subst (λ x. LeadsTo x r) (sym run) to, refl)
leads_more (suc k) p q r run to = (run.0, run.1, leads_more k run.0 q r run.2 to)

-- ---- The number of nodes stays, once it is stated

abbrev pub KeepsNodes : Stage → Stage → Type 0
KeepsNodes start t = ⊤
KeepsNodes (stated s) start = ⊥
KeepsNodes (stated s) (stated t) = s.nodes ≡ t.nodes

line_keeps : (s : Stage) (at : ℕ) (line : Statement) → MayCome s line
    → KeepsNodes s (stage_after s at line)
line_keeps start at line may = tt
line_keeps (stated s) at nothing may = refl
line_keeps (stated s) at (problem n m) may = absurd may
line_keeps (stated s) at (node i) may = refl
line_keeps (stated s) at (arc i j z) may = refl

keeps_same : (s : Stage) → KeepsNodes s s
keeps_same start = tt
keeps_same (stated s) = refl

keeps_on : (s t u : Stage) → KeepsNodes s t → KeepsNodes t u → KeepsNodes s u
keeps_on start t u a b = tt
keeps_on (stated s) start u a b = absurd a
keeps_on (stated s) (stated t) start a b = absurd b
keeps_on (stated s) (stated t) (stated u) a b = a ∙ b

pub run_keeps : (k : ℕ) (p q : Point) → Leads k p q → KeepsNodes p.stage q.stage
run_keeps zero p q run = subst (λ x. KeepsNodes p.stage x.stage) run (keeps_same p.stage)
run_keeps (suc k) p q run =
    let to = run.1 in
    let here : KeepsNodes p.stage run.0.stage =
    rw to.stage_is (line_keeps p.stage p.place to.statement to.comes.may) in
    keeps_on p.stage run.0.stage q.stage here (run_keeps k run.0 q run.2)

-- ---- A sheet takes what came

le_by : (m n : ℕ) → ((m ≤ n → ⊥) → ⊥) → m ≤ n
le_by m n h = ⊎_elim (λ lt. absurd (h (λ le. omega arith))) (λ le. le) (cases_lt n m)

size_by : (n : ℕ) → ((IsSize n → ⊥) → ⊥) → IsSize n
size_by n h = record {
  some = le_by 1 n (λ no. h (λ size. no size.some));
  few = le_by n MOST_BLOCKS (λ no. h (λ size. no size.few));
}

nodes_by : (n i j : ℕ) → ((AreNodes n i j → ⊥) → ⊥) → AreNodes n i j
nodes_by n i j h = record {
  left_from = le_by 1 i (λ no. h (λ nodes. no nodes.left_from));
  left_to = le_by i n (λ no. h (λ nodes. no nodes.left_to));
  right_from = le_by (suc n) j (λ no. h (λ nodes. no nodes.right_from));
  right_to = le_by j (n + n) (λ no. h (λ nodes. no nodes.right_to));
}

pub arc_sound : (s : Stated) (at i j : ℕ) (z : ℤ)
    → ((f : Fault) → IsWrong (stated s) at (arc i j z) f → ⊥)
    → AreNodes (blocks_of s.nodes) i j × (unsigned_abs z ≤ COST_LIMIT)
arc_sound s at i j z sound =
    let nodes = nodes_by (blocks_of s.nodes) i j
    (λ no. sound (fault Block at) (inl (no, refl))) in
    let cost = le_by (unsigned_abs z) COST_LIMIT
    (λ no. sound (fault CostRange at) (inr (nodes, omega arith, refl))) in
    (nodes, cost)

pub pair_fits : (n i j : ℕ) (z : ℤ) → AreNodes n i j → unsigned_abs z ≤ COST_LIMIT
    → PairFits n (pair_of n i j z)
pair_fits n i j z nodes cost = record {
  left_below = omega arith;
  right_below = omega arith;
  cost_within = cost;
}

all_more : {X : Type 0} (P : X → Type 0) (xs : List X) (x : X) → AllByRecursion P xs → P x
    → AllByRecursion P (xs ++ x ∷ [])
all_more P [] x all last = (last, tt)
all_more P (y ∷ xs) x all last = (all.0, all_more P xs x all.1 last)

abbrev pub Fits : Stage → Type 0
Fits start = ⊤
Fits (stated s) = FitsSheet (record { size = blocks_of s.nodes; pairs = s.pairs })

line_fits : (s : Stage) (at : ℕ) (line : Statement) → MayCome s line
    → ((f : Fault) → IsWrong s at line f → ⊥) → Fits s → Fits (stage_after s at line)
line_fits start at nothing may sound fits = tt
line_fits start at (problem n m) may sound fits =
    let size = size_by (blocks_of n) (λ no. sound (fault Size at) (no, refl)) in
    record { some = size.some; few = size.few; pairs_fit = tt }
line_fits start at (node i) may sound fits = absurd may
line_fits start at (arc i j z) may sound fits = absurd may
line_fits (stated s) at nothing may sound fits = fits
line_fits (stated s) at (problem n m) may sound fits = absurd may
line_fits (stated s) at (node i) may sound fits =
    record { some = fits.some; few = fits.few; pairs_fit = fits.pairs_fit }
line_fits (stated s) at (arc i j z) may sound fits =
    let arc_fits = arc_sound s at i j z sound in
    record {
      some = fits.some;
      few = fits.few;
      pairs_fit = all_more (PairFits (blocks_of s.nodes)) s.pairs
          (pair_of (blocks_of s.nodes) i j z) fits.pairs_fit
          (pair_fits (blocks_of s.nodes) i j z arc_fits.0 arc_fits.1);
    }

run_fits : (k : ℕ) (p q : Point) → Leads k p q → Fits p.stage → Fits q.stage
run_fits zero p q run fits = subst (λ x. Fits x.stage) run fits
run_fits (suc k) p q run fits =
    let to = run.1 in
    let here : Fits run.0.stage =
    rw to.stage_is (line_fits p.stage p.place to.statement to.comes.may to.sound fits) in
    run_fits k run.0 q run.2 here

-- so it takes the order that a text states
pub stated_fits : (text : List ℕ) (order : StatedOrder) → States text order → FitsSheet order
stated_fits text order s =
    let came = s.came in
    let fits : FitsSheet (record { size = blocks_of came.nodes; pairs = came.pairs }) =
    subst Fits s.ends.stage_is (run_fits s.lines (start_of text) s.point s.leads tt) in
    record {
      some = omega (arith, fits.some, s.size_is);
      few = omega (arith, fits.few, s.size_is);
      pairs_fit = rw (s.size_is, s.pairs_are) fits.pairs_fit;
    }
