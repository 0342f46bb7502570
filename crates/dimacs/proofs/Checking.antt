-- Reading a text line by line: what is known at each step, and where reading ends.
-- Idea: the lines that were read lead from the start of the text to where the reader stands, and
-- what is kept of them tells the stage there. The line that the reader hands out next begins the
-- bytes there, and they tell it: so if it may not come, no line that may come begins them.
use Rattle.std.proofs.Common.{◌≡◌, ◌≢◌, ℕ, suc, ◌<◌, List, [], Ok, Err, Result, drop, refl, ap}
use Rattle.std.proofs.Common.{subst, inl, inr, ⊎_elim, arith, length}
use Rattle.std.proofs.lemmas.List.{length-append}
use Rattle.sheet.specs.Refusals.{fault}
use Rattle.sheet.specs.declared.fault.Cause.TheVariants.{Line as LineCause}
use Rattle.sheet.specs.declared.fault.Fault.{Fault}
use Rattle.orderfile.specs.Format.{StatedOrder}
use Rattle.orderfile.specs.Loading.{IsChecked}
use Rattle.orderfile.proofs.Ends.{checked_states, checked_faulty}
use Rattle.dimacs.specs.Lines.{States as LineStates, IsRead, BeginsNoLine, bytes_of}
use Rattle.dimacs.specs.Progresses.{Tells, IsRefused, Advances, Concludes}
use Rattle.dimacs.specs.Statements.{Statement, nothing, problem, node, arc, Spells, Begins}
use Rattle.dimacs.specs.Texts.{Stage, start, Point, start_of, MayCome, stage_after, LeadsTo}
use Rattle.dimacs.specs.Texts.{Leads, IsWrong, MayEnd, StopsAt, FirstFault, States, blocks_of}
use Rattle.dimacs.specs.declared.line.Line.{Line}
use Rattle.dimacs.specs.declared.line.Line.TheVariants.{Comment, Problem, Node, Arc}
use Rattle.dimacs.specs.declared.progress.Progress.{Progress}
use Rattle.dimacs.specs.declared.progress.Progress.TheVariants.{Start}
use Rattle.dimacs.proofs.LinesTold.{lines_told, line_nonempty}
use Rattle.dimacs.proofs.Runs.{leads_more}
use Rattle.dimacs.proofs.Verdicts.{ended, verdict_order, verdict_fault}

-- a check of a text that has a first fault
pub refuses : {text : List ℕ} {r : Result ℕ Fault} (f : Fault) → FirstFault text f → r ≡ Err f
    → IsChecked (States text) (FirstFault text) r
refuses {text = text} f first e = checked_faulty (verdict_fault text f first) f first e

-- a line that is handed out spells what it states
spelled : (line : Line) (s : Statement) → LineStates line s → Spells s (bytes_of line)
spelled (Comment behind) nothing h = (behind.now, h, refl)
spelled (Problem nodes arcs) (problem n m) h =
    (nodes.text.now, arcs.text.now, h.0.writes, h.1.writes, refl)
spelled (Node number) (node i) h = (number.text.now, h.writes, refl)
spelled (Arc left right cost) (arc i j z) h =
    (left.text.now, right.text.now, cost.text.now, h.0.writes, h.1.writes, h.2.writes, refl)
spelled _ _ h = absurd h

-- where a reader stands at an offset of a text, behind lines that led to a stage
abbrev pub point_at : List ℕ → ℕ → Stage → Point
point_at text at stage = record { stage = stage; place = at; rest = drop at text }

module _ {text : List ℕ} {at : ℕ} {line : Line} {at' : ℕ} (read : IsRead text at line at') where
  -- a line that was read begins the bytes that were left
  pub read_begins : Begins (drop at text) read.statement (bytes_of line) (drop at' text)
  read_begins =
      record { spells = spelled line read.statement read.states; splits = read.splits }

  -- and took up some of them
  pub read_on : at < at'
  read_on = omega (
    arith,
    read.moves,
    line_nonempty read.statement (bytes_of line) (spelled line read.statement read.states),
  )

  pub less_left : length (drop at' text) < length (drop at text)
  less_left = omega (
    arith,
    ap length read.splits,
    length-append (bytes_of line) (drop at' text),
    line_nonempty read.statement (bytes_of line) (spelled line read.statement read.states),
  )

  -- where it may come and has no fault, it leads on
  pub read_leads : (stage : Stage) → MayCome stage read.statement
      → ((f : Fault) → IsWrong stage at read.statement f → ⊥)
      → LeadsTo (point_at text at stage)
      (point_at text at' (stage_after stage at read.statement))
  read_leads stage may sound = record {
    statement = read.statement;
    line = bytes_of line;
    comes = record { begins = read_begins; may = may };
    sound = sound;
    stage_is = refl;
    place_is = read.moves;
  }

-- ---- The lines that were read

-- lines lead from the start of a text to this offset, and what is kept tells what they stated
pub record HasCome (text : List ℕ) (at : ℕ) (progress : Progress) : Type 0 where
  pub lines : ℕ
  pub stage : Stage
  pub leads : Leads lines (start_of text) (point_at text at stage)
  pub tells : Tells at progress stage

pub come_first : (text : List ℕ) → HasCome text 0 Start
come_first text = record { lines = 0; stage = start; leads = refl; tells = tt }

module _ {text : List ℕ} {at : ℕ} {progress : Progress} (was : HasCome text at progress) where
  here : Point
  here = point_at text at was.stage

  stopped_here : (f : Fault) → StopsAt here f → FirstFault text f
  unfolding here
  stopped_here f stops =
      record { lines = was.lines; point = here; leads = was.leads; stops = stops }

  -- a line was read
  module _ {line : Line} {at' : ℕ} (read : IsRead text at line at') where
    pub come_more : (after : Progress)
        → Advances was.stage at read.statement progress (Ok tt) after → HasCome text at' after
    come_more after h = record {
      lines = suc was.lines;
      stage = stage_after was.stage at read.statement;
      leads = leads_more was.lines (start_of text) (point_at text at was.stage)
          (point_at text at' (stage_after was.stage at read.statement)) was.leads
          (read_leads read was.stage h.0 h.1);
      tells = h.2 at' (read_on read);
    }

    -- it may not come, or is wrong
    pub come_wrong : (f : Fault) → IsRefused was.stage at read.statement f → FirstFault text f
    unfolding here
    come_wrong f h = stopped_here f (⊎_elim
        (λ no. inl (record {
          none = λ s l more comes. no.0 (subst (MayCome was.stage) (lines_told (drop at text) s
              read.statement l more (bytes_of line) (drop at' text) comes.begins
              (read_begins read)).0 comes.may);
          unended = λ none may. ended (drop at text) none read.statement (bytes_of line)
              (drop at' text) (read_begins read);
          fault_is = no.1;
        }))
        (λ wrong. inr (inl (record {
          statement = read.statement;
          line = bytes_of line;
          more = drop at' text;
          comes = record { begins = read_begins read; may = wrong.0 };
          wrong = wrong.1;
        }))) h)

  -- no line was
  pub come_none : (f : Fault) → drop at text ≢ [] → BeginsNoLine (drop at text)
      → f ≡ fault LineCause at → FirstFault text f
  unfolding here
  come_none f some none e = stopped_here f (inl (record {
    none = λ s l more comes. none s l more comes.begins;
    unended = λ empty may. some empty;
    fault_is = e;
  }))

  -- the text ended
  module _ (empty : drop at text ≡ []) where
    come_ended : (n : ℕ) → Concludes was.stage at (Ok n)
        → (order : StatedOrder) × States text order × (n ≡ order.size)
    come_ended n h = (
      record { size = blocks_of h.0.nodes; pairs = h.0.pairs },
      record {
        lines = was.lines;
        point = point_at text at was.stage;
        leads = was.leads;
        came = h.0;
        ends = record { none_left = empty; stage_is = h.1; may_end = subst MayEnd h.1 h.2 };
        met = h.3;
        size_is = refl;
        pairs_are = refl;
      },
      h.4,
    )

    come_unended : (f : Fault) → Concludes was.stage at (Err f) → FirstFault text f
    unfolding here
    come_unended f h = stopped_here f (⊎_elim
        (λ no. inl (record {
          none = λ s l more comes. ended (drop at text) empty s l more comes.begins;
          unended = λ none may. no.0 may;
          fault_is = no.1;
        }))
        (λ unmet. inr (inr (record {
          came = unmet.0;
          ends = record {
            none_left = empty;
            stage_is = unmet.1;
            may_end = subst MayEnd unmet.1 unmet.2;
          };
          unmet = unmet.3;
          fault_is = unmet.4;
        }))) h)

    pub come_checked : (r : Result ℕ Fault) → Concludes was.stage at r
        → IsChecked (States text) (FirstFault text) r
    come_checked (Ok n) h =
        let done = come_ended n h in
        checked_states (verdict_order text done.0 done.1) done.0 done.1 (ap Ok done.2)
    come_checked (Err f) h = refuses f (come_unended f h) refl
