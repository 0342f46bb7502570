-- What the C calls leave in the tables, and the number that each of them answers, at every input.
use Rattle.std.specs.Prelude.{◌≡◌, ◌⊎◌, ℕ, List, length, Ok, Err, Result}
use Rattle.cost.specs.declared.Cost.{Ghosts}
use Rattle.cost.specs.declared.plain_kind.Plain.{Plain}
use Rattle.pairing.specs.Grid.{IsOptimum}
use Rattle.pairing.specs.Optima.{optima}
use Rattle.pairing.specs.Places.{places_of}
use Rattle.matching.specs.declared.stepping.Step.{Step}
use Rattle.matching.specs.Answers.{Follows, AreMarksOf}
use Rattle.matching.specs.Numbers.{step_number}
use Rattle.tables.specs.declared.flaw.Flaw.{Flaw}
use Rattle.tables.specs.Lent.{Lent, grid}
use Rattle.tables.specs.Together.{HoldTogether}
use Rattle.assign.specs.declared.Outcome.{Outcome}
use Rattle.assign.specs.Answer.{Answers, HasFirstOptimum}
use Rattle.sheet.specs.Numbers.{cause_number}
use Rattle.sheet.specs.Size.{Sheet}
use Rattle.sheet.specs.declared.fault.Fault.{Fault}
use Rattle.orderfile.specs.Saving.{IsSaved}
use Rattle.bench_calls.specs.Codes.{outcome_code, fault_number}

module _ {K : Type 0} (kind : Ghosts K) where
  -- settling: the number stands for what `settle` answers
  abbrev pub SettlesTables : (old new : Lent K) → ℕ → Type 0
  SettlesTables old new number = (r : Result Outcome Flaw) × (number ≡ outcome_code r)
      × Answers kind old new (HasFirstOptimum kind new) r

  -- a step of the walk: its number, or 1 where the tables do not hold together or the list is no
  -- optimum pairing
  abbrev pub Steps : Lent K → (before after : List ℕ) → ℕ → Type 0
  Steps t before after number = ((s : Step) × (number ≡ step_number s) × HoldTogether kind t
      × IsOptimum (grid kind t) before × Follows (optima (grid kind t)) before after s)
      ⊎ ((number ≡ 1) × (HoldTogether kind t × IsOptimum (grid kind t) before
      → ⊥) × (after ≡ before))

  -- marks: 0, or 1 where the tables do not hold together or that of the marks has the wrong length
  abbrev pub Marks : Lent K → (before after : List ℕ) → ℕ → Type 0
  Marks t before after number = ((number ≡ 0) × (length before ≡ places_of t.size)
      × HoldTogether kind t × AreMarksOf t.size (optima (grid kind t)) after)
      ⊎ ((number ≡ 1) × ((length before ≡ places_of t.size) × HoldTogether kind t → ⊥)
      × (after ≡ before))

-- saving over a sheet that was opened: the number stands for what `save` answers, and for the
-- refusal where none was opened
abbrev pub Saves : ℕ → List Plain → List ℕ → List ℕ → Result Sheet Fault → List ℕ → ℕ → Type 0
Saves n costs standing out (Ok sheet) out' number = (r : Result ℕ Fault)
    × (number ≡ fault_number r) × IsSaved n costs standing out r out'
Saves n costs standing out (Err f) out' number = (number ≡ cause_number f.cause) × (out' ≡ out)
