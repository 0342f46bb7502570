-- What is kept of the lines that came, and what one more line makes of it.
use Rattle.std.specs.Prelude.{◌≡◌, ℕ, ◌%◌, ◌<◌, ◌⊎◌, [], length, ◌==◌, Ok, Err, Result, ⊤}
use Rattle.sheet.specs.Refusals.{fault}
use Rattle.sheet.specs.Size.{IsSize}
use Rattle.sheet.specs.declared.fault.Cause.TheVariants.{Line, Counts}
use Rattle.sheet.specs.declared.fault.Fault.{Fault}
use Rattle.dimacs.specs.Statements.{Statement}
use Rattle.dimacs.specs.Texts.{Stage, start, stated, Stated, blocks_of, MayCome, IsWrong}
use Rattle.dimacs.specs.Texts.{stage_after, MayEnd, AreMet}
use Rattle.dimacs.specs.Words.{stopped}
use Rattle.dimacs.specs.declared.progress.Progress.{Progress}
use Rattle.dimacs.specs.declared.progress.Progress.TheVariants.{Start, Naming, Arcs}
use Rattle.dimacs.specs.declared.progress.Head.{Head}

-- what is kept of the problem line
pub record IsHead (head : Head) (s : Stated) : Type 0 where
  pub place : head.place ≡ s.place
  pub size : head.size ≡ blocks_of s.nodes
  pub is_size : IsSize (blocks_of s.nodes)
  pub odd : head.odd ≡ (s.nodes % 2 == 1)
  pub arcs : head.arcs ≡ stopped s.arcs

-- so many left nodes were named, and not all of them
pub record AreNamed (head : Head) (named : ℕ) (s : Stated) : Type 0 where
  pub head_is : IsHead head s
  pub named_is : named ≡ s.named
  pub some_left : s.named < blocks_of s.nodes
  pub no_arcs : s.pairs ≡ []

-- all of them were, and so many arcs came, all before a place of the text
pub record HaveCome (at : ℕ) (head : Head) (came : ℕ) (s : Stated) : Type 0 where
  pub head_is : IsHead head s
  pub all_named : s.named ≡ blocks_of s.nodes
  pub came_is : came ≡ length s.pairs
  -- each arc took up some bytes, and so did the problem line
  pub behind : length s.pairs < at

-- a progress tells a stage, whose lines stand before a place of the text
abbrev pub Tells : ℕ → Progress → Stage → Type 0
Tells at Start start = ⊤
Tells at (Naming head named) (stated s) = AreNamed head named s
Tells at (Arcs head came) (stated s) = HaveCome at head came s
Tells at _ _ = ⊥

-- why a line that states this and stands at a place is refused at a stage: it may not come, or is
-- wrong
abbrev pub IsRefused : Stage → ℕ → Statement → Fault → Type 0
IsRefused s at statement f = ((MayCome s statement → ⊥) × (f ≡ fault Line at))
    ⊎ (MayCome s statement × IsWrong s at statement f)

-- what such a line makes of a progress that tells the stage: it goes on to tell the stage behind
-- the line, wherever that ends; or the line is refused, and the progress stays as it was
abbrev pub Advances : Stage → ℕ → Statement → (before : Progress) → Result (Unit {0}) Fault
    → (after : Progress) → Type 0
Advances s at statement before (Ok _) after = MayCome s statement
    × ((f : Fault) → IsWrong s at statement f → ⊥)
    × ((end : ℕ) → at < end → Tells end after (stage_after s at statement))
Advances s at statement before (Err f) after = IsRefused s at statement f × (after ≡ before)

-- what is answered where the text ends, which is `at` bytes long: the size; or that the lines may
-- not end here, or that the counts are not met
abbrev pub Concludes : Stage → ℕ → Result ℕ Fault → Type 0
Concludes s at (Ok n) =
    (came : Stated) × (s ≡ stated came) × MayEnd s × AreMet came × (n ≡ blocks_of came.nodes)
Concludes s at (Err f) = ((MayEnd s → ⊥) × (f ≡ fault Line at))
    ⊎ ((came : Stated) × (s ≡ stated came) × MayEnd s × (AreMet came → ⊥)
    × (f ≡ fault Counts came.place))
