-- A call together with what came of it.
use Rattle.std.specs.Prelude.{ℕ, List, Option}
use Rattle.matching.specs.declared.augmenting.Shortfall.{Shortfall}
use Rattle.sheet.specs.declared.fault.Fault.{Fault}
use Rattle.session.specs.declared.call.Act.{Act}
use Rattle.session.specs.declared.call.Act.TheVariants.{Enter, Strike, Read, Settle, Quote, Total}
use Rattle.session.specs.declared.call.Act.TheVariants.{Marks, Start, Next, Close, Reopen}
use Rattle.session.specs.declared.call.Lengths.{Lengths}
use Rattle.session.specs.declared.call.Call.{Call}
use Rattle.session.specs.Book.{Verdict, not_allowed, refused, accepted}

-- what an accepted settle wrote
pub record Settlement (K : Type 0) : Type 0 where
  pub partners : List ℕ
  pub left : List K
  pub right : List K

-- What an accepted call gives: a cost for read and total, a cost and its slack for quote, what was
-- written for settle and marks, the pairing in the walk list for start, and for next that or
-- nothing, which is `End`.
abbrev pub ValueOf : (K : Type 0) → Act K → Type 0
ValueOf K (Enter l r c) = Unit {0}
ValueOf K (Strike l r) = Unit {0}
ValueOf K (Read l r) = K
ValueOf K Settle = Settlement K
ValueOf K (Quote l r) = K × K
ValueOf K Total = K
ValueOf K Marks = List ℕ
ValueOf K Start = List ℕ
ValueOf K Next = Option (List ℕ)
ValueOf K Close = Unit {0}
ValueOf K Reopen = Unit {0}

-- what came of a call: the state has no such call, so none was made; it was turned down, by this
-- fault, where no pairing is perfect with the crowd set and its shortage; or it gave this
pub data Reply (T : Type 0) : Type 0 where
  not_made : Reply T
  turned_down : Fault → Option Shortfall → Reply T
  gives : T → Reply T

-- what a call asked for, the lengths of the tables that it was handed, and what came of it
pub record Exchange (K : Type 0) : Type 0 where
  pub act : Act K
  pub handed : Lengths
  pub reply : Reply (ValueOf K act)

abbrev pub call_of : {K : Type 0} → Exchange K → Call K
call_of e = record { act = e.act; handed = e.handed }

-- the verdict that a reply shows
abbrev pub verdict_of : {T : Type 0} → Reply T → Verdict
verdict_of not_made = not_allowed
verdict_of (turned_down f shortfall) = refused f
verdict_of (gives x) = accepted
