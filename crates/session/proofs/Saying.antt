-- An answer says what came of a call.
-- Idea: by cases of what the sheet's call came to.
use Rattle.std.proofs.Common.{◌≡◌, ℕ, List, Ok, Err, Some, None, Option, Result}
use Rattle.std.specs.Prelude.{MatchResult}
use Rattle.std.specs.declared.alloc.Global.{Global}
use Rattle.std.specs.declared.vec.Vec.{Vec}
use Rattle.matching.specs.declared.augmenting.Shortfall.{Shortfall}
use Rattle.matching.specs.declared.stepping.Step.{Step}
use Rattle.matching.specs.declared.stepping.Step.TheVariants.{Next as Onward, End as Last}
use Rattle.sheet.specs.declared.fault.Fault.{Fault}
use Rattle.sheet.specs.declared.fault.Refusal.{Refusal}
use Rattle.sheet.specs.Size.{Sheet}
use Rattle.session.specs.declared.answer.Answer.{Answer}
use Rattle.session.specs.declared.answer.Answer.TheVariants.{Refused}
use Rattle.session.specs.declared.call.Act.{Act}
use Rattle.session.specs.declared.call.Act.TheVariants.{Next}
use Rattle.session.specs.Exchange.{ValueOf, turned_down, gives}
use Rattle.session.specs.Program.{reply_by, reply_of, pairing_by}
use Rattle.session.specs.Runs.{IsAnswerOf, IsRefusalAnswer, IsOnwardAnswer}

module _ {K : Type 0} (act : Act K) (answer : Answer K) where
  -- a call that is refused by a fault alone
  pub says_reply : {R : Type 0} (value : R → ValueOf K act) (a : Result R Fault) (Is : R → Type 0)
      → ((r : R) → Is r → IsAnswerOf act (gives (value r)) answer)
      → MatchResult a Is (λ f. answer ≡ Refused f) → IsAnswerOf act (reply_by value a) answer
  says_reply value (Ok r) Is says h = says r h
  says_reply value (Err f) Is says h = h

  -- one whose refusal gives the state back
  says_refusal : (f : Fault) (shortfall : Option Shortfall) → IsRefusalAnswer f shortfall answer
      → IsAnswerOf act (turned_down f shortfall) answer
  says_refusal f None h = h
  says_refusal f (Some s) h = h

  pub says_change : (x : ValueOf K act) (a : Result Sheet (Refusal Sheet)) (Is : Sheet → Type 0)
      → ((sheet : Sheet) → Is sheet → IsAnswerOf act (gives x) answer)
      → MatchResult a Is (λ r. IsRefusalAnswer r.fault r.shortfall answer)
      → IsAnswerOf act (reply_of x a) answer
  says_change x (Ok sheet) Is says h = says sheet h
  says_change x (Err r) Is says h = says_refusal r.fault r.shortfall h

pub says_step : {K : Type 0} (answer : Answer K) (copy : Vec ℕ Global) (list : List ℕ)
    → copy.items ≡ list → (step : Step) → IsOnwardAnswer step copy answer
    → IsAnswerOf Next (gives (pairing_by list step)) answer
says_step answer copy list e Onward h = (copy, h, e)
says_step answer copy list e Last h = h
