-- What came of a call is right where it is what the book says of the call, and what it gives is
-- true.
-- Idea: a refusal and a call that is not made add nothing to what was told, so that stays right; an
-- accepted call adds what is then told. None of the book's needs is that tables hold together.
use Rattle.std.proofs.Common.{◌≡◌, ◌≢◌, ℕ, Bool, true, false, not, cond, List, [], ◌∷◌, Some, None}
use Rattle.std.proofs.Common.{Option, Result, Ok, Err, sym, refl, ap, ◌∙◌, subst}
use Rattle.std.specs.Prelude.{MatchOption}
use Rattle.std.specs.List.{AllByRecursion}
use Rattle.cost.specs.declared.Cost.{Ghosts}
use Rattle.pairing.specs.Largest.{HasNoPerfect}
use Rattle.pairing.specs.Optima.{optima}
use Rattle.matching.specs.Answers.{AreMarksOf}
use Rattle.matching.specs.declared.augmenting.Shortfall.{Shortfall}
use Rattle.sheet.specs.declared.fault.Cause.{Cause}
use Rattle.sheet.specs.declared.fault.Cause.TheVariants.{NoPerfectPairing, Inconsistent}
use Rattle.sheet.specs.declared.fault.Fault.{Fault}
use Rattle.sheet.specs.Needs.{Needs, AreMet, Responds}
use Rattle.sheet.specs.Refusals.{fault}
use Rattle.session.specs.declared.call.Act.{Act}
use Rattle.session.specs.declared.call.Act.TheVariants.{Settle, Total, Marks, Start, Next, Close}
use Rattle.session.specs.declared.call.Act.TheVariants.{Reopen}
use Rattle.session.specs.declared.call.Lengths.{Lengths}
use Rattle.session.specs.declared.call.Call.{Call}
use Rattle.session.specs.Book.{Book, Verdict, not_allowed, refused, accepted, refusal_by, needs}
use Rattle.session.specs.Book.{allows, book_with, book_by, verdict_after, verdict, stands_in}
use Rattle.session.specs.Exchange.{ValueOf, Reply, not_made, turned_down, gives, verdict_of}
use Rattle.session.specs.Promise.{Settling, HandsOut, AgreesWith, settling_with, settling_by}
use Rattle.session.specs.Promise.{IsValue, IsReply, HasRightWalks}
use Rattle.session.specs.Lists.{TableLists}
use Rattle.session.specs.Program.{SheetAt, reply_by}
use Rattle.session.proofs.Held.{HasWalksInTurn, Keeps, GoesOn}
use Rattle.session.proofs.Needs.{Mirror, refuses, passes}
use Rattle.session.proofs.Walks.{InTurn, hands_out, ended_whole}

-- ---- What was told is right as a whole

each_so : {X : Type 0} (P Q : X → Type 0) → ((x : X) → P x → Q x) → (xs : List X)
    → AllByRecursion P xs → AllByRecursion Q xs
each_so P Q so [] h = tt
each_so P Q so (x ∷ xs) h = (so x h.0, each_so P Q so xs h.1)

module _ {K : Type 0} (kind : Ghosts K) (n : ℕ) where
  walks_are : (s : Settling K) → HasWalksInTurn kind n s → HasRightWalks kind n s
  walks_are s h =
      let ps = optima s.grid in
      let walks = s.walk ∷ s.earlier in
      record {
        walks = each_so (InTurn ps) (HandsOut ps) (hands_out ps) walks h.walks;
        agree = each_so (AreMarksOf n ps) (λ table. AllByRecursion (AgreesWith n table) walks)
            (λ table marks. each_so (InTurn ps) (AgreesWith n table) (λ walk turn ended.
            subst (λ qs. AreMarksOf n qs table) (sym (ended_whole ps walk turn ended)) marks) walks
            h.walks) s.marks h.marks;
      }

-- ---- The causes of refusals

-- a refusal is for the cause of a need
first_cause : (cause : Cause) (needs : List (Bool × Cause)) (f : Fault)
    → AllByRecursion (λ (need : Bool × Cause). need.1 ≢ cause) needs
    → refusal_by needs ≡ Some f → f.cause ≢ cause
first_cause cause [] f h e = cc
first_cause cause (need ∷ needs) f h e =
    elim need.0 as (λ b. cond (not b) (Some (fault need.1 0)) (refusal_by needs) ≡ Some f
    → f.cause ≢ cause) [
      | true ↦ λ k. first_cause cause needs f h.1 k
      | false ↦ λ k. λ same. h.0 (let g : fault need.1 0 ≡ f = cc in
          ap (λ (x : Fault). x.cause) g ∙ same)
    ] e

pub never_six : (needs : List (Bool × Cause)) (f : Fault)
    → AllByRecursion (λ (need : Bool × Cause). need.1 ≢ NoPerfectPairing) needs
    → refusal_by needs ≡ Some f → f ≢ fault NoPerfectPairing 0
never_six needs f h q e =
    first_cause NoPerfectPairing needs f h q (ap (λ (x : Fault). x.cause) e)

-- none of the book's is that the tables do not hold together
module _ {K : Type 0} (kind : Ghosts K) (n : ℕ) where
  none_is_seven : (cells : ℕ → ℕ → Option K) (h : Lengths) (act : Act K)
      → AllByRecursion (λ (need : Bool × Cause). need.1 ≢ Inconsistent) (needs kind n cells h act)
  none_is_seven cells h Settle = (λ e. cc, (λ e. cc, tt))
  none_is_seven cells h Total = (λ e. cc, tt)
  none_is_seven cells h Marks = (λ e. cc, tt)
  none_is_seven cells h Start = (λ e. cc, tt)
  none_is_seven cells h Next = (λ e. cc, tt)
  none_is_seven cells h Close = tt
  none_is_seven cells h Reopen = tt
  none_is_seven cells h _ = (λ e. cc, (λ e. cc, (λ e. cc, tt)))

  module _ (b : Book K) (s : Settling K) (act : Act K) (h : Lengths) (o : Reply (ValueOf K act))
      (state : SheetAt) (t : TableLists K) where
    abbrev call : Call K
    call = record { act = act; handed = h }

    verdict_from : (ok : Bool) (r : Option Fault) → allows b.phase act ≡ ok
        → refusal_by (needs kind n b.cells h act) ≡ r
        → verdict kind n b call ≡ cond ok (verdict_after r) not_allowed
    verdict_from ok r ea er =
        ap (λ a. cond a (verdict_after (refusal_by (needs kind n b.cells h act))) not_allowed) ea
        ∙ ap (λ x. cond ok (verdict_after x) not_allowed) er

    -- what came of the call is known, and the verdict that it shows is the book's
    by_verdict : (v : Verdict) (o' : Reply (ValueOf K act)) → o ≡ o' → verdict_of o' ≡ v
        → verdict kind n b call ≡ v → IsReply kind n b s act o'
        → Keeps kind n (book_by kind v b act) (settling_by kind n b s act o') state t
        → GoesOn kind n b s act h o state t
    by_verdict v o' eo ev e reply keeps =
        subst (λ x. GoesOn kind n b s act h x state t) (sym eo) (record {
          right = record {
            verdict_is = ev ∙ sym e;
            reply_is = reply;
            walks_are = walks_are kind n (settling_by kind n b s act o') keeps.walks;
          };
          keeps = subst (λ x. Keeps kind n (book_by kind x b act) (settling_by kind n b s act o')
              state t) (sym e) keeps;
        })

    pub not_made_next : o ≡ not_made → allows b.phase act ≡ false → Keeps kind n b s state t
        → GoesOn kind n b s act h o state t
    not_made_next e ea keeps =
        by_verdict not_allowed not_made e refl (verdict_from false _ ea refl) tt keeps

    pub refused_next : (f : Fault) (w : Option Shortfall) → o ≡ turned_down f w
        → allows b.phase act ≡ true → refusal_by (needs kind n b.cells h act) ≡ Some f
        → MatchOption w (f ≢ fault NoPerfectPairing 0)
        (λ s. (f ≡ fault NoPerfectPairing 0) × HasNoPerfect n (stands_in b.cells) s.crowd s.short)
        → Keeps kind n b s state t → GoesOn kind n b s act h o state t
    refused_next f w e ea er explained keeps =
        by_verdict (refused f) (turned_down f w) e refl (verdict_from true (Some f) ea er) (record {
          explained = explained;
          never_seven = first_cause Inconsistent (needs kind n b.cells h act) f
              (none_is_seven b.cells h act) er;
        }) keeps

    pub accepted_next : (x : ValueOf K act) → o ≡ gives x → allows b.phase act ≡ true
        → refusal_by (needs kind n b.cells h act) ≡ None → IsValue kind n b s act x
        → Keeps kind n (book_with kind b act) (settling_with kind n b s act x) state t
        → GoesOn kind n b s act h o state t
    accepted_next x e ea er value keeps =
        by_verdict accepted (gives x) e refl (verdict_from true None ea er) value keeps

    -- a call that answers by its needs, which the book's checks mirror; of its refusals none is for
    -- want of a perfect pairing
    pub goes_on_by : {R : Type 0} (needs' : Needs) (value : R → ValueOf K act) (a : Result R Fault)
        (state' : SheetAt) → o ≡ reply_by value a → (Done : R → Type 0) (Kept : Type 0)
        → Responds needs' a Done Kept → state' ≡ state → allows b.phase act ≡ true
        → Mirror (needs kind n b.cells h act) needs'
        → AllByRecursion (λ (need : Bool × Cause). need.1 ≢ NoPerfectPairing)
        (needs kind n b.cells h act)
        → ((r : R) → AreMet needs' → Done r → IsValue kind n b s act (value r)
        × Keeps kind n (book_with kind b act) (settling_with kind n b s act (value r)) state t)
        → (Kept → Keeps kind n b s state t) → GoesOn kind n b s act h o state' t
    goes_on_by needs' value (Ok r) state' e Done Kept is es allowed mirror other done kept =
        let here = done r is.0 is.1 in
        subst (λ st. GoesOn kind n b s act h o st t) (sym es)
        (accepted_next (value r) e allowed (passes _ needs' mirror is.0) here.0 here.1)
    goes_on_by needs' value (Err f) state' e Done Kept is es allowed mirror other done kept =
        let q = refuses _ needs' f mirror is.0 in
        subst (λ st. GoesOn kind n b s act h o st t) (sym es)
        (refused_next f None e allowed q (never_six _ f other q) (kept is.1))
