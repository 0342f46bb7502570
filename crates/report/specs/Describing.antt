-- What telling bytes in a format answers, and what describing an order file or a text does.
use Rattle.std.specs.Prelude.{◌≡◌, ℕ, List}
use Rattle.sheet.specs.declared.fault.Fault.{Fault}
use Rattle.orderfile.specs.Format.{StatedOrder, States}
use Rattle.orderfile.specs.Faults.{FirstFault}
use Rattle.orderfile.specs.Loading.{HasOneVerdict}
use Rattle.dimacs.specs.Texts.{States as TextStates, FirstFault as TextFault}
use Rattle.report.specs.Text.{statement, refusal}

-- the text is of the order that some bytes state in a format, or is what is told of their first
-- fault in it; bytes have one of the two, and never both
pub record IsReport (IsStated : StatedOrder → Type 0) (IsFirstFault : Fault → Type 0)
    (IsOfOrder : StatedOrder → List ℕ → Type 0) (of_fault : Fault → List ℕ) (text : List ℕ)
    : Type 0 where
  pub verdict : HasOneVerdict IsStated IsFirstFault
  pub states : (order : StatedOrder) → IsStated order → IsOfOrder order text
  pub faulty : (f : Fault) → IsFirstFault f → text ≡ of_fault f

-- the text tells what the file states, or its first fault
abbrev pub Describes : (file text : List ℕ) → Type 0
Describes file =
    IsReport (States file) (FirstFault file) (λ order text. text ≡ statement order) refusal

-- it tells what an assignment text states, or its first fault
abbrev pub DescribesText : (text told : List ℕ) → Type 0
DescribesText text =
    IsReport (TextStates text) (TextFault text) (λ order told. told ≡ statement order) refusal
