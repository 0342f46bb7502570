-- What a reader that is cut gives.
-- Idea: the bytes that the cut reader has left are the first ones of those that the reader has.
use Rattle.std.proofs.Common.{◌≡◌, ℕ, List, [], ◌++◌, take, Option, Some, None, IfSome}
use Rattle.std.proofs.Common.{◌∙◌, subst}
use Rattle.std.proofs.lemmas.Option.{IfSome_then}
use Rattle.std.specs.Option.{option_map}
use Rattle.std.specs.Io.Take.{take_remaining, take_limit, take_inner}
use Rattle.std.specs.declared.io.traits.Take.{Take}

first_bytes : (known : Option (List ℕ)) (most : ℕ) (file : List ℕ)
    → IfSome (option_map (take most) known) (λ bytes. file ≡ [] ++ bytes)
    → IfSome known (λ bytes. file ≡ take most bytes)
first_bytes None most file gives = tt
first_bytes (Some bytes) most file gives = gives

pub cut_bytes : {R : Type 0} (remaining : R → Option (List ℕ)) (reader : R) (most : ℕ)
    (cut : Take R) (file : List ℕ) → take_limit cut ≡ most → take_inner cut ≡ reader
    → IfSome (take_remaining remaining cut) (λ bytes. file ≡ [] ++ bytes)
    → IfSome (remaining reader) (λ bytes. file ≡ take most bytes)
cut_bytes {R = R} remaining reader most cut file limit inner gives =
    let P : ℕ → Type 0 = λ m. IfSome (remaining reader) (λ bytes. file ≡ take m bytes) in
    let Q : R → Type 0 = λ r. IfSome (remaining r)
    (λ bytes. file ≡ take (take_limit cut) bytes) in
    subst P limit (subst Q inner
    (first_bytes (remaining (take_inner cut)) (take_limit cut) file gives))

-- what is told of a file is told of the bytes that it has
pub told_of_input : (known : Option (List ℕ)) (file shown : List ℕ) (cut : List ℕ → List ℕ)
    (IsTold : List ℕ → Type 0) → shown ≡ file → IfSome known (λ bytes. file ≡ cut bytes)
    → IsTold shown → IfSome known (λ bytes. IsTold (cut bytes))
told_of_input known file shown cut IsTold same gives told =
    IfSome_then known gives (λ bytes e. subst IsTold (same ∙ e) told)
