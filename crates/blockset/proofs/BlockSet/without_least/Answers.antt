-- The number before the set's has all its bits but the lowest.
use Rattle.std.proofs.Common.{◌≡◌, ◌+◌, ◌-◌, ◌%◌, ◌^◌, ◌<◌, Bool, true, false, ◌&&◌, ltb, sym, refl}
use Rattle.std.proofs.Common.{ap, ◌∙◌, arith}
use lib.Bits.{bit_and}
use Rattle.std.proofs.lemmas.Bool.{both_ways}
use Rattle.blockset.specs.declared.TheConstants.{SET_WIDTH}
use Rattle.blockset.specs.Sets.{bit}
use Rattle.blockset.specs.Has.{has}
use Rattle.blockset.proofs.Bits.{bit-zero, without_lowest}
use Rattle.blockset.proofs.Holding.{has-bit}
use Rattle.blockset.proofs.BlockSet.without_least.Goals as goal

grouped : (t a b : Bool) → (t && (a && b)) ≡ ((t && a) && b)
grouped true a b = refl
grouped false a b = refl

pub returns : goal.returns
unfolding has
returns c = λ block j least.
    let s = c.args.self in
    let m = s.0 in
    let inside : m < 2 ^ 64 = omega arith in
    let set = sym (has-bit s block inside) ∙ least.1 in
    let some : m ≡ 0 → ⊥ =
    λ e. both_ways (bit m block) (ap (λ x. bit x block) e ∙ bit-zero block) set in
    let before : (m + 18446744073709551615) % 18446744073709551616 ≡ m - 1 = omega (arith, some) in
    ap (λ x. ltb j SET_WIDTH && bit (bit_and m x) j) before
    ∙ ap (λ x. ltb j SET_WIDTH && x) (without_lowest m block j set
    (λ k h. sym (has-bit s k inside) ∙ least.2 k h))
    ∙ grouped (ltb j SET_WIDTH) (bit m j) _
