-- A place tells its pair.
use Rattle.std.proofs.Common.{◌≡◌, ℕ, ◌/◌, ◌%◌, List, ℤ, pos, sym, ap, ap₂, ◌∙◌, to_z, of_z}
use Rattle.std.proofs.Common.{w64, rules}
use Rattle.cost.specs.declared.plain_kind.Plain.{Plain}
use Rattle.pairing.specs.Places.{place_of}
use Rattle.tables.proofs.Cells.{place_left, place_right}
use Rattle.orderfile.specs.declared.record.StatedPair.{StatedPair}
use Rattle.orderfile.specs.Loading.{plain}
use Rattle.orderfile.specs.Saving.{pair_at}
use Rattle.orderfile.proofs.saving.pair_at.Goals as goal
use Rattle.std.proofs.Common.{slice_index_or}

pair_is : (n : ℕ) (costs : List Plain) (l r k : ℕ) (z : ℤ) → k ≡ place_of n l r
    → place_of n l r / n ≡ l → place_of n l r % n ≡ r → z
    ≡ (slice_index_or costs k (plain (pos 0))).0
    → ◌≡◌ {A = StatedPair} (record { left = l; right = r; cost = z })
    (pair_at n costs (place_of n l r))
pair_is n costs l r k z here el er ez =
    ap (λ c. record { left = l; right = r; cost = c })
    (ez ∙ ap (λ j. (slice_index_or costs j (plain (pos 0))).0) here)
    ∙ ap₂ (λ i j. record {
      left = i;
      right = j;
      cost = (slice_index_or costs (place_of n l r) (plain (pos 0))).0;
    }) (sym el) (sym er)

pub returns : goal.returns
returns c =
    let n = c.args.n in
    let l = c.args.left in
    let r = c.args.right in
    let k = c.place.result in
    let z = (slice_index_or c.args.costs.now k (plain (pos 0))).0 in
    let same : to_z w64 (of_z w64 z) ≡ z = search rules in
    pair_is n c.args.costs.now l r k _ c.place.ensures
    (place_left n l r c.requires.right_inside) (place_right n l r c.requires.right_inside) same
