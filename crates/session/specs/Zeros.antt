-- New tables of a sheet.
use Rattle.std.specs.Prelude.{ℕ, replicate}
use Rattle.pairing.specs.Places.{places_of}
use Rattle.session.specs.Lists.{TableLists}

-- tables for n blocks a plane, with zero in every place
abbrev pub zero_lists : {K : Type 0} (nought : K) (n : ℕ) → TableLists K
zero_lists nought n = record {
  costs = replicate (places_of n) nought;
  standing = replicate (places_of n) 0;
  partners = replicate n 0;
  left = replicate n nought;
  right = replicate n nought;
  walk = replicate n 0;
  marks = replicate (places_of n) 0;
}
