-- The order file format: the bytes of each field and of a whole file, and what a file states.
use Rattle.std.specs.Prelude.{◌≡◌, ℕ, ◌+◌, ◌*◌, ◌/◌, ◌%◌, ◌<◌, ◌≤◌, Bool, ◌||◌, List, [], ◌∷◌, ◌++◌}
use Rattle.std.specs.Prelude.{length, take, drop, nat_lt, slice_index, unsigned_abs}
use Rattle.std.specs.Int.{w64}
use Rattle.std.proofs.Common.{of_z, to_z}
use Rattle.std.specs.List.{flat_map, AllByRecursion}
use Rattle.cost.specs.declared.TheConstants.{COST_LIMIT}
use Rattle.blockset.specs.declared.TheConstants.{MOST_BLOCKS}
use Rattle.orderfile.specs.declared.format.TheConstants.{HEADER_LENGTH, SIZE_TAG, PAIR_TAG, END_TAG}
use Rattle.orderfile.specs.declared.format.TheConstants.{SIZE_LENGTH, PAIR_LENGTH, END_LENGTH}
use Rattle.orderfile.specs.declared.record.StatedPair.{StatedPair}

-- a number below 2^64 as eight bytes, the high byte first
abbrev pub eight_bytes : ℕ → List ℕ
eight_bytes x =
    (x / 72057594037927936 % 256) ∷ (x / 281474976710656 % 256) ∷ (x / 1099511627776 % 256)
    ∷ (x / 4294967296 % 256)
    ∷ (x / 16777216 % 256) ∷ (x / 65536 % 256) ∷ (x / 256 % 256) ∷ (x % 256) ∷ []

-- the three kinds of field: a tag, a length of two bytes with the high byte first, a value.
-- of_z w64 is the number's 64 bits in two's complement
abbrev pub size_field : ℕ → List ℕ
size_field n = SIZE_TAG ∷ 0 ∷ SIZE_LENGTH ∷ n ∷ []

abbrev pub pair_field : StatedPair → List ℕ
pair_field p =
    PAIR_TAG ∷ 0 ∷ PAIR_LENGTH ∷ p.left ∷ p.right ∷ eight_bytes (of_z w64 p.cost)

abbrev pub end_field : List ℕ
end_field = END_TAG ∷ 0 ∷ END_LENGTH ∷ []

-- what a whole file states: a size, and pairs in the order in which they stand in the file
pub record StatedOrder : Type 0 where
  pub size : ℕ
  pub pairs : List StatedPair

-- the file of an order: one size field, then the pairs, then one end field
abbrev pub file_of : StatedOrder → List ℕ
file_of order = size_field order.size ++ (flat_map pair_field order.pairs ++ end_field)

-- a pair that a sheet of n blocks takes
pub record PairFits (n : ℕ) (p : StatedPair) : Type 0 where
  pub left_below : p.left < n
  pub right_below : p.right < n
  pub cost_within : unsigned_abs p.cost ≤ COST_LIMIT

pub record FitsSheet (order : StatedOrder) : Type 0 where
  pub some : 1 ≤ order.size
  pub few : order.size ≤ MOST_BLOCKS
  pub pairs_fit : AllByRecursion (PairFits order.size) order.pairs

-- a file states an order if it is the order's file, and a sheet takes all of it
pub record States (file : List ℕ) (order : StatedOrder) : Type 0 where
  pub is_file : file ≡ file_of order
  pub fits : FitsSheet order

-- the parts of the field that begins a list of bytes
abbrev pub tag_of : List ℕ → ℕ
tag_of bytes = slice_index bytes 0

abbrev pub length_of : List ℕ → ℕ
length_of bytes = slice_index bytes 1 * 256 + slice_index bytes 2

abbrev pub extent : List ℕ → ℕ
extent bytes = HEADER_LENGTH + length_of bytes

abbrev pub value_of : List ℕ → List ℕ
value_of bytes = take (length_of bytes) (drop HEADER_LENGTH bytes)

-- the field runs past the end of the bytes
abbrev pub overruns : List ℕ → Bool
overruns bytes = nat_lt (length bytes) HEADER_LENGTH || nat_lt (length bytes) (extent bytes)

-- the pair that the value of a pair field states: to_z w64 reads 64 bits in two's complement
abbrev pub pair_in : List ℕ → StatedPair
pair_in value = record {
  left = slice_index value 0;
  right = slice_index value 1;
  cost = to_z w64 (slice_index value 2 * 72057594037927936 + slice_index value 3 * 281474976710656 +
      slice_index value 4 * 1099511627776 + slice_index value 5 * 4294967296
      + slice_index value 6 * 16777216 + slice_index value 7 * 65536 + slice_index value 8 * 256 +
      slice_index value 9);
}
