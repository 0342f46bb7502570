-- The tables of a sheet, one by one: what is said of each table is said once.
use Rattle.std.specs.Prelude.{ℕ, Bool, true, false, List, length}
use Rattle.pairing.specs.Places.{places_of, rights_of}
use Rattle.tables.specs.Lent.{Lent, lent as as_one}
use Rattle.session.specs.declared.call.Lengths.{Lengths}
use Rattle.session.specs.Book.{Phase, opened, settled, walking}

pub data Table : Type 0 where
  the_costs : Table
  the_standing : Table
  the_partners : Table
  the_left : Table
  the_right : Table
  the_walk : Table
  the_marks : Table

-- what a place of a table holds
abbrev pub Item : Type 0 → Table → Type 0
Item K the_costs = K
Item K the_left = K
Item K the_right = K
Item K _ = ℕ

-- a list for each table: what the sheet's own tables hold, or what a call is handed or leaves
pub record TableLists (K : Type 0) : Type 0 where
  pub costs : List K
  pub standing : List ℕ
  pub partners : List ℕ
  pub left : List K
  pub right : List K
  pub walk : List ℕ
  pub marks : List ℕ

abbrev pub list_in : {K : Type 0} → TableLists K → (table : Table) → List (Item K table)
list_in x the_costs = x.costs
list_in x the_standing = x.standing
list_in x the_partners = x.partners
list_in x the_left = x.left
list_in x the_right = x.right
list_in x the_walk = x.walk
list_in x the_marks = x.marks

-- the tables that most calls on a sheet of n blocks a plane are handed, as one value
abbrev pub lent_of : {K : Type 0} → ℕ → TableLists K → Lent K
lent_of n x = as_one n x.costs x.standing x.partners x.left x.right

-- ---- Lengths

abbrev pub lengths_by : (Table → ℕ) → Lengths
lengths_by places = record {
  costs = places the_costs;
  standing = places the_standing;
  partners = places the_partners;
  left = places the_left;
  right = places the_right;
  walk = places the_walk;
  marks = places the_marks;
}

abbrev pub lengths : {K : Type 0} → TableLists K → Lengths
lengths x = lengths_by (λ table. length (list_in x table))

-- how many places a table has for n blocks a plane
abbrev pub places_in : ℕ → Table → ℕ
places_in n the_costs = places_of n
places_in n the_standing = places_of n
places_in n the_marks = places_of n
places_in n the_right = rights_of n
places_in n _ = n

abbrev pub right_lengths : ℕ → Lengths
right_lengths n = lengths_by (places_in n)

-- ---- States

abbrev pub is_pair_table : Table → Bool
is_pair_table the_costs = true
is_pair_table the_standing = true
is_pair_table _ = false

-- a sheet that is settled, or on a walk; one that is on a walk
abbrev pub is_settled : Phase → Bool
is_settled opened = false
is_settled settled = true
is_settled walking = true

abbrev pub is_walking : Phase → Bool
is_walking opened = false
is_walking settled = false
is_walking walking = true

-- whether a state rests on a table: on the two pair tables always, from a settle on also on the
-- partners and the prices, and on a walk also on the walk list
abbrev pub rests_on : Phase → Table → Bool
rests_on phase the_costs = true
rests_on phase the_standing = true
rests_on phase the_partners = is_settled phase
rests_on phase the_left = is_settled phase
rests_on phase the_right = is_settled phase
rests_on phase the_walk = is_walking phase
rests_on phase the_marks = false
