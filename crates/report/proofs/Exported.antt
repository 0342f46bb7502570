-- A sheet whose tables are in order is saved into a buffer with room for all pairs, and what the
-- buffer begins with is a sound order file.
-- Idea: of the three tests of saving none refuses, and each pair that is written stands in the
-- tables, so it is one that a sheet of this size takes.
use Rattle.std.proofs.Common.{◌≡◌, ℕ, ◌+◌, ◌*◌, ◌≤◌, false, not, List, length, take, drop}
use Rattle.std.proofs.Common.{None, Ok, Result, count_by, sym, ap, ◌∙◌, le-ltb, arith}
use Rattle.std.proofs.ByRecursion.{All-weaker}
use Rattle.std.proofs.lemmas.List.{take_at}
use Rattle.std.proofs.lemmas.List.Sums.{count_by-le-length}
use Rattle.cost.specs.declared.plain_kind.Plain.{Plain}
use Rattle.pairing.specs.Places.{places_of}
use Rattle.sheet.specs.Refusals.{answer}
use Rattle.sheet.specs.declared.fault.Fault.{Fault}
use Rattle.tables.specs.PairTables.{says_stands}
use Rattle.tables.specs.Together.{ArePairTables}
use Rattle.tables.proofs.Lengths.{places_from}
use Rattle.tables.proofs.Orderly.{in_order_tells}
use Rattle.orderfile.specs.Format.{StatedOrder, PairFits, file_of}
use Rattle.orderfile.specs.Loading.{plain_kind}
use Rattle.orderfile.specs.Saving.{saved_length, save_refusal, StandsAtCost}
use Rattle.orderfile.specs.Saving.{IsSaved}
use Rattle.orderfile.specs.declared.format.TheConstants.{SIZE_FIELD, PAIR_FIELD, END_FIELD}
use Rattle.orderfile.proofs.Saves.{refusal_is}
use Rattle.report.specs.Exporting.{IsFileOfTables}

-- a buffer with room for all pairs has room for the standing ones
has_room : (standing : List ℕ) (room places : ℕ) → length standing ≡ places
    → room ≡ SIZE_FIELD + PAIR_FIELD * places + END_FIELD → saved_length standing ≤ room
has_room standing room places long is =
    let few : count_by says_stands standing ≤ length standing = count_by-le-length says_stands
    standing in
    omega arith

-- tables in order were shown to a call that saves them into a buffer with room for all pairs
module _ {n : ℕ} {costs shown_costs : List Plain} {standing shown_standing out out' : List ℕ}
    {places : ℕ} {r : Result ℕ Fault} (tables : ArePairTables plain_kind n costs standing)
    (same_costs : shown_costs ≡ costs) (same_standing : shown_standing ≡ standing)
    (are_places : places ≡ places_of n)
    (room : length out ≡ SIZE_FIELD + PAIR_FIELD * places + END_FIELD)
    (saves : IsSaved n shown_costs shown_standing out r out') where
  saved : IsSaved n costs standing out r out'
  saved = rw (same_costs, same_standing) at saves

  none_refuses : save_refusal n costs standing (length out) ≡ None
  none_refuses = refusal_is n costs standing (length out) false false false
      (ap not (places_from n (length costs) (length standing)
      (record { costs = tables.costs_long; standing = tables.standing_long })))
      (ap not ((in_order_tells plain_kind costs standing (places_of n) tables.costs_long
      tables.standing_long).1 tables.in_order))
      (le-ltb _ _
      (has_room standing (length out) places (tables.standing_long ∙ sym are_places) room))

  pub is_saved : r ≡ Ok (saved_length standing)
  is_saved = saved.answers ∙ ap (λ o. answer o (saved_length standing)) none_refuses

  pub file_saved : 1 ≤ n → (k : ℕ) → r ≡ Ok k → (file : List ℕ) → file ≡ take k out'
      → IsFileOfTables n costs standing file
  file_saved some k is file e =
      let held = saved.writes none_refuses in
      let order : StatedOrder = record { size = n; pairs = held.pairs } in
      let same : saved_length standing ≡ k = let s = is_saved in cc in
      record {
        pairs = held.pairs;
        names = held.names;
        states = record {
          is_file = e ∙ ap (take k) held.file
              ∙ take_at (file_of order) (drop (saved_length standing) out) k (held.long ∙ same);
          fits = record {
            some = some;
            few = tables.few;
            pairs_fit = All-weaker (StandsAtCost n costs standing) (PairFits n) (λ p s. s.fits)
                held.pairs held.names.only;
          };
        };
      }
