-- What a pass finds of the pairs decides whether they are sound: of one pair, one row and all rows.
-- Idea: a row is sound one pair further if it was sound and the pair is, and the rows are sound one
-- left block further if they were sound and its row is. A pair that stands is sound just where its
-- cost is within the limit and its prices do not compare as greater. Every place is that of a pair,
-- so what holds of all pairs holds of all places.
use Rattle.std.specs.Prelude.{◌≡◌, ℕ, zero, suc, ◌+◌, ◌*◌, ◌/◌, ◌%◌, ◌<◌, ◌≤◌, Bool, true, false}
use Rattle.std.specs.Prelude.{not}
use Rattle.std.specs.Prelude.{◌&&◌, ◌||◌, ◌==◌, nat_lt, List, length, slice_index, slice_index_or}
use Rattle.std.specs.Prelude.{ℤ, ◌+ℤ◌, IsTrue, ◌↔◌, slice_set}
use Rattle.std.specs.declared.cmp.Ordering.{Ordering}
use Rattle.std.specs.declared.cmp.Ordering.TheVariants.{Less, Equal, Greater}
use Rattle.std.proofs.Common.{sym, refl, ap, ◌∙◌, subst, arith, below_more}
use mir.Val.{bool_byte}
use lib.Bits.{bit_and, bit_or}
use Rattle.std.specs.Ordering.{is_gt, is_eq}
use Rattle.std.specs.Cmp.{Equal-is}
use Rattle.std.proofs.Math.Bool.{not-not}
use Rattle.std.proofs.Math.Nat.{mod-add-div, div-lt_iff_lt-mul}
use Rattle.std.proofs.lemmas.Nat.{mul-add-lt}
use Rattle.std.proofs.lemmas.Bool.{both_ways, false≢true, and_parts, and_from, ltb-true, lt-ltb}
use Rattle.std.proofs.lemmas.Bool.Decides.{Decides-at, Decides-like, Decides-and, nat_tests}
use Rattle.cost.specs.declared.Cost.{Ghosts}
use Rattle.cost.specs.declared.TheConstants.{COST_LIMIT}
use Rattle.cost.specs.Columns.{AreWithin, within, plus, lex}
use Rattle.cost.proofs.Exact.{within_tells, length-columnwise}
use Rattle.cost.proofs.Order.{lex_same, lex_refl}
use Rattle.blockset.specs.declared.BlockSet.{BlockSet}
use Rattle.blockset.specs.Has.{has}
use Rattle.pairing.specs.Places.{place_of, places_of, rights_of}
use Rattle.tables.specs.PairTables.{byte_of, says_stands, says_disturbed, part_of}
use Rattle.tables.specs.Said.{columns_at}
use Rattle.tables.specs.Lent.{Lent, left_price, right_price, HasRoom}
use Rattle.tables.specs.PairRows.{HoldsPassing, AreTightRows}
use Rattle.tables.specs.Sound.{Edge, adds_up, edge_in, IsSoundEdge, IsSoundRow, IsSound}
use Rattle.tables.proofs.Filling.{Made, put_if, passing_like, row_made, value_at, part_at}
use Rattle.tables.proofs.Filling.{columns_at-part_of}
use Rattle.tables.proofs.Orderly.{columns_sized}
use Rattle.tables.proofs.Gathering.{faultless, is_fine, fine_tells, and_byte, gathered}

-- ---- One pair

greater_tells : (o : Ordering) → IsTrue (not (is_gt o)) ↔ (o ≡ Greater → ⊥)
greater_tells Less = (λ e g. both_ways (is_gt Less) refl (ap is_gt g), λ h. refl)
greater_tells Equal = (λ e g. both_ways (is_gt Equal) refl (ap is_gt g), λ h. refl)
greater_tells Greater = (λ e. absurd (false≢true e), λ h. absurd (h refl))

byte_some : (b : Bool) → not (bool_byte b == 0) ≡ b
byte_some true = refl
byte_some false = refl

calm_byte : (byte : ℕ) → says_disturbed byte ≡ false → byte ≤ 1
calm_byte byte e = grind (arith, nat_tests)

fine_both : (small beyond : Bool) → not (not small || beyond) ≡ (small && not beyond)
fine_both true beyond = refl
fine_both false beyond = refl

-- what is read tells whether the pair is sound if it stands, and whether it is tight
module _ (p : Edge) where
  abbrev order : Ordering
  order = lex (plus p.left p.right) p.cost

  abbrev pub wrong : Bool
  wrong = not (within COST_LIMIT p.cost) || is_gt order

  pub pair_tells : IsTrue (is_fine p.byte (not wrong)) ↔ IsSoundEdge p
  pair_tells = Decides-like (is_fine p.byte (not wrong))
      (λ h. record { calm = h.0; small = λ s. (h.1 s).0; feasible = λ s. (h.1 s).1 })
      (λ s. (s.calm, λ t. (s.small t, s.feasible t)))
      (fine_tells p.byte (not wrong)
      (Decides-at (not wrong) (within COST_LIMIT p.cost && not (is_gt order))
      (fine_both (within COST_LIMIT p.cost) (is_gt order))
      (Decides-and (within COST_LIMIT p.cost) (not (is_gt order)) (within_tells COST_LIMIT p.cost)
      (greater_tells order))))

  -- where the byte was not disturbed
  sound_tight : says_disturbed p.byte ≡ false
      → not (bit_and p.byte (bool_byte (is_eq order)) == 0) ≡ adds_up p
  sound_tight calm =
      ap (λ m. not (m == 0)) (and_byte p.byte (is_eq order) (calm_byte p.byte calm))
      ∙ byte_some (adds_up p)

-- ---- A row

module _ {K : Type 0} (kind : Ghosts K) (costs : List K) (standing : List ℕ) (left : List ℤ)
    (right : List K) where
  abbrev Each : ℕ → Type 0
  Each = IsSoundRow kind costs standing left right

  abbrev edge : ℕ → Edge
  edge = edge_in kind costs standing left right

  -- what was gathered of the first k pairs tells whether they are sound, and if they are, the row
  -- has just the tight ones
  pub record IsGathered (k seen faults : ℕ) (row : BlockSet) : Type 0 where
    pub told : IsTrue (faultless seen faults) ↔ IsSoundRow kind costs standing left right k
    pub tight : IsSoundRow kind costs standing left right k
        → HoldsPassing k (λ r. adds_up (edge_in kind costs standing left right r)) row

  -- one pair more
  pub gathered_more : (r seen faults : ℕ) (row new : BlockSet) (p : Edge) (fault tight : ℕ)
      → IsGathered r seen faults row → p ≡ edge_in kind costs standing left right r
      → fault ≡ bool_byte (wrong p) → tight ≡ bool_byte (is_eq (lex (plus p.left p.right) p.cost))
      → ((j : ℕ) → has new j ≡ ((not (bit_and p.byte tight == 0) && j == r) || has row j))
      → IsGathered (r + 1) (bit_or seen p.byte) (bit_or faults (bit_and p.byte fault)) new
  gathered_more r seen faults row new p fault tight before read faulty even put = record {
    told = Decides-at (faultless (bit_or seen p.byte) (bit_or faults (bit_and p.byte fault)))
        (faultless seen faults && is_fine p.byte (not (wrong p)))
        (ap (λ x. faultless (bit_or seen p.byte) (bit_or faults (bit_and p.byte x)))
        (faulty ∙ ap bool_byte (sym (not-not (wrong p))))
        ∙ gathered seen faults p.byte (not (wrong p)))
        (Decides-like (faultless seen faults && is_fine p.byte (not (wrong p)))
        (λ (h : Each r × IsSoundEdge p). below_more (λ j. IsSoundEdge (edge j)) r h.0
        (subst IsSoundEdge read h.1))
        (λ (s : Each (r + 1)). (
          λ j i. s j (omega arith),
          subst IsSoundEdge (sym read) (s r (omega arith)),
        ))
        (Decides-and (faultless seen faults) (is_fine p.byte (not (wrong p))) before.told
        (pair_tells p)));
    tight = λ s. put_if row new r (λ j. adds_up (edge j))
        (not (bit_and p.byte tight == 0)) (before.tight (λ j i. s j (omega arith)))
        (ap (λ x. not (bit_and p.byte x == 0)) even
        ∙ sound_tight p (subst IsSoundEdge (sym read) (s r (omega arith))).calm
        ∙ ap adds_up read) put;
  }

-- ---- All rows

-- what holds of the place of each pair holds of all places
each_place : (n : ℕ) (P : ℕ → Type 0)
    → ((l : ℕ) → l < n → (r : ℕ) → r < rights_of n → P (place_of n l r))
    → (k : ℕ) → k < places_of n → P k
each_place zero P each k h = absurd (omega arith)
each_place (suc m) P each k h =
    let e : k / suc m * suc m + k % suc m ≡ k = omega (arith, mod-add-div k (suc m)) in
    subst P e (each (k / suc m) ((div-lt_iff_lt-mul (omega arith)).1 h) (k % suc m) (omega arith))

module _ {K : Type 0} (kind : Ghosts K) (t : Lent K) where
  -- what the tables say of the pair of l and r
  abbrev pub edge_at : ℕ → ℕ → Edge
  edge_at l r = record {
    byte = byte_of t.size t.standing l r;
    left = left_price kind t l;
    right = right_price kind t r;
    cost = columns_at kind t.costs (place_of t.size l r);
  }

  -- the pairs of the left blocks below k are sound, and their rows hold what is tight
  pub record AreFilled (k : ℕ) (rows : List BlockSet) : Type 0 where
    pub sound : (l : ℕ) → l < k → (r : ℕ) → r < rights_of t.size → IsSoundEdge (edge_at l r)
    pub tight : Made k (rights_of t.size) (λ l r. adds_up (edge_at l r)) rows

  module _ (room : HasRoom t) where
    -- one left block more, whose price was read from its table, by its parts of the pair tables
    module _ (l : ℕ) (price : K) (costs : List K) (standing : List ℕ) (inside : l < t.size)
        (read : price ≡ slice_index_or t.left l price)
        (costs_are : costs ≡ part_of t.size l t.costs)
        (standing_are : standing ≡ part_of t.size l t.standing) where
      abbrev own : ℕ → Edge
      own = edge_in kind costs standing (kind.meaning price) t.right

      -- the parts say what the tables say
      own_is : (r : ℕ) → r < rights_of t.size → own r ≡ edge_at l r
      own_is r i =
          let e : slice_index standing r ≡ byte_of t.size t.standing l r =
          ap (λ xs. slice_index xs r) standing_are
          ∙ part_at t.size l t.standing inside room.standing_long r 0 i in
          let f = value_at kind t.left l price (omega (arith, room.left_long)) read in
          let h : columns_at kind costs r ≡ columns_at kind t.costs (place_of t.size l r) =
          ap (λ xs. columns_at kind xs r) costs_are
          ∙ columns_at-part_of kind t.costs t.size l inside room.costs_long r i in
          cc

      pub filled_more : (rows : List BlockSet) (row : BlockSet) → l < length rows → AreFilled l rows
          → IsSoundRow kind costs standing (kind.meaning price) t.right (length t.right)
          → HoldsPassing (length t.right)
          (λ r. adds_up (edge_in kind costs standing (kind.meaning price) t.right r)) row
          → AreFilled (l + 1) (slice_set rows l row)
      filled_more rows row in_rows before sound tight = record {
        sound = below_more (λ k. (r : ℕ) → r < rights_of t.size → IsSoundEdge (edge_at k r)) l
            before.sound
            (λ r i. subst IsSoundEdge (own_is r i) (sound r (omega (arith, room.right_long))));
        tight = row_made (rights_of t.size) l (λ k r. adds_up (edge_at k r)) rows row in_rows
            before.tight
            (passing_like (rights_of t.size) (λ r. adds_up (own r))
            (λ r. adds_up (edge_at l r)) row (λ r i. ap adds_up (own_is r i))
            (subst (λ k. HoldsPassing k (λ r. adds_up (own r)) row) room.right_long tight));
      }

      pub row_of_sound : IsSound kind t
          → IsSoundRow kind costs standing (kind.meaning price) t.right (length t.right)
      row_of_sound s r i =
          let j : r < rights_of t.size = omega (arith, room.right_long) in
          let place = mul-add-lt l t.size r t.size inside j in
          subst IsSoundEdge (sym (own_is r j)) (record {
            calm = s.in_order.bytes (place_of t.size l r) place;
            small = s.in_order.small (place_of t.size l r) place;
            feasible = s.feasible l r inside j;
          })

    -- at the end
    module _ (rows : List BlockSet) (filled : AreFilled t.size rows) where
      at_place : (k : ℕ) → k < places_of t.size
          → (says_disturbed (slice_index t.standing k) ≡ false)
          × (says_stands (slice_index t.standing k) ≡ true
          → AreWithin COST_LIMIT (columns_at kind t.costs k))
      at_place = each_place t.size (λ k. (says_disturbed (slice_index t.standing k) ≡ false)
          × (says_stands (slice_index t.standing k) ≡ true
          → AreWithin COST_LIMIT (columns_at kind t.costs k)))
          (λ l i r j. let s = filled.sound l i r j in (s.calm, s.small))

      pub all_sound : IsSound kind t
      all_sound = record {
        in_order = record {
          bytes = λ k h. (at_place k h).0;
          small = λ k h. (at_place k h).1;
        };
        feasible = λ l r i j. (filled.sound l i r j).feasible;
      }

      -- rows that hold the pairs whose prices compare as equal to their costs are those of the
      -- tight edges, since the columns of a kind are equally many
      pub tight_rows : ((x : K) → length (kind.meaning x) ≡ kind.columns) → length rows ≡ t.size
          → AreTightRows kind t rows
      tight_rows wide long = record {
        long = long;
        held = λ l r i.
            let p = edge_at l r in
            let sum = plus p.left p.right in
            let even = is_eq (lex sum p.cost) in (
              λ e.
                  let there = and_parts (nat_lt r (rights_of t.size)) (adds_up p)
                  (sym (filled.tight l r i) ∙ e) in
                  let j = ltb-true r (rights_of t.size) there.0 in
                  let both = and_parts (says_stands p.byte) even there.1 in
                  record {
                    inside = j;
                    stands = both.0;
                    tight = lex_same sum p.cost (sized l r i j)
                        ((Equal-is (lex sum p.cost)).0 both.1);
                  },
              λ edge. filled.tight l r i ∙ and_from (nat_lt r (rights_of t.size)) (adds_up p)
                  (lt-ltb r (rights_of t.size) edge.inside)
                  (and_from (says_stands p.byte) even edge.stands
                  (ap (λ x. is_eq (lex x p.cost)) edge.tight ∙ ap is_eq (lex_refl p.cost))),
            );
      }
        where
          sized : (l r : ℕ) → l < t.size → r < rights_of t.size
              → length (plus (left_price kind t l) (right_price kind t r))
              ≡ length (columns_at kind t.costs (place_of t.size l r))
          sized l r i j =
              let a = columns_sized kind wide t.left l (omega (arith, room.left_long)) in
              let b = columns_sized kind wide t.right r (omega (arith, room.right_long)) in
              let place = mul-add-lt l t.size r t.size i j in
              let d = columns_sized kind wide t.costs (place_of t.size l r)
              (omega (arith, room.costs_long)) in
              length-columnwise ◌+ℤ◌ (left_price kind t l) (right_price kind t r) (a ∙ sym b)
              ∙ a ∙ sym d
