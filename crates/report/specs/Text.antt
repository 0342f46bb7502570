-- The texts that tell what an order file states, or why it is refused.
use Rattle.std.specs.Prelude.{ℕ, List, [], ◌++◌, ℤ, Some, None, codes, decimal, Option}
use Rattle.std.specs.Option.{option_map}
use Rattle.std.specs.Fmt.{signed_decimal}
use Rattle.cost.specs.declared.plain_kind.Plain.{Plain}
use Rattle.sheet.specs.Refusals.{refusal_text}
use Rattle.sheet.specs.declared.fault.Fault.{Fault}
use Rattle.orderfile.specs.Format.{StatedOrder}
use Rattle.orderfile.specs.Loading.{plain_cell, stated_cost}
use Rattle.refusal_words.specs.Lines.{up_to}

-- the line of a pair, if it stands at a cost: `pair L R COST`
abbrev pub pair_line : ℕ → ℕ → Option ℤ → List ℕ
pair_line l r None = []
pair_line l r (Some cost) = codes "pair "
    ++ (decimal l
    ++ (codes " " ++ (decimal r ++ (codes " " ++ (signed_decimal cost ++ codes "\n")))))

-- the lines of all pairs of n left and n right blocks, by left and then by right block
abbrev pub pair_lines : ℕ → (ℕ → ℕ → Option ℤ) → List ℕ
pair_lines n cost = up_to n (λ l. up_to n (λ r. pair_line l r (cost l r)))

-- the same lines as the tables of a sheet of n blocks have them: a pair's cost there, the lines of
-- left block l up to right block k, and the lines of all left blocks up to k
abbrev pub pair_cost : ℕ → List Plain → List ℕ → ℕ → ℕ → Option ℤ
pair_cost n costs standing l r = option_map (λ p. p.0) (plain_cell n costs standing l r)

abbrev pub row_lines : ℕ → List Plain → List ℕ → ℕ → ℕ → List ℕ
row_lines n costs standing l k = up_to k (λ r. pair_line l r (pair_cost n costs standing l r))

abbrev pub all_lines : ℕ → List Plain → List ℕ → ℕ → List ℕ
all_lines n costs standing k = up_to k (λ l. row_lines n costs standing l n)

-- the text of a sheet, from its tables
abbrev pub sheet_text : ℕ → List Plain → List ℕ → List ℕ
sheet_text n costs standing = (codes "size " ++ (decimal n ++ codes "\n"))
    ++ (all_lines n costs standing n ++ codes "end\n")

-- what a file states: `size N`, the pairs, `end`
abbrev pub statement : StatedOrder → List ℕ
statement order = (codes "size " ++ (decimal order.size ++ codes "\n"))
    ++ (pair_lines order.size (stated_cost order.pairs) ++ codes "end\n")

-- why it is refused: `refused NUMBER at PLACE layer LAYER`
abbrev pub refusal : Fault → List ℕ
refusal f = refusal_text f ++ codes "\n"
