-- The pairing in the list tells its place, so each step leads to the next place or ends the list.
use Rattle.std.proofs.Common.{◌≡◌, ◌+◌, ◌++◌, length, take, codes, string_bytes}
use Rattle.std.proofs.Common.{sym, ap, ◌∙◌, subst, arith}
use Rattle.std.proofs.lemmas.List.{take_all}
use Rattle.pairing.specs.Optima.{optima}
use Rattle.tables.specs.Lent.{grid}
use Rattle.orderfile.specs.Loading.{plain_kind}
use Rattle.report.specs.Listing.{listed, pairing_lines}
use Rattle.report.proofs.Lines.{written}
use Rattle.report.proofs.Listed.{line_more, listed_whole, last_is_end, last_is_more}
use Rattle.matching.proofs.Nth.{nth_optimum}
use Rattle.report.proofs.Listed.{optima_distinct, place_next, place_last}
use Rattle.report.proofs.list_file.push_pairings.Goals as goal

pub step-requires-clause-optimum : goal.step-requires-clause-optimum
step-requires-clause-optimum c =
    nth_optimum (grid plain_kind c.args.tables.now) _ _ c.loop.invariant.here

pub returns-in-End : goal.returns-in-End
returns-in-End c =
    let g = grid plain_kind c.args.tables.now in
    let ps = optima g in
    let k = c.loop.counter in
    let start = string_bytes c.args.text.now in
    let text = string_bytes c.push_pairing_line.new.text in
    let last : k + 1 ≡ length ps = place_last ps (optima_distinct g) k c.loop.list
    c.step.new.list c.loop.invariant.here c.in-End.ensures in
    let all : text ≡ start ++ pairing_lines (take 1000 ps) =
    line_more ps start (string_bytes c.loop.text) text k c.loop.list c.loop.invariant.here
    c.loop.invariant.lines c.in_ok-push_pairing_line.ensures
    ∙ ap (λ qs. start ++ pairing_lines qs)
    (take_all (k + 1) ps (omega arith) ∙ sym (take_all 1000 ps (omega arith))) in
    written c.push_str.result text (string_bytes c.push_str.new.self) (codes "end\n")
    (start ++ listed ps) c.push_str.ensures.bytes
    (listed_whole ps start text (string_bytes c.push_str.new.self) (codes "end\n")
    (last_is_end (length ps) (omega arith)) all)

pub loop-preserved : goal.loop-preserved
loop-preserved c =
    let g = grid plain_kind c.args.tables.now in
    let k = c.loop.counter in
    record {
      lines = line_more (optima g) (string_bytes c.args.text.now) (string_bytes c.loop.text)
          (string_bytes c.push_pairing_line.new.text) k c.loop.list c.loop.invariant.here
          c.loop.invariant.lines c.in_ok-push_pairing_line.ensures;
      here = place_next (optima g) (optima_distinct g) k c.loop.list c.step.new.list
          c.loop.invariant.here c.in_default.ensures;
    }

pub returns : goal.returns
returns c =
    let ps = optima (grid plain_kind c.args.tables.now) in
    let start = string_bytes c.args.text.now in
    let text = string_bytes c.loop.text in
    let whole : c.loop.counter ≡ 1000 = omega arith in
    written c.push_str-2.result text (string_bytes c.push_str-2.new.self) (codes "more\n")
    (start ++ listed ps) c.push_str-2.ensures.bytes
    (listed_whole ps start text (string_bytes c.push_str-2.new.self) (codes "more\n")
    (last_is_more (length ps) (omega (arith, c.loop.invariant.here.0)))
    (subst (λ k. text ≡ start ++ pairing_lines (take k ps)) whole c.loop.invariant.lines))
