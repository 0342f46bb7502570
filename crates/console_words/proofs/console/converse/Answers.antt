-- Each turn leads on, and the talk ends with the input or where the end is asked for.
use Rattle.std.proofs.Common.{ℕ, ◌+◌, sym, ap, ◌∙◌, subst}
use Rattle.std.specs.Prelude.{vec_items}
use Rattle.std.specs.Io.Iter.{split_byte, split_known_bytes}
use Rattle.std.specs.Iterator.Adapters.{enumerate_source, enumerate_count}
use Rattle.console_words.specs.Conversing.{TakesLine}
use Rattle.console_words.specs.Moving.{IsPrinted}
use Rattle.console_words.proofs.Talking.{begins, taken_line, leads_on, ends_at_end}
use Rattle.console_words.proofs.Talking.{ends_when_asked}
use Rattle.console_words.proofs.console.converse.Goals as goal
use Rattle.console_words.proofs.console.converse.Goals.{in-None}
use Rattle.console_words.proofs.console.converse.Goals.{in-Some+in_ok-line+in_ok-next+in-Over}

pub loop-k-init : goal.loop-k-init
loop-k-init g c =
    let iterator = c.into_iter-k-iterator.result in
    let gives = c.into_iter-k-iterator.ensures.into_iter_gives in
    let source = ap enumerate_source gives ∙ c.enumerate-k-items.ensures.source in
    let count = ap enumerate_count gives ∙ c.enumerate-k-items.ensures.count in (
      ap split_byte source ∙ c.split.ensures.byte,
      begins (g.R.Read.remaining c.args.input)
          (split_known_bytes g.R.Read.remaining (enumerate_source iterator))
          (g.W.Write.contents c.args.output.now) (enumerate_count iterator + 1)
          c.new-console.result
          (ap (split_known_bytes g.R.Read.remaining) source ∙ c.split.ensures.bytes)
          (ap (λ (n : ℕ). n + 1) count) c.new-console.ensures,
    )

pub loop-k-preserved : goal.loop-k-preserved
loop-k-preserved g c =
    let before = c.loop-k.k-iterator in
    let after = c.next.new.self in
    let left = split_known_bytes g.R.Read.remaining (enumerate_source before) in
    let left' = split_known_bytes g.R.Read.remaining (enumerate_source after) in
    let step = c.in-Some.ensures.steps in
    let line = c.as_slice.result.now in
    let said = c.as_bytes.result.now in
    let taken = taken_line vec_items (split_byte (enumerate_source before)) left left'
    c.in-Some.line c.in_ok-line.line line c.loop-k.invariant.0 c.in_ok-line.was
    c.as_slice.ensures.value step.0.2 in
    let takes = subst (λ n. TakesLine (n + 1) line c.loop-k.console c.in_ok-next.next
    c.in_ok-next.turn) step.1 c.in_ok-next.ensures in
    let says = subst (λ t. IsPrinted said t) (sym c.in-Said.is) (sym c.as_bytes.ensures.value) in (
      step.0.1 ∙ c.loop-k.invariant.0,
      leads_on (g.R.Read.remaining c.args.input) left left'
          (g.W.Write.contents c.args.output.now) (g.W.Write.contents c.loop-k.output)
          (g.W.Write.contents c.write_all.new.self) (enumerate_count before + 1)
          (enumerate_count after + 1) c.loop-k.console c.in_ok-next.next c.in_ok-next.turn line
          said (ap (λ (n : ℕ). n + 1) step.2) c.loop-k.invariant.1 taken takes says
          c.in_ok-write_all-in-Said.ensures.bytes,
    )

pub returns : goal.returns
returns g c =
    let before = c.loop-k.k-iterator in
    let left = split_known_bytes g.R.Read.remaining (enumerate_source before) in
    let left' = split_known_bytes g.R.Read.remaining (enumerate_source c.next.new.self) in
    let known = g.R.Read.remaining c.args.input in
    let old = g.W.Write.contents c.args.output.now in
    let new = g.W.Write.contents c.loop-k.output in
    let number = enumerate_count before + 1 in
    elim c.match-next.branch [
      | in-None w ↦ ends_at_end known left old new number c.loop-k.console c.loop-k.invariant.1
          w.in-None.ensures.steps.0.2
      | in-Some+in_ok-line+in_ok-next+in-Over w ↦
          let step = w.in-Some.ensures.steps in
          let line = w.as_slice.result.now in
          let taken = taken_line vec_items (split_byte (enumerate_source before)) left left'
          w.in-Some.line w.in_ok-line.line line c.loop-k.invariant.0 w.in_ok-line.was
          w.as_slice.ensures.value step.0.2 in
          let takes = subst (λ n. TakesLine (n + 1) line c.loop-k.console w.in_ok-next.next
          w.in_ok-next.turn) step.1 w.in_ok-next.ensures in
          ends_when_asked known left old new number c.loop-k.console c.loop-k.invariant.1 left'
          w.in_ok-next.next line taken (subst (λ t. TakesLine number line c.loop-k.console
          w.in_ok-next.next t) w.in-Over.is takes)
    ]
