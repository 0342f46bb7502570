-- One pair more, whose parts were read from their tables.
use Rattle.std.proofs.Common.{◌≡◌, not, ◌||◌, ap, ap₂, ◌∙◌, arith}
use mir.Val.{bool_byte}
use Rattle.tables.specs.Sound.{Edge, edge_in}
use Rattle.tables.proofs.Filling.{value_at}
use Rattle.tables.proofs.Sounding.{gathered_more}
use Rattle.tables.proofs.sound.sound_row.Goals as goal

pub loop-r-preserved : goal.loop-r-preserved
loop-r-preserved g c =
    let kind = g.K.Cost in
    let r = c.loop-r.r in
    let costs = c.args.costs.now in
    let standing = c.args.standing.now in
    let left = kind.meaning c.args.left in
    let right = c.args.right.now in
    let p : Edge = record {
      byte = c.from-byte.result;
      left = left;
      right = kind.meaning c.index-right-r.result;
      cost = kind.meaning c.index-costs-r.result;
    } in
    let e = c.from-byte.ensures in
    let f = value_at kind right r c.index-right-r.result (omega arith) c.index-right-r.is in
    let h = value_at kind costs r c.index-costs-r.result (omega arith) c.index-costs-r.is in
    let read : p ≡ edge_in kind costs standing left right r = cc (e, f, h) in
    gathered_more kind costs standing left right r c.loop-r.seen c.loop-r.faults c.loop-r.row
    c.insert_if.new.self p c.from.result c.from-in-loop-r.result c.loop-r.invariant read
    (c.from.ensures ∙ ap₂ (λ w b. bool_byte (not w || b)) c.within-small.ensures
    c.compare_prices-beyond.ensures.beyond)
    (c.from-in-loop-r.ensures ∙ ap bool_byte c.compare_prices-beyond.ensures.tight)
    c.insert_if.ensures
