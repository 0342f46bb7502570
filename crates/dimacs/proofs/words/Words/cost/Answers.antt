-- What is handed out has its sign put before it, or not, and then the facts on costs apply.
use Rattle.std.proofs.Common.{◌≡◌, ◌+◌, ◌∙◌, drop, sym, ap, subst, w64, to_z, arith}
use Rattle.std.proofs.lemmas.List.{drop-drop, take_rest}
use Rattle.dimacs.proofs.Costs.{cost_none, cost_front, sign_in, handed_out}
use Rattle.dimacs.proofs.Costs.{handed_out_plain, handed_out_negative}
use Rattle.dimacs.proofs.Passing.{word_passed}
use Rattle.dimacs.specs.Words.{IsCost}
use Rattle.dimacs.proofs.words.Words.cost.Goals as goal
use Rattle.dimacs.proofs.words.Words.cost.Goals.{then-sign-eq1, else-sign-eq1}

value_is : (c : goal.Joined-sign-eq1) → to_z w64 c.if-sign-eq1.result-bits
    ≡ handed_out c.sign_length-sign.result c.in_ok-found.found.value
value_is c =
    let sign = c.sign_length-sign.result in
    let value = c.in_ok-found.found.value in
    let bits = c.if-sign-eq1.result-bits in
    elim c.if-sign-eq1.branch [
      | then-sign-eq1 w ↦ handed_out_negative sign value c.min-size.result bits c.min-size.ensures
          w.if-sign-eq1.true w.result-is
      | else-sign-eq1 w ↦ handed_out_plain sign value c.min-size.result bits c.min-size.ensures
          w.if-sign-eq1.false w.result-is
    ]

pub returns-in_err-found : goal.returns-in_err-found
returns-in_err-found c =
    let words = c.args.self.now in
    let sign = c.sign_length-sign in
    rw c.from_residual.ensures (λ word more z cost e.
    cost_none (drop words.at words.text.now) _ sign.result c.args.end
    (sign.ensures ∙ ap sign_in (take_rest words.text.now words.at))
    (sym (drop-drop sign.result words.at words.text.now)) c.in_err-found.ensures word more z e cost)

pub returns : goal.returns
returns c =
    let words = c.args.self.now in
    let sign = c.sign_length-sign in
    let run = c.in_ok-found.ensures in
    let to = c.in_ok-found.found.end in
    let front = cost_front (drop words.at words.text.now) _ sign.result c.args.end
    (sign.ensures ∙ ap sign_in (take_rest words.text.now words.at))
    (sym (drop-drop sign.result words.at words.text.now))
    run.digits (drop (to + 1) words.text.now) run.numeral run.splits c.in_ok-found.found.value
    run.value_is in
    let passed = word_passed words c.pass-text.new.self to c.args.end c.pass-text.result.now
    front.word c.pass-text.ensures (omega (arith, run.ends_at, front.long)) front.splits in (
      front.cost,
      record {
        writes = subst (λ l. IsCost l front.cost) (sym passed.0) front.writes;
        value_is = value_is c ∙ front.handed;
      },
      passed.1,
    )
