-- Loading is refused for the file's first fault alone, and settling where no pairing is perfect;
-- else the first pairing is written, or the one that follows.
use Rattle.std.proofs.Common.{◌≤◌, length, Ok, Err, ap, ◌∙◌, sym, subst, ⊎_elim}
use Rattle.std.proofs.lemmas.Result.{err_from_is_err_and}
use Rattle.sheet.specs.Size.{size_of}
use Rattle.orderfile.specs.Loading.{plain_grid}
use Rattle.orderfile.proofs.LoadedGrid.{loaded_err}
use Rattle.chost.specs.Answers.{AnswersHost}
use Rattle.chost.specs.declared.answering.HostCall.TheVariants.{First, After}
use Rattle.matching.specs.declared.stepping.Step.TheVariants.{Next}
use Rattle.chost.proofs.Buffers.{are_bytes}
use Rattle.chost.proofs.Stated.{answers_faulty, list_fits, out_fits, settle_refused, partners_fit}
use Rattle.chost.proofs.Stated.{first_answered, next_answered}
use Rattle.chost.proofs.answering.answer_over.Goals as goal

pub returns-in_err-sheet : goal.returns-in_err-sheet
returns-in_err-sheet c =
    let p = err_from_is_err_and c.from_residual.result c.from_residual.ensures.1 in
    let f = c.in_err-sheet.field-0.0 in
    let out = c.args.out.now in
    let file = c.args.file.now in
    let why = loaded_err c.in_err-sheet.ensures in
    subst (λ a. AnswersHost c.args.call file out a out) (sym (p.1 ∙ ap Err p.2)) (⊎_elim
    (λ first. answers_faulty c.args.call file out c.load.ensures.verdict f first)
    (λ unfit. let have = c.requires unfit.0 unfit.1 in
    absurd (unfit.2 (record { costs = have.costs_long; standing = have.standing_long })))
    why.0)

pub returns-in_err-settled : goal.returns-in_err-settled
returns-in_err-settled c =
    let p = err_from_is_err_and c.from_residual-in_err-settled.result
    c.from_residual-in_err-settled.ensures.1 in
    let refusal = c.in_err-settled.field-0.0 in
    let out = c.args.out.now in
    subst (λ a. AnswersHost c.args.call c.args.file.now out a out) (sym (p.1 ∙ ap Err p.2))
    (settle_refused c.in_ok-sheet.ensures c.args.call out c.args.partners.now c.args.list.now
    c.args.left.now c.args.right.now c.requires refusal.fault
    c.in_err-settled.ensures.unmet)

pub write_blocks-requires-clause-room : goal.write_blocks-requires-clause-room
write_blocks-requires-clause-room c =
    partners_fit c.in_ok-sheet.ensures c.args.call c.args.out.now c.args.partners.now
    c.args.list.now
    c.args.left.now c.args.right.now c.requires c.in_ok-settled.settled
    c.settle.new.partners c.settle.new.left c.settle.new.right c.in_ok-settled.ensures

pub write_blocks-requires-clause-bytes : goal.write_blocks-requires-clause-bytes
write_blocks-requires-clause-bytes c =
    let n = size_of c.in_ok-sheet.sheet in
    let together = c.in_ok-settled.ensures.together in
    are_bytes n (plain_grid n c.load.new.costs c.load.new.standing).stands c.settle.new.partners
    together.pair_tables.few together.perfect

pub step_on-requires-clause-list_long : goal.step_on-requires-clause-list_long
step_on-requires-clause-list_long c =
    list_fits c.in_ok-sheet.ensures c.args.call c.args.out.now c.args.partners.now c.args.list.now
    c.args.left.now c.args.right.now c.requires
    ∙ sym (ap size_of c.in_ok-settled.ensures.same)

pub step_on-requires-clause-room : goal.step_on-requires-clause-room
step_on-requires-clause-room c =
    subst (λ s. size_of s ≤ length c.args.out.now) (sym c.in_ok-settled.ensures.same)
    (out_fits c.in_ok-sheet.ensures c.args.call c.args.out.now c.args.partners.now c.args.list.now
    c.args.left.now c.args.right.now c.requires)

pub returns-in-First : goal.returns-in-First
returns-in-First c =
    let out' = c.write_blocks.new.out in
    subst (λ k. AnswersHost k c.args.file.now c.args.out.now (Ok Next) out') (sym c.in-First.is)
    (first_answered c.in_ok-sheet.ensures First c.args.out.now c.args.partners.now c.args.list.now
    c.args.left.now c.args.right.now c.requires c.in_ok-settled.settled
    c.settle.new.partners c.settle.new.left c.settle.new.right c.in_ok-settled.ensures out'
    c.write_blocks.ensures)

pub returns-in-After : goal.returns-in-After
returns-in-After c =
    subst (λ k. AnswersHost k c.args.file.now c.args.out.now c.step_on.result c.step_on.new.out)
    (sym c.in-After.is)
    (next_answered c.in_ok-sheet.ensures After c.args.out.now c.args.partners.now c.args.list.now
    c.args.left.now c.args.right.now c.requires c.in_ok-settled.settled
    c.settle.new.partners c.settle.new.left c.settle.new.right c.in_ok-settled.ensures
    c.step_on.result c.step_on.new.out c.step_on.ensures)
