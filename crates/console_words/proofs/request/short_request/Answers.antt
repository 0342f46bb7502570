-- A word that is left behind a call with a short table is one too many of the call's form.
use Rattle.std.proofs.Common.{inr, subst}
use Rattle.console_words.specs.Forms.{IsTooMany}
use Rattle.console_words.specs.Lines.{slots_of, numbers_of}
use Rattle.console_words.specs.Naming.{form_words}
use Rattle.console_words.specs.Words.{words_left}
use Rattle.console_words.proofs.Places.{too_long}
use Rattle.console_words.proofs.request.short_request.Goals as goal

pub returns-clause-longer : goal.returns-clause-longer
returns-clause-longer g c = λ complaint more many.
    let act = c.in_ok-act in
    let verb = c.in-Some-from_word.verb in
    inr (
      c.in-Some.table,
      verb,
      words_left c.next_word-2.new.self,
      cc (
        c.expect_form.ensures.words,
        c.in_ok-word.ensures.word,
        c.in-Some.ensures.found,
        c.in_ok-word-2.ensures.word,
        c.in-Some-from_word.ensures.found,
      ),
      inr (too_long (form_words g.K.TypedCost.entering verb) (slots_of g.K.Cost verb)
          (words_left c.next_word-2.new.self) (words_left c.typed_act.new.words)
          (numbers_of g.K.Cost g.K.TypedCost.numbers act.act) complaint act.ensures.told more
          (subst (λ form. IsTooMany form complaint) act.ensures.form many)),
    )
