-- A word that is left behind a call is one too many of the call's form.
use Rattle.std.proofs.Common.{inr, subst}
use Rattle.console_words.specs.Forms.{IsTooMany}
use Rattle.console_words.specs.Lines.{slots_of, numbers_of}
use Rattle.console_words.specs.Naming.{form_words}
use Rattle.console_words.specs.Words.{words_left}
use Rattle.console_words.proofs.Places.{too_long}
use Rattle.console_words.proofs.request.request_after.Goals as goal

pub returns-in_ok-act-in-Call-clause-longer : goal.returns-in_ok-act-in-Call-clause-longer
returns-in_ok-act-in-Call-clause-longer g c = λ complaint more many.
    let act = c.in_ok-act-in-Call in
    rw c.in-Call.is (inr (too_long (form_words g.K.TypedCost.entering c.in-Call.verb)
    (slots_of g.K.Cost c.in-Call.verb) (words_left c.args.words.now)
    (words_left c.typed_act.new.words) (numbers_of g.K.Cost g.K.TypedCost.numbers act.act)
    complaint act.ensures.told more
    (subst (λ form. IsTooMany form complaint) act.ensures.form many)))
