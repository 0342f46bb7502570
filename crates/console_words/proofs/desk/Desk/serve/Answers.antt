-- A request for a call makes the call, and tells its answer.
-- Idea: what the desk's `make` says of the call is what is said of a request for it, and the words
-- of the answer are all that is appended to an empty text.
use Rattle.std.proofs.Common.{◌++◌, ap, ◌∙◌}
use Rattle.console_words.specs.Answering.{answer_words}
use Rattle.console_words.proofs.desk.Desk.serve.Goals as goal

pub returns-in_ok-push_answer-in-Make : goal.returns-in_ok-push_answer-in-Make
returns-in_ok-push_answer-in-Make g c =
    let made = c.in_ok-desk-in-Make in
    rw c.in-Make.is (
      made.answer,
      made.ensures,
      c.in_ok-push_answer-in-Make.ensures
          ∙ ap (λ bytes. bytes
          ++ answer_words g.K.TypedCost.written c.in-Make.act made.desk.state made.answer)
          c.new-text.ensures.bytes,
    )
