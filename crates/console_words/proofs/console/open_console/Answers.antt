-- The sheet that is opened is of the kind whose costs have the columns asked for.
use Rattle.console_words.proofs.console.open_console.Goals as goal
use Rattle.console_words.proofs.console.open_console.Goals.{in-One+in_ok-open-in-One}
use Rattle.console_words.proofs.console.open_console.Goals.{in-Two+in_ok-open-in-Two}

pub returns : goal.returns
returns c =
    let told = c.in_ok-text.ensures in
    elim c.match-columns.branch [
      | in-One+in_ok-open-in-One w ↦
          rw (w.in-One.is, w.console-is) (w.in_ok-open-in-One.ensures, rw w.in-One.is at told)
      | in-Two+in_ok-open-in-Two w ↦
          rw (w.in-Two.is, w.console-is) (w.in_ok-open-in-Two.ensures, rw w.in-Two.is at told)
    ]
