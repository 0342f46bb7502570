-- The number that stands next is the word that was passed.
use Rattle.std.proofs.Common.{subst, sym, ap, ◌∙◌, refl}
use Rattle.std.specs.Str.Parse.{IsNumeral, digits_value}
use Rattle.dimacs.specs.Words.{stopped}
use Rattle.dimacs.proofs.Passing.{word_passed}
use Rattle.dimacs.proofs.words.Words.number.Goals as goal

pub returns : goal.returns
returns c =
    let run = c.in_ok-found.ensures in
    let word = c.pass-text.result.now in
    let passed = word_passed c.args.self.now c.pass-text.new.self c.in_ok-found.found.end c.args.end
    word run.digits c.pass-text.ensures run.ends_at run.splits in (
      digits_value 10 word,
      record {
        writes = record {
          numeral = subst (IsNumeral 10) (sym passed.0) run.numeral;
          value = refl;
        };
        value_is = run.value_is ∙ ap (λ l. stopped (digits_value 10 l)) (sym passed.0);
      },
      passed.1,
    )
