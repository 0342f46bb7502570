-- The words of the columns stand at the end of the line.
use Rattle.std.proofs.Common.{rules, ◌≡◌, ℕ, List, ◌++◌, codes, decimal, string_bytes, subst}
use Rattle.std.specs.Prelude.{IfOk}
use Rattle.console_words.proofs.console.opened_text.Goals as goal

-- the line with other words at its end
abbrev line : ℕ → List ℕ → List ℕ
line n words = codes "sheet of " ++ (decimal n ++ (codes " left and " ++ (decimal n
    ++ (codes " right blocks; " ++ (words ++ codes "\n")))))

pub returns : goal.returns
returns c =
    let written : IfOk c.format.result (λ text. string_bytes text
    ≡ line c.args.blocks c.in_words-costs.result.now) = search rules in
    subst (λ words. IfOk c.format.result (λ text. string_bytes text ≡ line c.args.blocks words))
    c.in_words-costs.ensures written
