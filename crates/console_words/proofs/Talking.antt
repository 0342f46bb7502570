-- How a talk goes on, line by line.
-- Idea: whatever a talk comes to from here on, the whole talk comes to what was written so far and
-- then that.
use Rattle.std.proofs.Common.{◌≡◌, ◌<◌, ◌+◌, ℕ, List, [], ◌++◌, length, Option, Some, None, IfSome}
use Rattle.std.proofs.Common.{Result, Ok, sym, subst, append_assoc, append-nil}
use Rattle.std.proofs.lemmas.Option.{IfSome_then}
use Rattle.std.specs.Io.BufRead.{first_piece, drop_through, DropsThrough}
use Rattle.std.specs.Io.Iter.{YieldsKnownPiece}
use Rattle.std.specs.Io.KnownBytes.{Appends, IsAtEnd}
use Rattle.std.proofs.KnownBytes.{Appends-nil, Appends-trans}
use Rattle.console_words.specs.declared.console.Console.{Console}
use Rattle.console_words.specs.declared.console.Console.TheVariants.{Unopened}
use Rattle.console_words.specs.declared.opening.ColumnCount.TheVariants.{One}
use Rattle.console_words.specs.declared.turn.Turn.{Turn}
use Rattle.console_words.specs.declared.turn.Turn.TheVariants.{Over}
use Rattle.console_words.specs.Conversing.{Talk, TakesLine, Converses}
use Rattle.console_words.specs.Conversing.Talk.{ends, is_over, goes_on}
use Rattle.console_words.specs.Moving.{IsPrinted}

-- the talk over these bytes has come to the line of a number, before which the rest is left
pub record HasLedTo (bytes : List ℕ) (left before after : Option (List ℕ)) (number : ℕ)
    (console : Console) : Type 0 where
  pub rest : List ℕ
  pub said : List ℕ
  pub remains : left ≡ Some rest
  pub wrote : Appends before after said
  pub leads : (more : List ℕ) → Talk number console rest more
      → Talk 1 (Unopened One) bytes (said ++ more)

-- the same where it is known which bytes an input has
abbrev pub HasLed : (known left before after : Option (List ℕ)) → ℕ → Console → Type 0
HasLed known left before after number console =
    IfSome known (λ bytes. HasLedTo bytes left before after number console)

-- a line was taken from what is left
abbrev pub IsTaken : (left left' : Option (List ℕ)) (line : List ℕ) → Type 0
IsTaken left left' line =
    IfSome left (λ rest. (0 < length rest) × (line ≡ first_piece 10 rest))
    × DropsThrough left left' 10

pub begins : (known left before : Option (List ℕ)) (number : ℕ) (console : Console)
    → left ≡ known → number ≡ 1 → console ≡ Unopened One
    → HasLed known left before before number console
begins None left before number console same first new = tt
begins (Some bytes) left before number console same first new = record {
  rest = bytes;
  said = [];
  remains = same;
  wrote = Appends-nil before;
  leads = λ more talk. subst (λ n. Talk n (Unopened One) bytes more) first
      (subst (λ c. Talk number c bytes more) new talk);
}

-- what a step by lines gave
pub taken_line : {X E : Type 0} (bytes : X → List ℕ) (byte : ℕ) (left left' : Option (List ℕ))
    (item : Result X E) (line : X) (shown : List ℕ) → byte ≡ 10 → item ≡ Ok line
    → shown ≡ bytes line → YieldsKnownPiece bytes (first_piece byte) byte left (Some item) left'
    → IsTaken left left' shown
taken_line {X = X} {E = E} bytes byte left left' item line shown ten is same yields =
    let known : YieldsKnownPiece {E = E} bytes (first_piece byte) byte left (Some (Ok line)) left' =
    subst (λ (i : Result X E). YieldsKnownPiece bytes (first_piece byte) byte left (Some i) left')
    is yields in
    let split : IsTaken left left' (bytes line) =
    subst (λ b. IfSome left (λ rest. (0 < length rest) × (bytes line ≡ first_piece b rest))
    × DropsThrough left left' b) ten known in
    subst (λ l. IsTaken left left' l) (sym same) split

pub leads_on : (known left left' before after after' : Option (List ℕ)) (number next : ℕ)
    (console console' : Console) (turn : Turn) (line said : List ℕ) → next ≡ number + 1
    → HasLed known left before after number console → IsTaken left left' line
    → TakesLine number line console console' turn → IsPrinted said turn → Appends after after' said
    → HasLed known left' before after' next console'
leads_on known left left' before after after' number next console console' turn line said e led
    taken takes prints appends = IfSome_then known led (λ bytes l.
    let t = subst (λ o. IsTaken o left' line) l.remains taken in
    record {
      rest = drop_through 10 l.rest;
      said = l.said ++ said;
      remains = t.1;
      wrote = Appends-trans before after after' l.said said l.wrote appends;
      leads = λ more talk. subst (λ u. Talk 1 (Unopened One) bytes u)
          (sym (append_assoc l.said said more))
          (l.leads (said ++ more) (goes_on number console console' turn l.rest said more t.0.0
          (subst (λ x. TakesLine number x console console' turn) t.0.1 takes) prints
          (subst (λ n. Talk n console' (drop_through 10 l.rest) more) e talk)));
    })

module _ (known left before after : Option (List ℕ)) (number : ℕ) (console : Console)
    (led : HasLed known left before after number console) where
  -- what was written is the text of the whole talk, once nothing more comes
  converses : ((rest : List ℕ) → left ≡ Some rest → Talk number console rest [])
      → IfSome known (λ bytes. Converses bytes before after)
  converses over = IfSome_then known led (λ bytes l. (
    l.said,
    subst (λ t. Talk 1 (Unopened One) bytes t) (append-nil l.said)
        (l.leads [] (over l.rest l.remains)),
    l.wrote,
  ))

  pub ends_at_end : IsAtEnd left → IfSome known (λ bytes. Converses bytes before after)
  ends_at_end none = converses (λ rest remains. subst (λ r. Talk number console r [])
      (sym (subst IsAtEnd remains none)) (ends number console))

  pub ends_when_asked : (left' : Option (List ℕ)) (console' : Console) (line : List ℕ)
      → IsTaken left left' line → TakesLine number line console console' Over
      → IfSome known (λ bytes. Converses bytes before after)
  ends_when_asked left' console' line taken takes = converses (λ rest remains.
      let t = subst (λ o. IsTaken o left' line) remains taken in
      is_over number console console' rest t.0.0
      (subst (λ x. TakesLine number x console console' Over) t.0.1 takes))
