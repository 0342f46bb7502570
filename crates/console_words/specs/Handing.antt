-- Calls that are handed a table one place short.
use Rattle.std.specs.Prelude.{◌-◌, Option, Some, None}
use Rattle.sheet.specs.Size.{size_of}
use Rattle.session.specs.declared.call.Act.{Act}
use Rattle.session.specs.declared.call.Call.{Call}
use Rattle.session.specs.declared.call.Lengths.{Lengths}
use Rattle.session.specs.declared.state.State.{State}
use Rattle.session.specs.Lists.{right_lengths}
use Rattle.session.specs.Runs.{state_of}
use Rattle.console_words.specs.declared.table_name.TableName.{TableName}
use Rattle.console_words.specs.declared.table_name.TableName.TheVariants.{Costs, Standing}
use Rattle.console_words.specs.declared.table_name.TableName.TheVariants.{Partners, Left, Right}
use Rattle.console_words.specs.declared.table_name.TableName.TheVariants.{Walk, Marks}

-- these lengths, with one place less of this table
abbrev pub short_lengths : TableName → Lengths → Lengths
short_lengths Costs whole = record whole { costs = whole.costs - 1 }
short_lengths Standing whole = record whole { standing = whole.standing - 1 }
short_lengths Partners whole = record whole { partners = whole.partners - 1 }
short_lengths Left whole = record whole { left = whole.left - 1 }
short_lengths Right whole = record whole { right = whole.right - 1 }
short_lengths Walk whole = record whole { walk = whole.walk - 1 }
short_lengths Marks whole = record whole { marks = whole.marks - 1 }

-- what a call is handed, of tables of these lengths
abbrev pub handed_lengths : Option TableName → Lengths → Lengths
handed_lengths None whole = whole
handed_lengths (Some table) whole = short_lengths table whole

-- the call of this act on a sheet in a state, handed its tables whole or one of them short
abbrev pub call_on : {K : Type 0} → State → Act K → Option TableName → Call K
call_on state act short = record {
  act = act;
  handed = handed_lengths short (right_lengths (size_of (state_of state).sheet));
}
