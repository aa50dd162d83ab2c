-- What the rules say of a script file, against a contract set whose tables are a list ts.
--   Keeps ts ps            the processes ps keep every rule
--   Faulty ts ps fault     fault is the one that is first by the rules: 8, then 15, then 16, each in the order of the text
--   Kept ts ps ss          ps keep every rule, and ss are these processes with numbers in place of names
--   Judged ts ps r         r is the scripts of the processes ps, which keep every rule; or the fault that is first by the rules
use Rattle.std.specs.Prelude.{◌≡◌, List, Ok, Err, Result}
use Rattle.words.specs.declared.fault.Span.{Span}
use Rattle.grammar.specs.declared.row.Row.{Row}
use Rattle.grammar.specs.Rows.{row_items}
use Rattle.contracts.specs.declared.table.Table.{Table}
use Rattle.script_syntax.specs.Trees.{ProcessParts}
use Rattle.scripts.specs.declared.fault.ScriptFault.{ScriptFault}
use Rattle.scripts.specs.declared.fault.ScriptFault.TheVariants as f
use Rattle.scripts.specs.declared.script.Script.{Script}
use Rattle.scripts.specs.Jumps.{JumpOutside}
use Rattle.scripts.specs.Names.{Undeclared}
use Rattle.scripts.specs.Payloads.{WrongPayload}
use Rattle.scripts.specs.Places.{Earliest, KeptBy}
use Rattle.scripts.specs.Scripts.{ScriptParts, ScriptsAs, scripts_of}

pub record Keeps (ts : List Table) (ps : List ProcessParts) : Type 0 where
  pub declared : KeptBy (λ n i. Undeclared ts) ps
  pub payloads : KeptBy (λ n i. WrongPayload ts) ps
  pub jumps : KeptBy JumpOutside ps

pub data Faulty (ts : List Table) (ps : List ProcessParts) (fault : ScriptFault) : Type 0 where
  undeclared : (sp : Span) → Earliest (λ n i. Undeclared ts) ps sp → fault ≡ f.Undeclared sp → Faulty ts ps fault
  «wrong-payload» : (sp : Span) → KeptBy (λ n i. Undeclared ts) ps → Earliest (λ n i. WrongPayload ts) ps sp → fault ≡ f.WrongPayload sp → Faulty ts ps fault
  «jump-outside» : (sp : Span) → KeptBy (λ n i. Undeclared ts) ps → KeptBy (λ n i. WrongPayload ts) ps → Earliest JumpOutside ps sp → fault ≡ f.JumpOutside sp → Faulty ts ps fault

pub record Kept (ts : List Table) (ps : List ProcessParts) (ss : List ScriptParts) : Type 0 where
  pub keeps : Keeps ts ps
  pub scripts : ScriptsAs ts ps ss

abbrev pub Judged : List Table → List ProcessParts → Result (Row Script 8) ScriptFault → Type 0
Judged ts ps (Ok row) = Kept ts ps (scripts_of (row_items row))
Judged ts ps (Err fault) = Faulty ts ps fault
