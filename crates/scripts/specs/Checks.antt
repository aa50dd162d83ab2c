-- What the checker answers to a text.
--   ReadAs text ps           the text has at most 4,096 bytes, spells the processes ps, and none of its words is at fault
--   Refused text ts f        f is the fault of the text that is first by the rules, against a contract set whose tables are ts
--   Spelt text ts r          r is the scripts that the text spells, which keep every rule; or the fault that is first by the rules
--   Checked text cs r        r is the set that the text spells, which keeps every rule and holds the contract set cs; or the fault that is first by the rules, with cs handed back
use Rattle.std.specs.Prelude.{◌≡◌, ℕ, ◌<◌, ◌≤◌, List, [], length, Ok, Err, Result}
use Rattle.words.specs.declared.fault.Source.TheVariants.{Scripts}
use Rattle.words.specs.Reading.{too_large}
use Rattle.words.specs.Signs.{Word}
use Rattle.words.specs.Stream.{stop, words_of}
use Rattle.grammar.specs.declared.fault.GrammarFault.{GrammarFault}
use Rattle.grammar.specs.declared.fault.GrammarFault.TheVariants as g
use Rattle.grammar.specs.declared.row.Row.{Row}
use Rattle.grammar.specs.Laws.{joins, signs}
use Rattle.grammar.specs.Rows.{row_items}
use Rattle.contracts.specs.declared.set.ContractSet.{ContractSet}
use Rattle.contracts.specs.declared.table.Table.{Table}
use Rattle.contracts.specs.View.{tables_in}
use Rattle.script_syntax.specs.Grammar.{parts_of, ProcessTree, Spells}
use Rattle.script_syntax.specs.Laws.{Clean, Right}
use Rattle.scripts.specs.declared.fault.ScriptFault.{ScriptFault}
use Rattle.scripts.specs.declared.fault.ScriptFault.TheVariants as f
use Rattle.scripts.specs.declared.refusal.Refusal.{Refusal}
use Rattle.scripts.specs.declared.script.Script.{Script}
use Rattle.scripts.specs.declared.set.ScriptSet.{ScriptSet}
use Rattle.scripts.specs.Judgement.{Faulty, Kept}
use Rattle.scripts.specs.Scripts.{scripts_of}
use Rattle.scripts.specs.View.{scripts_in}

pub record ReadAs (text : List ℕ) (ps : List ProcessTree) : Type 0 where
  pub short : length text ≤ 4096
  pub words : List Word
  pub end : ℕ
  pub stands : words_of text ≡ joins words (stop end)
  pub clean : Clean [] (signs words)
  pub spells : Spells (signs words) ps

-- 2; then 3 to 7 at the first spot from the left; then 8, 15 and 16
pub data Refused (text : List ℕ) (ts : List Table) (fault : ScriptFault) : Type 0 where
  large : 4096 < length text → fault ≡ f.Grammar (g.Word (too_large Scripts)) → Refused text ts fault
  unread : length text ≤ 4096 → (spot : GrammarFault) → Right (words_of text) (Err spot) → fault ≡ f.Grammar spot → Refused text ts fault
  ruled : (ps : List ProcessTree) → ReadAs text ps → Faulty ts (parts_of ps) fault → Refused text ts fault

abbrev pub Spelt : List ℕ → List Table → Result (Row Script 8) ScriptFault → Type 0
Spelt text ts (Ok row) = (ps : List ProcessTree) × ReadAs text ps × Kept ts (parts_of ps) (scripts_of (row_items row))
Spelt text ts (Err fault) = Refused text ts fault

abbrev pub Checked : List ℕ → ContractSet → Result ScriptSet Refusal → Type 0
Checked text cs (Ok set) = (set.contracts ≡ cs) × ((ps : List ProcessTree) × ReadAs text ps × Kept (tables_in cs) (parts_of ps) (scripts_in set))
Checked text cs (Err refusal) = (refusal.contracts ≡ cs) × Refused text (tables_in cs) refusal.fault
