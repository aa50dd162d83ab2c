-- What the checker answers to a text.
--   ReadAs text cs      the text has at most 4,096 bytes, spells the contracts cs, and none of its words is at fault
--   Refused text f      f is the fault of the text that is first by the rules
--   Checked text r      r is the set that the text spells, which keeps every rule; or the fault that is first by the rules
use Rattle.std.specs.Prelude.{◌≡◌, ℕ, ◌<◌, ◌≤◌, List, [], length, Ok, Err, Result}
use Rattle.words.specs.declared.fault.Source.TheVariants.{Contracts}
use Rattle.words.specs.Reading.{too_large}
use Rattle.words.specs.Signs.{Word}
use Rattle.words.specs.Stream.{stop, words_of}
use Rattle.grammar.specs.declared.fault.GrammarFault.{GrammarFault}
use Rattle.grammar.specs.declared.fault.GrammarFault.TheVariants as g
use Rattle.syntax.specs.Grammar.{Spells}
use Rattle.grammar.specs.Laws.{joins, signs}
use Rattle.syntax.specs.Laws.{Clean, Right}
use Rattle.syntax.specs.Trees.{ContractTree, parts_of}
use Rattle.contracts.specs.declared.fault.RuleFault.{RuleFault}
use Rattle.contracts.specs.declared.fault.RuleFault.TheVariants as f
use Rattle.contracts.specs.declared.set.ContractSet.{ContractSet}
use Rattle.contracts.specs.Judgement.{Faulty, Kept}

pub record ReadAs (text : List ℕ) (cs : List ContractTree) : Type 0 where
  pub short : length text ≤ 4096
  pub words : List Word
  pub end : ℕ
  pub stands : words_of text ≡ joins words (stop end)
  pub clean : Clean [] (signs words)
  pub spells : Spells (signs words) cs

-- 2; then 3, 4, 6 and 7 at the first spot from the left; then 8 to 14
pub data Refused (text : List ℕ) (fault : RuleFault) : Type 0 where
  large : 4096 < length text → fault ≡ f.Grammar (g.Word (too_large Contracts)) → Refused text fault
  unread : length text ≤ 4096 → (spot : GrammarFault) → Right (words_of text) (Err spot) → fault ≡ f.Grammar spot → Refused text fault
  ruled : (cs : List ContractTree) → ReadAs text cs → Faulty (parts_of cs) fault → Refused text fault

abbrev pub Checked : List ℕ → Result ContractSet RuleFault → Type 0
Checked text (Ok set) = (cs : List ContractTree) × ReadAs text cs × Kept (parts_of cs) set
Checked text (Err fault) = Refused text fault
