-- In a file with no word at fault no name stands twice in its family.
use Rattle.std.proofs.Common.{List, [], map, sym, subst, arith}
use Rattle.words.specs.Signs.{Sign}
use Rattle.grammar.specs.Families.{Once}
use Rattle.grammar.proofs.Admissions.{once-each}
use Rattle.grammar.proofs.Spelled.{each_mapped}
use Rattle.syntax.specs.declared.tree.Message.{Message}
use Rattle.syntax.specs.Trees.{StateTree, ContractTree, parts_of, head_tree, no_head, Distinct}
use Rattle.syntax.specs.Grammar.{file_words, Spells}
use Rattle.syntax.specs.Laws.{Clean}
use Rattle.syntax.proofs.Ranges.{contract-at, message-at, state-at}
use Rattle.syntax.proofs.Steps.{heads-named}

past : Once []
past i j l b e = absurd (omega arith)

pub distinct : (ws : List Sign) (cs : List ContractTree) → Spells ws cs → Clean [] ws → Distinct (parts_of cs)
distinct ws cs h clean = record {
  contracts = subst Once (sym (heads-named cs)) (once-each (λ (c : ContractTree). c.ident) 8 cs (contract-at cs h.stated kept));
  messages = each_mapped head_tree (λ t. Once (map (λ x. x.ident) t.messages)) no_head past [] cs
      (λ us c vs e. once-each (λ (x : Message). x.ident) 16 c.messages (message-at cs h.stated kept us c vs e));
  states = each_mapped head_tree (λ t. Once t.states) no_head past [] cs
      (λ us c vs e. once-each (λ (x : StateTree). x.ident) 16 c.states (state-at cs h.stated kept us c vs e));
}
  where
    kept : Clean [] (file_words cs)
    kept = subst (λ l. Clean [] l) h.words clean
