use Rattle.std.proofs.Common.{get_or}
use Rattle.grammar.specs.Rows.{row_items}
use Rattle.syntax.specs.Trees.{parts}
use Rattle.contracts.specs.Names.{no_message}
use Rattle.contracts.specs.Numbers.{MessageAs, quiet}
use Rattle.contracts.proofs.Numbered.{EachBelow}
use Rattle.contracts.proofs.declared.all_messages.Given as goal

abbrev pub invariant-loop-next : goal.invariant-loop-next
invariant-loop-next l = EachBelow (λ m y. MessageAs (parts l.tree).heads (get_or l.written m no_message) y) quiet (row_items l.all) l.next-index
