use Rattle.std.proofs.Common.{get_or}
use Rattle.grammar.specs.Rows.{row_items}
use Rattle.syntax.specs.Trees.{no_move, parts}
use Rattle.contracts.specs.Numbers.{unwritten, WrittenAs}
use Rattle.contracts.proofs.Numbered.{EachBelow}
use Rattle.contracts.proofs.resolve.all_moves.Given as goal

abbrev pub invariant-loop-entry : goal.invariant-loop-entry
invariant-loop-entry l =
    EachBelow (λ i w. WrittenAs (parts l.tree).heads (get_or (parts l.tree).moves i no_move) w) unwritten (row_items l.all) l.entry-index
