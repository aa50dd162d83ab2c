use Rattle.std.proofs.Common.{◌≡◌, ℕ, ◌<◌, length}
use Rattle.grammar.specs.Rows.{row_items}
use Rattle.syntax.specs.Trees.{parts}
use Rattle.contracts.specs.Names.{head_at}
use Rattle.contracts.specs.Numbers.{declaration_at, DeclaredAs}
use Rattle.contracts.proofs.declared.declarations.Given as goal

abbrev pub invariant-loop-head : goal.invariant-loop-head
invariant-loop-head l =
    (length (row_items l.all) ≡ l.head-index)
    × ((k : ℕ) → k < l.head-index → DeclaredAs (parts l.tree).heads (head_at (parts l.tree).heads k) (declaration_at (row_items l.all) k))
