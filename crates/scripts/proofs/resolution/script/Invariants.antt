use Rattle.std.proofs.Common.{◌≡◌, ℕ, ◌<◌, length, get_or}
use Rattle.grammar.specs.Rows.{row_items}
use Rattle.contracts.specs.View.{tables_in}
use Rattle.script_syntax.specs.declared.tree.Statement.TheVariants as s
use Rattle.scripts.specs.declared.instruction.Instruction.TheVariants.{End}
use Rattle.scripts.specs.Names.{Resolves}
use Rattle.scripts.proofs.resolution.script.Given as goal

abbrev pub invariant-loop-statement : goal.invariant-loop-statement
invariant-loop-statement l =
    (length (row_items l.instructions) ≡ l.statement-index)
    × ((j : ℕ) → j < l.statement-index → Resolves (tables_in l.contracts) (get_or (row_items l.process.statements) j s.End) (get_or (row_items l.instructions) j End))
