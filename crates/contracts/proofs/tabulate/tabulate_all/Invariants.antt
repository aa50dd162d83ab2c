use Rattle.grammar.specs.Rows.{row_items}
use Rattle.contracts.specs.Tables.{blank}
use Rattle.contracts.specs.Written.{Holds}
use Rattle.contracts.proofs.Numbered.{EachBelow}
use Rattle.contracts.proofs.tabulate.tabulate_all.Given as goal

abbrev pub invariant-loop-c : goal.invariant-loop-c
invariant-loop-c l = EachBelow (λ k t. Holds t l.file.declarations.now l.file.moves.now k) blank (row_items l.tables) l.c
