use Rattle.std.proofs.Common.{◌≡◌, take}
use Rattle.grammar.specs.Rows.{row_items}
use Rattle.contracts.specs.Acceptance.{tables_of}
use Rattle.contracts.proofs.set.accept.build.Given as goal

abbrev pub invariant-loop-table : goal.invariant-loop-table
invariant-loop-table l = tables_of (row_items l.contracts) ≡ take l.table-index l.tables
