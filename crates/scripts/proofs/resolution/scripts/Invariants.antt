use Rattle.std.proofs.Common.{get_or}
use Rattle.grammar.specs.Rows.{row_items}
use Rattle.contracts.specs.View.{tables_in}
use Rattle.contracts.proofs.Numbered.{EachBelow}
use Rattle.script_syntax.specs.Trees.{no_process, processes_of}
use Rattle.scripts.specs.Scripts.{no_script, ScriptAs, scripts_of}
use Rattle.scripts.proofs.resolution.scripts.Given as goal

abbrev pub invariant-loop-process : goal.invariant-loop-process
invariant-loop-process l =
    EachBelow (λ q y. ScriptAs (tables_in l.contracts) (get_or (processes_of l.processes) q no_process) y) no_script (scripts_of (row_items l.all)) l.process-index
