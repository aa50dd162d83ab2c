use Rattle.std.proofs.Common.{ℕ, ◌<◌}
use Rattle.script_syntax.specs.Trees.{processes_of}
use Rattle.scripts.specs.Places.{KeptIn, statements_of}
use Rattle.scripts.proofs.rule.earliest.Given as goal

abbrev pub invariant-loop-process : goal.invariant-loop-process
invariant-loop-process g l = (q : ℕ) → q < l.process-index → KeptIn (g.R.Rule.breaks l.rule) (statements_of (processes_of l.processes) q)
