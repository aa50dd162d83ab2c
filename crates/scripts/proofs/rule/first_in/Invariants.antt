use Rattle.std.proofs.Common.{ℕ, ◌<◌, length, get_or}
use Rattle.words.specs.declared.fault.Span.{Span}
use Rattle.script_syntax.specs.declared.tree.Statement.TheVariants.{End}
use Rattle.scripts.proofs.rule.first_in.Given as goal

abbrev pub invariant-loop-index : goal.invariant-loop-index
invariant-loop-index g l = (j : ℕ) → j < l.index → (s : Span) → g.R.Rule.breaks l.rule (length l.all) j (get_or l.all j End) s → ⊥
