use Rattle.std.proofs.Common.{ℕ, ◌<◌}
use Rattle.contracts.proofs.rule.earliest.Given as goal

abbrev pub invariant-loop-k : goal.invariant-loop-k
invariant-loop-k g l = (k : ℕ) → k < l.k → g.R.Rule.keeps l.tables k
