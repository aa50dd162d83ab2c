use Rattle.std.proofs.Common.{ℕ, ◌<◌, false, ◌⊎◌}
use Rattle.contracts.specs.Rules.{Along}
use Rattle.contracts.proofs.walk.find_move.Given as goal

abbrev pub invariant-loop-s : goal.invariant-loop-s
invariant-loop-s g l = (k : ℕ) → k < l.s → (u : ℕ) → Along l.t l.w k u → g.G.Fn.post l.source (k, tt) false ⊎ g.F.Fn.post l.test (k, (u, tt)) false
