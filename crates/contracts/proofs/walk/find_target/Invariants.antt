use Rattle.std.proofs.Common.{ℕ, ◌<◌, false}
use Rattle.contracts.specs.Moves.{Goes}
use Rattle.contracts.specs.Rules.{Among}
use Rattle.contracts.specs.Tables.{mark_of}
use Rattle.contracts.proofs.walk.find_target.Given as goal

abbrev pub invariant-loop-m : goal.invariant-loop-m
invariant-loop-m g l = (k : ℕ) → k < l.m → (u : ℕ) → Among l.w (mark_of l.t k) → Goes l.t.moves l.s k u → g.F.Fn.post l.test (l.s, (u, tt)) false
