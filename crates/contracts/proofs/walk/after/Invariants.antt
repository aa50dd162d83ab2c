use Rattle.std.proofs.Common.{◌≡◌, ℕ, ◌-◌, true, false, length, get_or, count_by}
use Rattle.contracts.specs.Paths.{After}
use Rattle.contracts.specs.Rules.{Along}
use Rattle.contracts.proofs.walk.after.Given as goal

abbrev pub invariant-loop-u : goal.invariant-loop-u
invariant-loop-u l = (length l.seen ≡ 16) × ((u : ℕ) → get_or l.seen u false ≡ true → After (Along l.t l.w) l.from u)

abbrev pub decreases-loop-u : goal.decreases-loop-u
decreases-loop-u l = 16 - count_by (λ b. b) l.seen
