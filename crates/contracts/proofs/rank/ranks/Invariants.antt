use Rattle.std.proofs.Common.{◌≡◌, ℕ, ◌-◌, length, get_or, sum}
use Rattle.contracts.specs.Paths.{Path}
use Rattle.contracts.specs.Rules.{OneWay}
use Rattle.contracts.proofs.rank.ranks.Given as goal

abbrev pub invariant-loop-s : goal.invariant-loop-s
invariant-loop-s l = (length l.rank ≡ 16) × ((s : ℕ) → (u : ℕ) × Path (OneWay l.t l.d) s u (get_or l.rank s 0))

abbrev pub decreases-loop-s : goal.decreases-loop-s
decreases-loop-s l = 256 - sum l.rank
