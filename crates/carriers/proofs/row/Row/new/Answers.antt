use Rattle.std.proofs.Common.{ℕ, ◌+◌, ◌*◌, ap, arith}
use Rattle.carriers.specs.Rows.{slot_byte}
use Rattle.carriers.proofs.Drawing.{get_d_equal}
use Rattle.carriers.proofs.row.Row.new.Goals as goal

pub invariant_of-result-clause-legible : goal.invariant_of-result-clause-legible
invariant_of-result-clause-legible c =
    λ p. (omega (arith, get_d_equal {X = ℕ} 30 (2 * p) 0), ap slot_byte (get_d_equal {X = ℕ} 30 (2 * p + 1) 0))
