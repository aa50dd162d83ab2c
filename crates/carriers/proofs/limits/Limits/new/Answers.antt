use Rattle.carriers.proofs.Drawing.{low-none}
use Rattle.carriers.proofs.limits.Limits.new.Goals as goal

pub invariant_of-result-clause-low : goal.invariant_of-result-clause-low
invariant_of-result-clause-low c = low-none 64
