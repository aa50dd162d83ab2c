use Rattle.std.proofs.Common.{◌<◌, arith, rules}
use Rattle.contracts.proofs.Lookups.{few_states}
use Rattle.contracts.proofs.number.end.Goals as goal

pub overflow_cast-result-in-Some : goal.overflow_cast-result-in-Some
overflow_cast-result-in-Some c = let few = few_states c.heads-heads.result.now c.in-Some.k in let l : c.in-Some.u < 16 = omega (arith, few, c.in-Some.ensures.1.0) in search rules
