use Rattle.std.proofs.Common.{rules, tests}
use Rattle.contracts.proofs.Least.{weaker}
use Rattle.contracts.proofs.rank.too_low.Goals as goal

pub returns : goal.returns
returns c = weaker c.find_move.result c.find_move.ensures (λ h s u e. let k = h s u e in search (rules, tests)) (λ v h. let k = h.4 in (h.0, h.1, h.2, search (rules, tests)))
