use Rattle.std.proofs.Common.{length, Some, ap, arith, rules, tests}
use Rattle.contracts.specs.Rules.{Cycling}
use Rattle.contracts.proofs.Least.{first_found, weaker}
use Rattle.contracts.proofs.Targets.{moves_below}
use Rattle.contracts.proofs.states.first_cycling.Goals as goal

pub returns : goal.returns
returns c =
    weaker c.find.result
    (first_found (length c.states.result.now) (Cycling c.args.t.now) (λ s h. omega (arith, ap length c.states.ensures.names, h.0)) _ _ _ c.find.ensures.ran (λ x q k. search (rules, tests)) (λ x q k. search (rules, tests)))
    (λ none d s h. none s (moves_below c.args.t.now (Some d) h.1, (d, h))) (λ s h. h)
