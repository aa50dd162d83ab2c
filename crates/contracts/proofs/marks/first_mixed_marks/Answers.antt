use Rattle.std.proofs.Common.{length, rules, tests}
use Rattle.contracts.specs.Written.{MixedMarks}
use Rattle.contracts.proofs.Least.{first_found}
use Rattle.contracts.proofs.marks.first_mixed_marks.Goals as goal

pub returns : goal.returns
returns c = first_found (length c.args.moves.now) (MixedMarks c.args.moves.now) (λ i h. h.0) _ _ _ c.find.ensures.ran (λ x q k. search (rules, tests)) (λ x q k. search (rules, tests))
