use Rattle.std.proofs.Common.{length, rules, tests}
use Rattle.contracts.specs.Written.{WrongMark}
use Rattle.contracts.proofs.Least.{first_found}
use Rattle.contracts.proofs.marks.first_wrong_mark.Goals as goal

pub returns : goal.returns
returns c = first_found (length c.args.file.now.moves.now) (WrongMark c.args.file.now.declarations.now c.args.file.now.moves.now) (λ i h. h.0) _ _ _ c.find.ensures.ran (λ x q k. search (rules, tests)) (λ x q k. search (rules, tests))
