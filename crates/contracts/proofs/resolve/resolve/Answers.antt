use Rattle.std.proofs.lemmas.Result.{MatchResult-weaker}
use Rattle.contracts.proofs.resolve.resolve.Goals as goal

pub returns-in-None : goal.returns-in-None
returns-in-None c = MatchResult-weaker c.by_numbers.result c.by_numbers.ensures (λ n h. h) (λ d h. absurd (c.in-None.ensures d h))
