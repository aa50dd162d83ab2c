use Rattle.contracts.proofs.Firsts.{first_either}
use Rattle.contracts.proofs.resolve.first_undeclared.Goals as goal

pub returns : goal.returns
returns c = first_either _ _ _ _ _ c.in_heads.ensures c.in_moves.ensures c.earlier.ensures
