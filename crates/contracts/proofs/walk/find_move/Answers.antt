use Rattle.std.proofs.Common.{length, ap, arith}
use Rattle.contracts.proofs.Targets.{numbered}
use Rattle.contracts.proofs.walk.find_move.Goals as goal

pub returns : goal.returns
returns g c s u e =
    c.loop-s.invariant s (omega (arith, ap length c.states-s-end.ensures.names, (numbered c.args.t.now s e.0 u e.2).0)) u e
