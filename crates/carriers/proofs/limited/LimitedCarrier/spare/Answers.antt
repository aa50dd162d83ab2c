use Rattle.std.proofs.Common.{arith}
use Rattle.carriers.specs.Tabled.{limits_together}
use Rattle.carriers.proofs.limited.LimitedCarrier.spare.Goals as goal

pub returns : goal.returns
returns g c =
    let s = c.args.self.now in
    record { answer = omega (arith, c.spare.ensures.answer, s.pool, limits_together s.limits.limits (g.S.Store.waiting s.store) s.limits.sizes s.few) }
