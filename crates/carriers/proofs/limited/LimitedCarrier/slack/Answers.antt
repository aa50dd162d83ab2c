use Rattle.std.proofs.Common.{length, ap, arith}
use Rattle.carriers.specs.Tabled.{queue_at, limit_at}
use Rattle.carriers.proofs.limited.LimitedCarrier.slack.Goals as goal

pub returns : goal.returns
returns g c =
    let s = c.args.self.now in
    let q = g.S.Store.waiting s.store in
    let found = c.in_ok-at.ensures in
    let limit = limit_at s.limits.limits q s.limits.sizes s.few c.args.b found.0 in
    let queue = queue_at s.limits.limits q s.limits.sizes s.few c.args.b found.0 in
    record {
      answer = (
        found.0,
        omega (arith, c.in_ok-limit.ensures.answer.1, c.count.ensures.answer, ap (λ b. length (q b)) found.1, limit, ap length queue),
      );
    }
