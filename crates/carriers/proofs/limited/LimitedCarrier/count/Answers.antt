use Rattle.std.proofs.Common.{length, sym, ap, ◌∙◌}
use Rattle.carriers.specs.Tabled.{queue_at}
use Rattle.carriers.proofs.limited.LimitedCarrier.count.Goals as goal

pub returns : goal.returns
returns g c =
    let s = c.args.self.now in
    let q = g.S.Store.waiting s.store in
    let found = c.in_ok-at.ensures in
    record {
      answer = (
        found.0,
        c.count.ensures.answer ∙ ap (λ b. length (q b)) found.1 ∙ ap length (sym (queue_at s.limits.limits q s.limits.sizes s.few c.args.b found.0)),
      );
    }
