use Rattle.carriers.specs.Tabled.{open_answered}
use Rattle.carriers.proofs.limited.LimitedCarrier.open.Goals as goal

pub returns : goal.returns
returns g c =
    let s = c.args.self.now in
    record {
      done =
          open_answered s.limits.limits (g.S.Store.waiting s.store) s.limits.sizes s.few
          g.S.Store.POOL s.limits.spare s.pool c.args.b c.draw.result c.args.limit c.draw.new.self.limits c.draw.new.self.spare c.draw.ensures.done;
    }
