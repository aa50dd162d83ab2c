use Rattle.std.proofs.Common.{ap, subst}
use Rattle.std.proofs.lemmas.Result.{err_from_is_err_and}
use Rattle.carriers.specs.Stores.{Others}
use Rattle.carriers.specs.Tables.{boxes_from}
use Rattle.carriers.specs.Tabled.{close_refused, close_done}
use Rattle.carriers.proofs.limited.LimitedCarrier.close.Goals as goal

pub returns-in_err-give_back : goal.returns-in_err-give_back
returns-in_err-give_back g c =
    let s = c.args.self.now in
    let q = g.S.Store.waiting s.store in
    let p = err_from_is_err_and c.from_residual-in_err-give_back.result c.from_residual-in_err-give_back.ensures.1 in
    let refused = c.in_err-give_back.ensures.done in
    rw (p.1, p.2)
    (record {
      done = (
        close_refused s.limits.limits q s.limits.sizes s.few c.args.b c.in_err-give_back.field-0.0 refused.0,
        ap (λ ls. boxes_from ls q) refused.1,
      );
    })

pub returns : goal.returns
returns g c =
    let s = c.args.self.now in
    let q = g.S.Store.waiting s.store in
    let q' = g.S.Store.waiting c.clear.new.self in
    record {
      done =
          close_done s.limits.limits q s.limits.sizes s.few c.args.b s.limits.spare c.give_back.new.self.limits c.give_back.new.self.spare q'
          c.in_ok-give_back.ensures.done (subst (λ b. Others q b q') c.in_ok-at.ensures.1 c.clear.ensures.others);
    }
