use Rattle.std.proofs.Common.{◌≡◌, ◌<◌, [], ◌∷◌, ◌++◌, Some, length, refl, sym, ap, ◌∙◌, subst}
use Rattle.std.proofs.lemmas.Result.{err_from_is_err_and}
use Rattle.carriers.specs.Stores.{Room, Others}
use Rattle.carriers.specs.Tabled.{put_refused, put_done, put_over, same_boxes}
use Rattle.carriers.proofs.limited.LimitedCarrier.put.Goals as goal

pub returns-in_err-of_open : goal.returns-in_err-of_open
returns-in_err-of_open g c =
    let s = c.args.self.now in
    let ranged = c.if-not-is_ranged.ensures.answer.0 refl in
    let p = err_from_is_err_and c.from_residual-in_err-of_open.result c.from_residual-in_err-of_open.ensures.1 in
    rw (p.1, p.2)
    (record {
      done = (
        put_refused s.limits.limits (g.S.Store.waiting s.store) s.limits.sizes s.few c.args.b c.args.message c.in_err-of_open.field-0.0 ranged c.in_err-of_open.ensures.answer,
        refl,
      );
    })

pub returns-in-Ok : goal.returns-in-Ok
returns-in-Ok g c =
    let s = c.args.self.now in
    let q = g.S.Store.waiting s.store in
    let q' = g.S.Store.waiting c.try_push.new.self in
    let m = c.args.message in
    let l = c.new-limit.result.number in
    let found = c.in_ok-of_open.ensures.answer in
    let same = c.in_ok-at.ensures.1 in
    let stored = c.in-Ok.ensures in
    record {
      done =
          put_done s.limits.limits q s.limits.sizes s.few c.args.b l found.0 (found.1 ∙ ap Some (sym c.new-limit.ensures.answer)) m q' (c.if-not-is_ranged.ensures.answer.0 refl)
          (subst (λ b. length (q b) < l) same stored.answer.1) (subst (λ b. q' b ≡ q b ++ m ∷ []) same stored.here) (subst (λ b. Others q b q') same stored.others);
    }

pub returns-in-Err : goal.returns-in-Err
returns-in-Err g c =
    let s = c.args.self.now in
    let q = g.S.Store.waiting s.store in
    let q' = g.S.Store.waiting c.try_push.new.self in
    let m = c.args.message in
    let l = c.new-limit.result.number in
    let found = c.in_ok-of_open.ensures.answer in
    let opened = found.1 ∙ ap Some (sym c.new-limit.ensures.answer) in
    let same = c.in_ok-at.ensures.1 in
    let given = c.in-Err.ensures in
    record {
      done = (
        put_over s.limits.limits q s.limits.sizes s.few c.args.b l found.0 opened g.S.Store.POOL s.limits.spare s.pool m (c.if-not-is_ranged.ensures.answer.0 refl)
            (subst (λ b. Room g.S.Store.POOL q b l m → ⊥) same given.answer.1),
        same_boxes s.limits.limits q s.limits.sizes s.few c.args.b l found.0 opened q' (subst (λ b. q' b ≡ q b) same given.here) (subst (λ b. Others q b q') same given.others),
      );
    }
