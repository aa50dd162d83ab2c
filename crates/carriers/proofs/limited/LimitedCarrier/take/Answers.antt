use Rattle.std.proofs.Common.{◌≡◌, [], ◌∷◌, MatchOption, refl, subst}
use Rattle.std.proofs.lemmas.Result.{err_from_is_err_and}
use Rattle.carriers.specs.Stores.{Others}
use Rattle.carriers.specs.Tabled.{take-refused, take_answered}
use Rattle.carriers.proofs.limited.LimitedCarrier.take.Goals as goal

pub returns-in_err-of_open : goal.returns-in_err-of_open
returns-in_err-of_open g c =
    let s = c.args.self.now in
    let p = err_from_is_err_and c.from_residual-in_err-of_open.result c.from_residual-in_err-of_open.ensures.1 in
    rw (p.1, p.2)
    (record {
      done = (
        take-refused s.limits.limits (g.S.Store.waiting s.store) s.limits.sizes s.few c.args.b c.in_err-of_open.field-0.0 c.in_err-of_open.ensures.answer,
        refl,
      );
    })

pub returns : goal.returns
returns g c =
    let s = c.args.self.now in
    let q = g.S.Store.waiting s.store in
    let q' = g.S.Store.waiting c.try_pop.new.self in
    let found = c.in_ok-of_open.ensures.answer in
    let same = c.in_ok-at.ensures.1 in
    rw c.ok_or.ensures.value
    (record {
      done =
          take_answered s.limits.limits q s.limits.sizes s.few c.args.b _ found.0 found.1 c.try_pop.result q'
          (subst (λ b. MatchOption c.try_pop.result ((q b ≡ []) × (q' b ≡ [])) (λ m. q b ≡ m ∷ q' b)) same c.try_pop.ensures.here) (subst (λ b. Others q b q') same c.try_pop.ensures.others);
    })
