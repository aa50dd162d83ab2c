use Rattle.std.proofs.Common.{Decides, sym, subst, rules, tests}
use Rattle.std.specs.Option.{is_some}
use Rattle.contracts.specs.Rules.{MaySend}
use Rattle.contracts.proofs.Least.{found_some, weaker}
use Rattle.contracts.proofs.walk.may_send.Goals as goal

pub returns : goal.returns
returns c =
    let decided : Decides (is_some c.find_target.result) (MaySend c.args.t.now c.args.d c.args.s) =
    found_some c.find_target.result
    (weaker c.find_target.result c.find_target.ensures
    (λ h w. let k = h w.0 w.1 in search (rules, tests))
    (λ u h. (u, h.0))) in
    subst (λ b. Decides b (MaySend c.args.t.now c.args.d c.args.s)) (sym c.is_some.ensures) decided
