use Rattle.std.proofs.Common.{sym, subst}
use Rattle.contracts.specs.Paths.{Longest}
use Rattle.contracts.specs.Rules.{OneWay}
use Rattle.contracts.proofs.contract.Contract.bound.Goals as goal

pub returns-in-Out : goal.returns-in-Out
returns-in-Out c =
    subst (λ d. Longest (OneWay c.args.self.now.table d) c.args.self.now.out_bound) (sym c.in-Out.is) c.args.self.now.out_longest

pub returns-in-In : goal.returns-in-In
returns-in-In c =
    subst (λ d. Longest (OneWay c.args.self.now.table d) c.args.self.now.in_bound) (sym c.in-In.is) c.args.self.now.in_longest
