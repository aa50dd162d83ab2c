use Rattle.std.proofs.Common.{subst}
use Rattle.contracts.specs.Paths.{Longest}
use Rattle.contracts.specs.Rules.{OneWay}
use Rattle.contracts.specs.Tables.{table_at}
use Rattle.contracts.specs.View.{tables_in}
use Rattle.contracts.proofs.Laws.{each-ruled, each-together}
use Rattle.contracts.proofs.Viewed.{bound_small}
use Rattle.contracts.proofs.set.ContractSet.bound.Goals as goal

pub returns : goal.returns
returns c =
    let (within, same) = c.in_ok-contract.ensures in
    let longest = subst (λ t. Longest (OneWay t c.args.mark) c.bound.result) same c.bound.ensures in
    let table = table_at (tables_in c.args.self.now) c.args.contract in
    record {
      answer = (within, longest, bound_small table c.args.mark c.bound.result (each-ruled c.args.self.now c.args.contract within).synchronising longest);
      together = λ n other. each-together c.args.self.now c.args.contract within c.args.mark c.bound.result n longest other;
    }
