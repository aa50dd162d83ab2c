use Rattle.std.proofs.Common.{rules}
use Rattle.syntax.proofs.Reading.{right_of, exact_of, ranged_of}
use Rattle.syntax.proofs.read_contracts.Goals as goal

pub returns-clause-right : goal.returns-clause-right
returns-clause-right c = search (rules, right_of)

pub returns-clause-exact : goal.returns-clause-exact
returns-clause-exact c = search (rules, exact_of)

pub returns-clause-ranged : goal.returns-clause-ranged
returns-clause-ranged c = search (rules, ranged_of)
