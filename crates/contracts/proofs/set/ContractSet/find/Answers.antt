use Rattle.std.proofs.Common.{arith, rules, tests}
use Rattle.contracts.specs.Families.{name_in, size_in}
use Rattle.contracts.specs.View.{Named, tables_in}
use Rattle.contracts.proofs.Least.{first_found}
use Rattle.contracts.proofs.Viewed.{family_small}
use Rattle.contracts.proofs.set.ContractSet.find.Goals as goal

pub returns : goal.returns
returns c = record {
  answer = first_found 16 (Named (size_in (tables_in c.args.self.now) c.args.family) (name_in (tables_in c.args.self.now) c.args.family) c.args.name)
      (λ i h. omega (arith, h.0, family_small c.args.self.now c.args.family)) _ _ _ c.find.ensures.ran (λ x q k. search (rules, tests)) (λ x q k. search (rules, tests));
}
