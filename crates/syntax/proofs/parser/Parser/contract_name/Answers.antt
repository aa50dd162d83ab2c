use Rattle.std.proofs.Common.{rules}
use Rattle.std.proofs.lemmas.Simd.{map-map}
use Rattle.syntax.proofs.parser.Parser.contract_name.Goals as goal

pub returns-in_err-admit_to-clause-reads : goal.returns-in_err-admit_to-clause-reads
returns-in_err-admit_to-clause-reads c = search (rules, map-map)

pub returns-clause-reads : goal.returns-clause-reads
returns-clause-reads c = search (rules, map-map)
