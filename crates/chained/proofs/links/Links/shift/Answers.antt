use Rattle.std.proofs.Common.{◌<◌, sym, ap, arith}
use Rattle.chained.specs.Chains.{count_in, head_in, count_of}
use Rattle.chained.proofs.Relink.{count_is}
use Rattle.chained.proofs.links.Links.shift.Goals.{In-Some}
use Rattle.chained.proofs.links.Links.shift.Goals as goal

some : (c : In-Some) → 0 < count_of c.args.self.now.tables c.args.from
some c =
    let l = c.args.self.now in
    omega (arith, (l.ends c.args.from c.requires.numbered.0 c.in-Some.chain c.in-Some.is).0, count_is l.tables c.args.from, ap count_in c.in-Some.is)

pub relink-requires-clause-some : goal.relink-requires-clause-some
relink-requires-clause-some c = let p = some (goal.at.relink-requires-clause-some c).In-Some in (omega arith, omega (arith, p))

pub returns-clause-first : goal.returns-clause-first
returns-clause-first c = (some (goal.at.returns-clause-first c).In-Some, sym (ap head_in c.in-Some.is))
