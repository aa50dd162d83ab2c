use Rattle.std.proofs.Common.{ap, arith}
use Rattle.chained.specs.Chains.{count_in}
use Rattle.chained.proofs.Relink.{count_is}
use Rattle.chained.proofs.links.Links.clear.Goals as goal

pub relink-requires-clause-some : goal.relink-requires-clause-some
relink-requires-clause-some c =
    let l = c.args.self.now in
    let some = (l.ends c.args.b (omega arith) c.in-Some.chain c.in-Some.is).0 in
    (omega (arith, some), omega (arith, some, count_is l.tables c.args.b, ap count_in c.in-Some.is))

pub returns-in-Some : goal.returns-in-Some
returns-in-Some c =
    let moved = c.relink.ensures.moved in
    let whole = ap count_in c.in-Some.is in
    record {
      cleared = record {
        none = omega (arith, moved.left, count_is c.args.self.now.tables c.args.b, whole);
        same = λ a h n. (moved.kept a n (λ e. omega arith), λ k low. moved.other a k (omega arith) n (λ e. omega arith) low);
      };
    }
