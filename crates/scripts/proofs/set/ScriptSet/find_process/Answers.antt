use Rattle.std.proofs.Common.{arith, refl, rules}
use Rattle.std.proofs.lemmas.Iterator.{IsFirst-from_position, YieldsList-from_slice}
use Rattle.std.proofs.lemmas.List.{take_all}
use Rattle.std.specs.Slice.Iter.{iter_rest}
use borrow.Author.Tests.{tests}
use Rattle.scripts.specs.View.{scripts_in}
use Rattle.scripts.proofs.Named.{Bears, found, only}
use Rattle.scripts.proofs.set.ScriptSet.find_process.Goals as goal

-- each proof first shows that the search goes over all scripts of the set

pub returns-clause-answer : goal.returns-clause-answer
returns-clause-answer c =
    found c.args.name (iter_rest c.iter.result) (scripts_in c.args.self.now) (grind (arith, take_all, c.args.self.now.few)) c.position.result
    (IsFirst-from_position _ _ _ (Bears c.args.name) (λ x. Bears c.args.name x → ⊥) c.position.ensures.ran (YieldsList-from_slice _ refl) (λ x q k. search (rules, tests)) (λ x q k. search (rules, tests)))

pub returns-clause-only : goal.returns-clause-only
returns-clause-only c =
    only c.args.name (iter_rest c.iter.result) (scripts_in c.args.self.now) (grind (arith, take_all, c.args.self.now.few)) c.position.result
    (IsFirst-from_position _ _ _ (Bears c.args.name) (λ x. Bears c.args.name x → ⊥) c.position.ensures.ran (YieldsList-from_slice _ refl) (λ x q k. search (rules, tests)) (λ x q k. search (rules, tests)))
    c.args.self.now.one_name
