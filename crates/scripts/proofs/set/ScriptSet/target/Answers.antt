use Rattle.std.proofs.Common.{w16, SFits, ◌∙◌, rules}
use Rattle.std.proofs.lemmas.Int.{to_z-of_z}
use Rattle.contracts.specs.View.{tables_in}
use Rattle.scripts.specs.View.{scripts_in}
use Rattle.scripts.proofs.Jumped.{target_of}
use Rattle.scripts.proofs.Opened.{opened}
use Rattle.scripts.proofs.set.ScriptSet.target.Goals as goal

pub returns : goal.returns
returns c =
    let set = c.args.self.now in
    let found = c.in_ok-instruction.ensures.answer in
    let fits : SFits w16 c.in_ok-distance.distance = search rules in
    record {
      answer = target_of (tables_in set.contracts) (scripts_in set) c.args.process c.args.i c.in_ok-instruction.instruction c.in_ok-distance.distance found.0 found.1
          c.in_ok-distance.ensures c.new.result.count c.new.result.index _ c.target.result (c.new.ensures.1 ∙ c.in_ok-count.ensures.answer.1) c.new.ensures.0 (to_z-of_z w16 _ fits)
          (opened _ _ c.args.i _ (set.runnable (record { process = c.args.process; index = c.args.i; within = found.0 }))) c.target.ensures;
    }
