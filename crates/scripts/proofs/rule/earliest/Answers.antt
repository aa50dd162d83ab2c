use Rattle.std.proofs.Common.{sym, ap, subst, below_more}
use Rattle.script_syntax.proofs.Processes.{read_at}
use Rattle.scripts.specs.Places.{KeptIn}
use Rattle.scripts.proofs.rule.earliest.Goals as goal

pub loop-process-preserved : goal.loop-process-preserved
loop-process-preserved g c =
    below_more _ _ c.loop-process.invariant
    (subst (KeptIn (g.R.Rule.breaks c.args.rule.now)) (sym (ap (λ x. x.statements) (read_at c.args.processes.now c.loop-process.process-index _ c.loop-process-test.true c.process-item.is))) c.in_default.ensures)
