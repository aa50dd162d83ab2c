use Rattle.scripts.proofs.Opened.{opened}
use Rattle.scripts.proofs.set.ScriptSet.laws.Goals as goal

pub returns-clause-one_name : goal.returns-clause-one_name
returns-clause-one_name c = λ p q l m e. c.args.self.now.one_name (record { one = p; other = q; first = l; second = m; named = e })

pub returns-clause-runnable : goal.returns-clause-runnable
returns-clause-runnable c = λ p i l. opened _ _ i _ (c.args.self.now.runnable (record { process = p; index = i; within = l }))
