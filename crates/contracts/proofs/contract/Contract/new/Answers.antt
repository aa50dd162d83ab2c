use Rattle.syntax.specs.declared.tree.Mark.TheVariants.{Out, In}
use Rattle.contracts.proofs.contract.Contract.new.Goals as goal

pub longest-requires : goal.longest-requires
longest-requires c = record { acyclic = c.requires.synchronising Out }

pub longest-requires-2 : goal.longest-requires-2
longest-requires-2 c = record { acyclic = c.requires.synchronising In }
