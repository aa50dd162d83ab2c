-- The two ends of a channel.
--   sends role      the mark of the messages that an end sends
use Rattle.syntax.specs.declared.tree.Mark.{Mark}
use Rattle.syntax.specs.declared.tree.Mark.TheVariants.{Out, In}
use Rattle.syntax.specs.declared.tree.Role.{Role}
use Rattle.syntax.specs.declared.tree.Role.TheVariants.{Exporting, Importing}

abbrev pub sends : Role → Mark
sends Exporting = Out
sends Importing = In
