use Rattle.syntax.specs.Machine.{state}
use Rattle.syntax.specs.Parsing.{unread}
use Rattle.syntax.proofs.Parsers.{Follows}
use Rattle.syntax.proofs.parser.Parser.states.Given as goal

abbrev pub invariant-loop-self : goal.invariant-loop-self
invariant-loop-self l = Follows state l.initial.self l.self

abbrev pub decreases-loop-self : goal.decreases-loop-self
decreases-loop-self l = unread l.self
