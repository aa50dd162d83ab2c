use Rattle.syntax.specs.Machine.{moves}
use Rattle.syntax.specs.Parsing.{unread}
use Rattle.syntax.proofs.Parsers.{Follows}
use Rattle.syntax.proofs.parser.Parser.moves.Given as goal

abbrev pub invariant-loop-message : goal.invariant-loop-message
invariant-loop-message l = Follows moves l.initial.self l.self

abbrev pub decreases-loop-message : goal.decreases-loop-message
decreases-loop-message l = unread l.self
