use Rattle.syntax.specs.Machine.{messages}
use Rattle.syntax.specs.Parsing.{unread}
use Rattle.syntax.proofs.Parsers.{Follows}
use Rattle.syntax.proofs.parser.Parser.messages.Given as goal

abbrev pub invariant-loop-mark : goal.invariant-loop-mark
invariant-loop-mark l = Follows messages l.initial.self l.self

abbrev pub decreases-loop-mark : goal.decreases-loop-mark
decreases-loop-mark l = unread l.self
