use Rattle.std.proofs.Common.{◌≡◌}
use Rattle.syntax.specs.Machine.{heading}
use Rattle.syntax.specs.Parsing.{parts_in, reads, unread}
use Rattle.syntax.proofs.parser.Parser.contracts.Given as goal

abbrev pub invariant-loop-self : goal.invariant-loop-self
invariant-loop-self l = reads (heading (parts_in l.initial.self)) l.initial.self ≡ reads (heading (parts_in l.self)) l.self

abbrev pub decreases-loop-self : goal.decreases-loop-self
decreases-loop-self l = unread l.self
