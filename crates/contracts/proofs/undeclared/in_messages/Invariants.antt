use Rattle.std.proofs.Common.{get_or}
use Rattle.syntax.specs.Trees.{parts}
use Rattle.contracts.specs.Names.{Among, FirstOrNone, no_message, PayloadMissing}
use Rattle.contracts.proofs.undeclared.in_messages.Given as goal

abbrev pub invariant-loop-message : goal.invariant-loop-message
invariant-loop-message l =
    FirstOrNone (Among l.message-index (λ m. PayloadMissing (parts l.tree).heads (get_or l.messages m no_message).payload)) l.first
