use Rattle.std.proofs.Common.{get_or}
use Rattle.syntax.specs.Trees.{no_move, parts}
use Rattle.contracts.specs.Names.{Among, FirstOrNone, MoveMissing}
use Rattle.contracts.proofs.undeclared.in_moves.Given as goal

abbrev pub invariant-loop-entry : goal.invariant-loop-entry
invariant-loop-entry l = FirstOrNone (Among l.entry-index (λ i. MoveMissing (parts l.tree).heads (get_or (parts l.tree).moves i no_move))) l.first
