use Rattle.syntax.specs.Trees.{parts}
use Rattle.contracts.specs.Names.{Among, FirstOrNone, head_at, MessagesMissing}
use Rattle.contracts.proofs.undeclared.in_heads.Given as goal

abbrev pub invariant-loop-head : goal.invariant-loop-head
invariant-loop-head l =
    FirstOrNone (Among l.head-index (λ k. MessagesMissing (parts l.tree).heads (head_at (parts l.tree).heads k).messages)) l.first
