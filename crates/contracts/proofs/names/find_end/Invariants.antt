use Rattle.std.proofs.Common.{ℕ, ◌<◌, map}
use Rattle.syntax.specs.Trees.{declares}
use Rattle.contracts.specs.Names.{EndNamed}
use Rattle.contracts.proofs.names.find_end.Given as goal

abbrev pub invariant-loop-k : goal.invariant-loop-k
invariant-loop-k l = (i : ℕ) → i < l.k → (u : ℕ) → EndNamed (map declares l.heads) l.contract l.state i u → ⊥
