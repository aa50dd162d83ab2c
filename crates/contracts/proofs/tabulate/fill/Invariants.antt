use Rattle.contracts.proofs.Filled.{Filled}
use Rattle.contracts.proofs.tabulate.fill.Given as goal

abbrev pub invariant-loop-w : goal.invariant-loop-w
invariant-loop-w l = Filled l.moves l.rows l.w-index l.c
