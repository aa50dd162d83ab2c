use Rattle.std.proofs.Common.{ap}
use Rattle.carriers.proofs.Drawing.{get_d_equal}
use Rattle.chained.specs.Chained.{blank, ranged_test}
use Rattle.chained.proofs.cells.CellsStore.new.Goals as goal

pub invariant_of-result-clause-ranged : goal.invariant_of-result-clause-ranged
invariant_of-result-clause-ranged c = λ i. ap ranged_test (get_d_equal 128 i blank)
