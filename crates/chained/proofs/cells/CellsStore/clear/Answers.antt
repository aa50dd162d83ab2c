use Rattle.std.proofs.Common.{sym}
use Rattle.chained.specs.Cells.{clear_others}
use Rattle.chained.proofs.cells.CellsStore.clear.Goals as goal

pub returns-clause-others : goal.returns-clause-others
returns-clause-others c =
    let s = c.args.self.now in
    rw (sym c.from.ensures) (clear_others s.messages s.links c.clear.new.self c.from.result c.clear.ensures.cleared)
