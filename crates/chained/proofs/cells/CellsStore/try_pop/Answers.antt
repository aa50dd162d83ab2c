use Rattle.std.proofs.Common.{◌<◌, sym, arith}
use Rattle.chained.specs.Cells.{take_here, take_others}
use Rattle.chained.proofs.cells.CellsStore.try_pop.Goals as goal

pub returns : goal.returns
returns c =
    let s = c.args.self.now in
    let b = c.from.result in
    let x = c.in_ok-cell.cell in
    let low : b < 64 = omega (arith, c.from.ensures, c.args.b.below) in
    let first = c.in_ok-cell.ensures.first in
    let moved = c.in_ok-cell.ensures.moved in
    rw (sym c.from.ensures)
    (record {
      here = take_here s.messages s.links c.shift.new.self b x low first.0 first.1 moved;
      others = take_others s.messages s.links c.shift.new.self b x low first.0 first.1 moved;
    })
