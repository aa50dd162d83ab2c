use Rattle.std.proofs.Common.{◌<◌, length, sym, ◌∙◌, arith}
use Rattle.carriers.specs.Waiting.{waiting_here, waiting-others}
use Rattle.carriers.proofs.rows.RowsStore.clear.Goals as goal

pub returns : goal.returns
returns c =
    let rows = c.args.self.now.rows in
    let b = c.index.result in
    let inside : b < length rows = omega (arith, c.index.ensures.answer, c.args.b.below) in
    rw (sym c.index.ensures.answer) (record { here = waiting_here rows b _ inside ∙ c.clear.ensures.none; others = waiting-others rows b _ })
