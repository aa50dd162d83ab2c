use Rattle.std.proofs.Common.{sym, ◌∙◌, ap}
use Rattle.chained.specs.Chains.{count_of}
use Rattle.chained.specs.Cells.{length-waiting}
use Rattle.chained.proofs.cells.CellsStore.count.Goals as goal

pub returns : goal.returns
returns c =
    let s = c.args.self.now in
    record { answer = c.count.ensures.answer ∙ ap (count_of s.links.tables) c.from.ensures ∙ sym (length-waiting s.messages s.links c.args.b.number) }
