use Rattle.std.proofs.Common.{◌<◌, length, get_or, arith}
use Rattle.grammar.specs.Rows.{row_items}
use Rattle.syntax.specs.Trees.{parts}
use Rattle.contracts.specs.Names.{no_message}
use Rattle.contracts.specs.Numbers.{MessageAs, quiet}
use Rattle.contracts.proofs.Numbered.{pushed}
use Rattle.contracts.proofs.declared.all_messages.Goals as goal

pub loop-next-preserved : goal.loop-next-preserved
loop-next-preserved c =
    let room : length (row_items c.loop-next.all) < 16 = omega (arith, c.loop-next.invariant.0, c.requires) in
    pushed (λ m y. MessageAs (parts c.args.tree.now).heads (get_or c.args.written.now m no_message) y) quiet _ _ _ _
    c.loop-next.invariant (c.push.ensures.room room).1 c.in_ok-numbered.ensures
