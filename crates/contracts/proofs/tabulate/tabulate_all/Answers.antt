use Rattle.std.proofs.Common.{◌<◌, length, ap, arith}
use Rattle.grammar.specs.Rows.{row_items}
use Rattle.contracts.specs.Tables.{blank}
use Rattle.contracts.specs.Written.{Holds}
use Rattle.contracts.proofs.Numbered.{pushed}
use Rattle.contracts.proofs.tabulate.tabulate_all.Goals as goal

pub loop-c-init : goal.loop-c-init
loop-c-init c = (ap length c.new-tables.ensures, λ k l. absurd (omega arith))

pub loop-c-preserved : goal.loop-c-preserved
loop-c-preserved c =
    let room : length (row_items c.loop-c.tables) < 8 = omega (arith, c.loop-c.invariant.0, c.args.file.now.resolved.few) in
    pushed (λ k t. Holds t c.args.file.now.declarations.now c.args.file.now.moves.now k) blank _ _ _ _ c.loop-c.invariant (c.push.ensures.room room).1 c.tabulate-in-loop-c.ensures

pub returns : goal.returns
returns c = record { count = omega (arith, c.loop-c.invariant.0); each = λ k l. c.loop-c.invariant.1 k (omega (arith, c.loop-c.invariant.0)) }
