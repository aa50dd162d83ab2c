use Rattle.std.proofs.Common.{◌<◌, length, get_or, ap, subst, arith}
use Rattle.std.proofs.lemmas.List.{length-take}
use Rattle.grammar.specs.Rows.{row_items}
use Rattle.contracts.specs.View.{tables_in}
use Rattle.contracts.proofs.Numbered.{pushed}
use Rattle.script_syntax.specs.declared.tree.Statement.TheVariants as s
use Rattle.scripts.specs.declared.instruction.Instruction.TheVariants.{End}
use Rattle.scripts.specs.Names.{Resolves}
use Rattle.scripts.proofs.resolution.script.Goals as goal

pub loop-statement-preserved : goal.loop-statement-preserved
loop-statement-preserved c =
    let room : length (row_items c.loop-statement.instructions) < 64 = omega (arith, length-take c.args.process.now.statements.len c.args.process.now.statements.items, ap length c.as_slice-statement-items.ensures, c.loop-statement-test.true, c.args.process.now.statements.few) in
    pushed (λ j y. Resolves (tables_in c.args.contracts.now) (get_or (row_items c.args.process.now.statements) j s.End) y) End (row_items c.loop-statement.instructions) (row_items c.push.new.self) c.in_ok-next.next c.loop-statement.statement-index c.loop-statement.invariant (c.push.ensures.room room).1
    (subst (λ xs. Resolves (tables_in c.args.contracts.now) (get_or xs c.loop-statement.statement-index s.End) c.in_ok-next.next) c.as_slice-statement-items.ensures c.in_ok-next.ensures)
