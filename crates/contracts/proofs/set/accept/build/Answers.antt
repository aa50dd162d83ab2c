use Rattle.std.proofs.Common.{◌<◌, length, sym, ap, ◌∙◌, subst, arith}
use Rattle.std.proofs.lemmas.List.{get_or_read, take_all}
use Rattle.grammar.specs.Rows.{row_items}
use Rattle.contracts.specs.Acceptance.{tables_of}
use Rattle.contracts.specs.Rules.{Ruled}
use Rattle.contracts.specs.Tables.{blank}
use Rattle.contracts.proofs.Gathered.{gathered-length, gathered-more}
use Rattle.contracts.proofs.set.accept.build.Goals as goal

pub new-requires : goal.new-requires
new-requires c =
    subst Ruled (sym (get_or_read c.args.tables.now 0 _ c.requires.some c.index-tables-0.is blank)) (c.requires.ruled 0 c.requires.some)

pub new-requires-in-loop-table : goal.new-requires-in-loop-table
new-requires-in-loop-table c =
    subst Ruled (sym (get_or_read c.args.tables.now c.loop-table.table-index _ c.loop-table-test.true c.table-item.is blank))
    (c.requires.ruled c.loop-table.table-index c.loop-table-test.true)

pub loop-table-init : goal.loop-table-init
loop-table-init c = ap tables_of c.new-contracts.ensures

pub loop-table-preserved : goal.loop-table-preserved
loop-table-preserved c =
    let few = gathered-length (row_items c.loop-table.contracts) c.args.tables.now c.loop-table.table-index c.loop-table.invariant in
    let room : length (row_items c.loop-table.contracts) < 8 = omega (arith, c.requires.few) in
    gathered-more _ _ c.new-in-loop-table.result c.args.tables.now c.loop-table.table-index c.table-item.result c.loop-table-test.true c.table-item.is
    c.loop-table.invariant (c.push.ensures.room room).1 c.new-in-loop-table.ensures

pub returns : goal.returns
returns c = c.loop-table.invariant ∙ take_all _ c.args.tables.now (omega arith)
