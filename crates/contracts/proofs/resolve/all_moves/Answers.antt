use Rattle.std.proofs.Common.{◌<◌, List, length, get_or, sym, ap, subst, arith}
use Rattle.grammar.specs.Rows.{row_items}
use Rattle.syntax.specs.declared.tree.MoveEntry.{MoveEntry}
use Rattle.syntax.specs.Trees.{no_move, parts}
use Rattle.contracts.specs.Numbers.{unwritten, WrittenAs}
use Rattle.contracts.proofs.Numbered.{pushed}
use Rattle.contracts.proofs.Targets.{row_small}
use Rattle.contracts.proofs.resolve.all_moves.Goals as goal

pub written-requires : goal.written-requires
written-requires c =
    let Owned : List MoveEntry → Type 0 = λ es. (get_or es c.loop-entry.entry-index no_move).contract < length (parts c.args.tree.now).heads in
    subst Owned (sym c.moves-entry-items.ensures) (c.requires.owners c.loop-entry.entry-index (omega (arith, ap length c.moves-entry-items.ensures, c.loop-entry-test.true))).0

pub loop-entry-preserved : goal.loop-entry-preserved
loop-entry-preserved c =
    let room : length (row_items c.loop-entry.all) < 682 =
    omega (arith, c.loop-entry.invariant.0, ap length c.moves-entry-items.ensures, row_small c.args.tree.now.moves, c.loop-entry-test.true) in
    let As : List MoveEntry → Type 0 = λ es. WrittenAs (parts c.args.tree.now).heads (get_or es c.loop-entry.entry-index no_move) c.in_ok-next.next in
    pushed (λ i w. WrittenAs (parts c.args.tree.now).heads (get_or (parts c.args.tree.now).moves i no_move) w) unwritten _ _ _ _
    c.loop-entry.invariant (c.push.ensures.room room).1 (subst As c.moves-entry-items.ensures c.in_ok-next.ensures)
