use Rattle.std.proofs.Common.{◌<◌, List, length, get_or, sym, ap, subst, arith}
use Rattle.syntax.specs.declared.tree.MoveEntry.{MoveEntry}
use Rattle.syntax.specs.Trees.{no_move, parts}
use Rattle.contracts.specs.Names.{FirstOrNone, MoveMissing}
use Rattle.contracts.proofs.Firsts.{first-all, first_more}
use Rattle.contracts.proofs.undeclared.in_moves.Goals as goal

pub in_move-requires : goal.in_move-requires
in_move-requires c =
    let Owned : List MoveEntry → Type 0 = λ es. (get_or es c.loop-entry.entry-index no_move).contract < length (parts c.args.tree.now).heads in
    subst Owned (sym c.moves-entry-items.ensures) (c.requires.owners c.loop-entry.entry-index (omega (arith, ap length c.moves-entry-items.ensures, c.loop-entry-test.true))).0

pub loop-entry-preserved : goal.loop-entry-preserved
loop-entry-preserved c =
    let First : List MoveEntry → Type 0 = λ es. FirstOrNone (MoveMissing (parts c.args.tree.now).heads (get_or es c.loop-entry.entry-index no_move)) c.in_move.result in
    first_more _ _ _ _ _ c.loop-entry.invariant (subst First c.moves-entry-items.ensures c.in_move.ensures) c.earlier-first.ensures

pub returns : goal.returns
returns c =
    let e = ap length c.moves-entry-items.ensures in
    first-all _ _ _ _ (omega (arith, e)) (omega (arith, e)) c.loop-entry.invariant
