use Rattle.std.proofs.Common.{◌<◌, List, length, ap, subst, arith}
use Rattle.std.proofs.lemmas.List.{length-map}
use Rattle.grammar.specs.Rows.{row_items}
use Rattle.syntax.specs.declared.tree.Message.{Message}
use Rattle.syntax.specs.Trees.{declares, parts}
use Rattle.contracts.specs.Names.{FirstOrNone, MessagesMissing}
use Rattle.contracts.proofs.Lookups.{messages_read}
use Rattle.contracts.proofs.Firsts.{first-all, first_more}
use Rattle.contracts.proofs.undeclared.in_heads.Goals as goal

pub loop-head-preserved : goal.loop-head-preserved
loop-head-preserved c =
    let First : List Message → Type 0 = λ ms. FirstOrNone (MessagesMissing (parts c.args.tree.now).heads ms) c.in_messages.result in
    let l : c.loop-head.head-index < length (parts c.args.tree.now).heads =
    omega (arith, length-map (row_items c.args.tree.now.heads) declares, ap length c.heads-head-items.ensures, c.loop-head-test.true) in
    first_more _ _ _ _ _ c.loop-head.invariant
    (subst First (messages_read c.args.tree.now _ c.loop-head.head-index _ c.heads-head-items.ensures c.head-item.is _ l c.as_slice.ensures) c.in_messages.ensures)
    c.earlier-first.ensures

pub returns : goal.returns
returns c =
    let e = ap length c.heads-head-items.ensures in
    let m = length-map (row_items c.args.tree.now.heads) declares in
    first-all _ _ _ _ (omega (arith, e, m)) (omega (arith, e, m)) c.loop-head.invariant
