use Rattle.std.proofs.Common.{◌<◌, length, ap, subst, arith}
use Rattle.std.proofs.lemmas.List.{length-map}
use Rattle.std.proofs.lemmas.Result.{err_from_is_err_and}
use Rattle.grammar.specs.Rows.{row_items}
use Rattle.syntax.specs.Trees.{declares, HeadTree, parts}
use Rattle.contracts.specs.Names.{head_at, HeadsMissing, MessagesMissing}
use Rattle.contracts.specs.Numbers.{DeclaredAs, undeclared}
use Rattle.contracts.proofs.Lookups.{head_read}
use Rattle.contracts.proofs.Numbered.{pushed}
use Rattle.contracts.proofs.Targets.{row_small}
use Rattle.contracts.proofs.declared.declarations.Goals as goal

pub returns-in_err-next : goal.returns-in_err-next
returns-in_err-next c =
    let l : c.loop-head.head-index < length (parts c.args.tree.now).heads =
    omega (arith, length-map (row_items c.args.tree.now.heads) declares, ap length c.heads-head-items.ensures, c.loop-head-test.true) in
    let Missing : HeadTree → Type 0 = λ h. MessagesMissing (parts c.args.tree.now).heads h.messages c.in_err-next.field-0.0 in
    let h : HeadsMissing (parts c.args.tree.now).heads c.in_err-next.field-0.0 =
    (c.loop-head.head-index, l, subst Missing (head_read c.args.tree.now _ c.loop-head.head-index _ c.heads-head-items.ensures c.head-item.is l) c.in_err-next.ensures) in
    let p = err_from_is_err_and c.from_residual.result c.from_residual.ensures.1 in rw (p.1, p.2) h

pub loop-head-preserved : goal.loop-head-preserved
loop-head-preserved c =
    let l : c.loop-head.head-index < length (parts c.args.tree.now).heads =
    omega (arith, length-map (row_items c.args.tree.now.heads) declares, ap length c.heads-head-items.ensures, c.loop-head-test.true) in
    let room : length (row_items c.loop-head.all) < 8 =
    omega (arith, c.loop-head.invariant.0, ap length c.heads-head-items.ensures, row_small c.args.tree.now.heads, c.loop-head-test.true) in
    let As : HeadTree → Type 0 = λ h. DeclaredAs (parts c.args.tree.now).heads h c.in_ok-next.next in
    pushed (λ k d. DeclaredAs (parts c.args.tree.now).heads (head_at (parts c.args.tree.now).heads k) d) undeclared _ _ _ _
    c.loop-head.invariant (c.push.ensures.room room).1
    (subst As (head_read c.args.tree.now _ c.loop-head.head-index _ c.heads-head-items.ensures c.head-item.is l) c.in_ok-next.ensures)

pub returns : goal.returns
returns c =
    record {
      count = omega (arith, c.loop-head.invariant.0, length-map (row_items c.args.tree.now.heads) declares, ap length c.heads-head-items.ensures);
      each = λ k l. c.loop-head.invariant.1 k (omega (arith, c.loop-head.invariant.0));
    }
