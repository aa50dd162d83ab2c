use Rattle.std.proofs.lemmas.Result.{err_from_is_err_and}
use Rattle.contracts.specs.View.{tables_in}
use Rattle.script_syntax.specs.Trees.{parts}
use Rattle.scripts.proofs.Checked.{refused_of, short_of, spelt}
use Rattle.scripts.proofs.check.spelt.Goals as goal

pub returns-in_err-tree-clause-answer : goal.returns-in_err-tree-clause-answer
returns-in_err-tree-clause-answer c =
    let p = err_from_is_err_and c.from_residual.result c.from_residual.ensures.1 in
    rw (p.1, p.2) (refused_of c.args.text.now (tables_in c.args.contracts.now) c.in_err-tree.field-0.0 c.in_err-tree.ensures.large c.in_err-tree.ensures.right)

pub returns-clause-answer : goal.returns-clause-answer
returns-clause-answer c =
    let e = c.in_ok-tree.ensures in
    let ts = tables_in c.args.contracts.now in
    let s = short_of c.args.text.now ts c.in_ok-tree.tree _ e.large in
    spelt c.args.text.now ts s (parts c.in_ok-tree.tree) (e.right s) c.judge.result c.judge.ensures.answer
