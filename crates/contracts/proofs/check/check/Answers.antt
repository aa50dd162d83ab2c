use Rattle.std.proofs.lemmas.Result.{err_from_is_err_and}
use Rattle.syntax.specs.Trees.{parts}
use Rattle.contracts.proofs.Checked.{short_of, refused_of, inhabited, checked, never_unread, accepted_of}
use Rattle.contracts.proofs.check.check.Goals as goal

pub returns-in_err-tree : goal.returns-in_err-tree
returns-in_err-tree c =
    let p = err_from_is_err_and c.from_residual.result c.from_residual.ensures.1 in
    let e = c.in_err-tree.ensures in
    record {
      answer = rw (p.1, p.2) (refused_of c.args.text.now c.in_err-tree.field-0.0 e.large e.right);
      exact = λ cs read keeps. absurd (never_unread c.args.text.now cs read c.in_err-tree.field-0.0 e.exact);
    }

pub judge-requires : goal.judge-requires
judge-requires c =
    let e = c.in_ok-tree.ensures in
    let s = short_of c.args.text.now c.in_ok-tree.tree _ e.large in
    record { ranged = e.ranged; inhabited = inhabited c.args.text.now s (parts c.in_ok-tree.tree) (e.right s) }

pub returns : goal.returns
returns c =
    let e = c.in_ok-tree.ensures in
    let s = short_of c.args.text.now c.in_ok-tree.tree _ e.large in
    record {
      answer = checked c.args.text.now s (parts c.in_ok-tree.tree) (e.right s) c.judge.result c.judge.ensures;
      exact = λ cs read keeps. accepted_of c.args.text.now cs read (parts c.in_ok-tree.tree) e.exact keeps c.judge.result c.judge.ensures;
    }
