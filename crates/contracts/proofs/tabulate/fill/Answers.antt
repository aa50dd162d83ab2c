use Rattle.std.proofs.Common.{◌≡◌, ◌+◌, length, sym, subst, arith}
use Rattle.contracts.specs.Written.{Listed}
use Rattle.contracts.proofs.Filled.{Filled, filled_none, filled_same, filled_more}
use Rattle.contracts.proofs.tabulate.fill.Goals as goal
use Rattle.contracts.proofs.tabulate.fill.Goals.{then-w-c, else-w-c}

pub loop-w-init : goal.loop-w-init
loop-w-init c = filled_none c.args.moves.now c.args.c

pub loop-w-preserved : goal.loop-w-preserved
loop-w-preserved c =
    elim c.if-w-c.branch [
      | then-w-c w ↦
          let (state, message) = c.requires.small c.loop-w.w-index c.loop-w-test.true w.if-w-c.true in
          subst (λ r. Filled c.args.moves.now r (c.loop-w.w-index + 1) c.args.c) (sym w.rows-is)
          (filled_more c.args.moves.now c.loop-w.rows c.loop-w.w-index c.args.c c.loop-w-test.true w.if-w-c.true state message (c.requires.once c.loop-w.w-index) c.loop-w.invariant)
      | else-w-c w ↦
          subst (λ r. Filled c.args.moves.now r (c.loop-w.w-index + 1) c.args.c) (sym w.rows-is)
          (filled_same c.args.moves.now c.loop-w.rows c.loop-w.w-index c.args.c w.if-w-c.false c.loop-w.invariant)
    ]

pub returns : goal.returns
returns c =
    let e : c.loop-w.w-index ≡ length c.args.moves.now = omega arith in
    record {
      listed = λ s m u g. subst (λ n. Listed c.args.moves.now n c.args.c s m u) e (c.loop-w.invariant.2 s m u g);
      goes = λ s m u h. c.loop-w.invariant.3 s m u (subst (λ n. Listed c.args.moves.now n c.args.c s m u) (sym e) h);
    }
