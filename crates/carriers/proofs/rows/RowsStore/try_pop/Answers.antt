use Rattle.std.proofs.Common.{◌<◌, ◌∷◌, length, sym, ap, ◌∙◌, arith}
use Rattle.carriers.specs.Waiting.{waiting_at, waiting_here, waiting-others}
use Rattle.carriers.proofs.rows.RowsStore.try_pop.Goals as goal

pub returns : goal.returns
returns c =
    let rows = c.args.self.now.rows in
    let b = c.index.result in
    let inside : b < length rows = omega (arith, c.index.ensures.answer, c.args.b.below) in
    rw (sym c.index.ensures.answer)
    (record {
      here = waiting_at rows b c.index-self-index.result inside ∙ c.pop.ensures.here ∙ ap (λ ms. c.pop.result ∷ ms) (sym (waiting_here rows b _ inside));
      others = waiting-others rows b _;
    })
