use Rattle.std.proofs.Common.{◌<◌, [], ◌∷◌, ◌++◌, length, refl, sym, ap, ◌∙◌, arith}
use Rattle.carriers.specs.Waiting.{waiting_in, waiting-room, waiting_at, waiting_here, waiting-others}
use Rattle.carriers.proofs.rows.RowsStore.try_push.Goals.{Else-not-is_ranged}
use Rattle.carriers.proofs.rows.RowsStore.try_push.Goals as goal

room : (c : Else-not-is_ranged) → length (waiting_in c.args.self.now.rows c.index.result) < c.args.limit.number
room c =
    let rows = c.args.self.now.rows in
    let b = c.index.result in
    let inside : b < length rows = omega (arith, c.index.ensures.answer, c.args.b.below) in
    omega (arith, ap length (waiting_at rows b c.index-self-index.result inside), c.count.ensures.answer, c.if-count-from.false, c.from.ensures)

pub push-requires-clause-room : goal.push-requires-clause-room
push-requires-clause-room c =
    let rows = c.args.self.now.rows in
    let b = c.index.result in
    let inside : b < length rows = omega (arith, c.index.ensures.answer, c.args.b.below) in
    omega (arith, room c, c.args.limit.low, ap length (waiting_at rows b c.index-self-index.result inside))

pub returns : goal.returns
returns c =
    let rows = c.args.self.now.rows in
    let b = c.index.result in
    let r = c.index-self-index.result in
    let low : b < 64 = omega (arith, c.index.ensures.answer, c.args.b.below) in
    let inside : b < length rows = omega (arith, low) in
    let free = room (goal.at.returns c).Else-not-is_ranged in
    rw (sym c.index.ensures.answer)
    (record {
      answer = (c.if-not-is_ranged.ensures.answer.0 refl, free, waiting-room rows b low (omega (arith, free, c.args.limit.low)));
      here = waiting_here rows b _ inside ∙ c.push.ensures.here ∙ ap (λ ms. ms ++ c.args.message ∷ []) (sym (waiting_at rows b r inside));
      others = waiting-others rows b _;
    })
