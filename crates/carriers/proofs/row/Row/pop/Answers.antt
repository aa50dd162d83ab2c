use Rattle.std.proofs.Common.{◌<◌, ◌-◌, ◌*◌, ◌∷◌, slice_index, sym, ap, ◌∙◌, arith}
use Rattle.carriers.specs.Rows.{queued}
use Rattle.carriers.specs.Queues.{length-queued, queued-pop}
use Rattle.carriers.proofs.row.Row.pop.Goals as goal

pub returns : goal.returns
returns c =
    let s = c.args.self.now in
    let next = c.place-next.result in
    let some : 0 < s.count = omega (arith, c.requires.some, length-queued s.count s.first s.bytes) in
    record {
      here =
          queued-pop s.count s.first s.bytes s.within next some s.few c.place-next.ensures
          ∙ ap (λ p. record { number = slice_index s.bytes (2 * s.first); payload = p } ∷ queued (s.count - 1) next s.bytes) (sym c.decode-payload.ensures);
    }
