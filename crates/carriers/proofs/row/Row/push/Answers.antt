use Rattle.std.proofs.Common.{◌<◌, sym, ap, ◌∙◌, arith}
use Rattle.carriers.specs.Rows.{payload_of}
use Rattle.carriers.specs.Bytes.{payload_of_byte}
use Rattle.carriers.specs.Queues.{length-queued, queued-push}
use Rattle.carriers.proofs.row.Row.push.Goals as goal

pub returns : goal.returns
returns c =
    let s = c.args.self.now in
    let room : s.count < 15 = omega (arith, c.requires.room, length-queued s.count s.first s.bytes) in
    record {
      here =
          queued-push s.count s.first s.bytes s.within c.place.result c.args.message.number c.encode-slot.result c.args.message s.size room c.place.ensures
          (ap (λ p. record { number = c.args.message.number; payload = p })
          (sym (ap payload_of c.encode-slot.ensures ∙ payload_of_byte c.args.message.payload c.requires.ranged.1)));
    }
