use Rattle.std.proofs.Common.{sym}
use Rattle.carriers.specs.Queues.{length-queued}
use Rattle.carriers.proofs.row.Row.count.Goals as goal

pub returns : goal.returns
returns c = let s = c.args.self.now in record { answer = sym (length-queued s.count s.first s.bytes) }
