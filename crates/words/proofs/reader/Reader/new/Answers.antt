use Rattle.std.proofs.Common.{refl, arith}
use Rattle.words.proofs.Streams.{stream-proper, stream_well_placed, stream-bytes}
use Rattle.words.proofs.reader.Reader.new.Goals as goal

pub returns : goal.returns
returns c =
    let bs = c.args.text.now in
    record { answer = (omega arith, refl, refl); proper = stream-proper bs 0 0; well_placed = stream_well_placed bs 0 0; within = omega (arith, stream-bytes bs 0 0) }
