use Rattle.std.proofs.Common.{◌≡◌, ◌++◌, map, take, drop}
use Rattle.listing.specs.Lines.{printed_byte}
use Rattle.listing.proofs.printed.print.Given as goal

abbrev pub invariant-loop-b : goal.invariant-loop-b
invariant-loop-b l = l.bytes ≡ map (printed_byte l.line_end) (take l.b-index l.initial.bytes) ++ drop l.b-index l.initial.bytes
