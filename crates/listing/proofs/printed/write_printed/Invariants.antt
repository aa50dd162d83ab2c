use Rattle.std.proofs.Common.{◌≡◌, ℕ, List, ◌++◌, map, length}
use Rattle.std.specs.Fmt.{HasWritten, IsPlainFormatter}
use Rattle.listing.specs.Lines.{printed_byte}
use Rattle.listing.proofs.printed.write_printed.Given as goal

-- what was written stood before the rest
abbrev pub invariant-loop-rest : goal.invariant-loop-rest
invariant-loop-rest g l = (front : List ℕ) × (front ++ l.rest ≡ l.bytes) × (IsPlainFormatter l.initial.f → HasWritten g.W.Write.write_str_gives l.initial.f (map (printed_byte l.line_end) front) l.f)

abbrev pub decreases-loop-rest : goal.decreases-loop-rest
decreases-loop-rest g l = length l.rest
