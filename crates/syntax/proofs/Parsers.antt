-- Where a parser stands after some of a file's words.
use Rattle.std.proofs.Common.{◌≡◌, ◌≤◌}
use Rattle.syntax.specs.declared.parser.Parser.{Parser}
use Rattle.syntax.specs.Machine.{At, Progress}
use Rattle.syntax.specs.Parsing.{progress, reads, unread}

-- b stands where a stood, and has read on
abbrev pub Follows : (Progress → At) → Parser → Parser → Type 0
Follows at a b = (reads (at (progress a)) a ≡ reads (at (progress b)) b) × (unread b ≤ unread a) × (b.heads ≡ a.heads)
