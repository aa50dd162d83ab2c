-- Names are not empty.
--   Sized x     x is no name, or a name of at least one byte
use Rattle.std.specs.Prelude.{◌≤◌}
use Rattle.words.specs.Signs.{Sign}
use Rattle.words.specs.Signs as s

abbrev pub Sized : Sign → Type 0
Sized (s.Key x) = Unit {0}
Sized (s.Mark x) = Unit {0}
Sized (s.Name n) = 1 ≤ n.name.len
Sized (s.Number n) = Unit {0}
Sized s.End = Unit {0}
