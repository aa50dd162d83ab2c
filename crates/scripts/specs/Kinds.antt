-- The kinds of instructions.
--   kind_of x         the number of its kind, 0 to 11
--   distance_of x     the distance of a jump: of `case`, `lost` and `jump`
use Rattle.std.specs.Prelude.{ℕ, ℤ, Some, None, Option}
use Rattle.scripts.specs.declared.instruction.Instruction.{Instruction}
use Rattle.scripts.specs.declared.instruction.Instruction.TheVariants.{End, New, Put, Free, Open, Close, Send, Pass, Receive, Case, Lost, Jump}

abbrev pub kind_of : Instruction → ℕ
kind_of (New r) = 0
kind_of (Put r k b) = 1
kind_of (Free r) = 2
kind_of (Open c r s) = 3
kind_of (Close r) = 4
kind_of (Send e c m) = 5
kind_of (Pass e c m t) = 6
kind_of (Receive e t) = 7
kind_of (Case c m d) = 8
kind_of (Lost d) = 9
kind_of (Jump d) = 10
kind_of End = 11

abbrev pub distance_of : Instruction → Option ℤ
distance_of End = None
distance_of (New r) = None
distance_of (Put r k b) = None
distance_of (Free r) = None
distance_of (Open k r s) = None
distance_of (Close r) = None
distance_of (Send e k m) = None
distance_of (Pass e k m t) = None
distance_of (Receive e t) = None
distance_of (Case k m d) = Some d
distance_of (Lost d) = Some d
distance_of (Jump d) = Some d
