-- Jumps: the target is the instruction's own number and the distance together, from 0 to the number of instructions.
--   span_of_distance d            where a distance stands
--   Lands n i d               a jump over the distance d, of the i-th of n instructions, leads to one of 0 to n
--   JumpOutside n i x s       s is where the distance stands of a jump that does not: of `case`, `lost` and `jump`
use Rattle.std.specs.Prelude.{◌≡◌, ℕ, ℤ, pos, ◌+ℤ◌, ◌≤ℤ◌}
use Rattle.words.specs.declared.fault.Source.TheVariants.{Scripts}
use Rattle.words.specs.declared.fault.Span.{Span}
use Rattle.script_syntax.specs.declared.tree.Distance.{Distance}
use Rattle.script_syntax.specs.declared.tree.Statement.{Statement}
use Rattle.script_syntax.specs.declared.tree.Statement.TheVariants.{End, New, Put, Free, Open, Close, Send, Pass, Receive, Case, Lost, Jump}

abbrev pub span_of_distance : Distance → Span
span_of_distance d = record { source = Scripts; place = d.place; len = d.len }

abbrev pub Lands : ℕ → ℕ → ℤ → Type 0
Lands n i d = (pos 0 ≤ℤ (pos i +ℤ d)) × ((pos i +ℤ d) ≤ℤ pos n)

abbrev pub JumpOutside : ℕ → ℕ → Statement → Span → Type 0
JumpOutside n i End sp = ⊥
JumpOutside n i (New r) sp = ⊥
JumpOutside n i (Put r k b) sp = ⊥
JumpOutside n i (Free r) sp = ⊥
JumpOutside n i (Open c r t) sp = ⊥
JumpOutside n i (Close r) sp = ⊥
JumpOutside n i (Send e c m) sp = ⊥
JumpOutside n i (Pass e c m t) sp = ⊥
JumpOutside n i (Receive e t) sp = ⊥
JumpOutside n i (Case c m d) sp = (sp ≡ span_of_distance d) × (Lands n i d.value → ⊥)
JumpOutside n i (Lost d) sp = (sp ≡ span_of_distance d) × (Lands n i d.value → ⊥)
JumpOutside n i (Jump d) sp = (sp ≡ span_of_distance d) × (Lands n i d.value → ⊥)
