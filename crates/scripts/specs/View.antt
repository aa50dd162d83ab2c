-- An accepted set of scripts, as those who ask it see it.
--   scripts_in set              its processes, in the order of the text
--   instruction_at ss p i       instruction i of process p
--   ProcessNamed ss x p        process p has the name x
--   OfProcess ss p x r         r is x, which is of process p, and none where there is no such process
--   OfInstruction ss p i r     r is instruction i of process p, and none where there is no such instruction
--   JumpAt ss p i d            instruction i of process p is a jump over the distance d
--   TargetOf ss p i r          r is where the jump leads that is instruction i of process p, and none where there is no such jump
use Rattle.std.specs.Prelude.{◌≡◌, ℕ, ◌<◌, ◌≤◌, List, length, ℤ, pos, ◌+ℤ◌, Some, Option, MatchOption, slice_index_or}
use Rattle.words.specs.declared.name.Name.{Name}
use Rattle.grammar.specs.Rows.{row_items}
use Rattle.contracts.specs.View.{Named}
use Rattle.scripts.specs.declared.instruction.Instruction.{Instruction}
use Rattle.scripts.specs.declared.instruction.Instruction.TheVariants.{End}
use Rattle.scripts.specs.declared.set.ScriptSet.{ScriptSet}
use Rattle.scripts.specs.Kinds.{distance_of}
use Rattle.scripts.specs.Scripts.{instructions_of, script_at, ScriptParts, scripts_of}

abbrev pub scripts_in : ScriptSet → List ScriptParts
scripts_in set = scripts_of (row_items set.scripts)

abbrev pub instruction_at : List ScriptParts → ℕ → ℕ → Instruction
instruction_at ss p i = slice_index_or (instructions_of ss p) i End

abbrev pub ProcessNamed : List ScriptParts → Name → ℕ → Type 0
ProcessNamed ss x p = Named (length ss) (λ q. (script_at ss q).name) x p

abbrev pub OfProcess : {X : Type 0} → List ScriptParts → ℕ → X → Option X → Type 0
OfProcess ss p x r = MatchOption r (length ss ≤ p) (λ y. (p < length ss) × (y ≡ x))

abbrev pub OfInstruction : List ScriptParts → ℕ → ℕ → Option Instruction → Type 0
OfInstruction ss p i r = MatchOption r (length (instructions_of ss p) ≤ i) (λ y. (i < length (instructions_of ss p)) × (y ≡ instruction_at ss p i))

abbrev pub JumpAt : List ScriptParts → ℕ → ℕ → ℤ → Type 0
JumpAt ss p i d = (i < length (instructions_of ss p)) × (distance_of (instruction_at ss p i) ≡ Some d)

abbrev pub TargetOf : List ScriptParts → ℕ → ℕ → Option ℕ → Type 0
TargetOf ss p i r =
    MatchOption r ((d : ℤ) → JumpAt ss p i d → ⊥) (λ t. (d : ℤ) × JumpAt ss p i d × (pos t ≡ pos i +ℤ d) × (t ≤ length (instructions_of ss p)))
