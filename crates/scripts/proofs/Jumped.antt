-- Where the jumps of a set lead.
--   target_of      the target that the code computes is that of the jump
use Rattle.std.proofs.Common.{◌≡◌, ℕ, ◌<◌, ◌≤◌, List, length, ℤ, pos, ◌+ℤ◌, Some, None, Option, sym, ap, ◌∙◌, MatchOption}
use Rattle.contracts.specs.declared.table.Table.{Table}
use Rattle.scripts.specs.declared.instruction.Instruction.{Instruction}
use Rattle.scripts.specs.Jumps.{Lands}
use Rattle.scripts.specs.Kinds.{distance_of}
use Rattle.scripts.specs.Runnable.{Runnable}
use Rattle.scripts.specs.Scripts.{instructions_of, ScriptParts}
use Rattle.scripts.specs.View.{instruction_at, JumpAt, TargetOf}
use Rattle.scripts.proofs.Opened.{jump_lands}

module _ (ts : List Table) (ss : List ScriptParts) (p i : ℕ) (y : Instruction) (d : ℤ) (within : i < length (instructions_of ss p)) (read : y ≡ instruction_at ss p i)
    (far : Some d ≡ distance_of y) where
  here : JumpAt ss p i d
  here = (within, sym (far ∙ ap distance_of read))

  target : (r : Option ℕ) → Runnable ts (length (instructions_of ss p)) i (instruction_at ss p i)
      → MatchOption r (Lands (length (instructions_of ss p)) i d → ⊥) (λ t. (pos t ≡ pos i +ℤ d) × (t ≤ length (instructions_of ss p))) → TargetOf ss p i r
  target None runnable outside = absurd (outside (jump_lands ts _ i _ d runnable here.1))
  target (Some t) runnable lands = (d, here, lands.0, lands.1)

  pub target_of : (n j : ℕ) (e : ℤ) (r : Option ℕ) → n ≡ length (instructions_of ss p) → j ≡ i → e ≡ d → Runnable ts (length (instructions_of ss p)) i (instruction_at ss p i)
      → MatchOption r (Lands n j e → ⊥) (λ t. (pos t ≡ pos j +ℤ e) × (t ≤ n)) → TargetOf ss p i r
  target_of n j e r count index same runnable h = target r runnable (rw (count, index, same) at h)
