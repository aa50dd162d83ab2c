-- The processes of a set, as the code reads them.
--   no_instruction     past the last process there is no instruction
use Rattle.std.proofs.Common.{ℕ, ◌≤◌, List, length, sym, subst, arith}
use Rattle.std.proofs.lemmas.List.{get_or_past}
use Rattle.scripts.specs.Scripts.{instructions_of, no_script, ScriptParts}

pub no_instruction : (ss : List ScriptParts) (p i : ℕ) → length ss ≤ p → length (instructions_of ss p) ≤ i
no_instruction ss p i past = subst (λ (x : ScriptParts). length x.instructions ≤ i) (sym (get_or_past ss p no_script past)) (omega arith)
