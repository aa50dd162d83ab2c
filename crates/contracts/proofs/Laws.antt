-- The laws of an accepted set, from what its type keeps.
use Rattle.std.proofs.Common.{◌≡◌, ℕ, zero, suc, ◌<◌, List, [], ◌∷◌, length, get_or, refl, subst, arith}
use native.Mathlib.Bridge.{le_prop}
use mathlib.Core.Logic.{∥∥₁_elim, ∥∥₁_map}
use Rattle.contracts.specs.declared.declaration.Payload.{Payload}
use Rattle.contracts.specs.declared.set.ContractSet.{ContractSet}
use Rattle.contracts.specs.declared.table.Table.{Table}
use Rattle.grammar.specs.Rows.{row_items}
use Rattle.contracts.specs.Acceptance.{Each}
use Rattle.contracts.specs.Laws.{Ranged, SendStates, Together}
use Rattle.contracts.specs.Rules.{Ruled}
use Rattle.contracts.specs.Tables.{table_at}
use Rattle.contracts.specs.Transfers.{Lawful, Sendable, SendState}
use Rattle.contracts.specs.View.{tables_in}
use Rattle.contracts.proofs.Bounds.{together}
use Rattle.contracts.proofs.Viewed.{count_is, table_is}

-- what stands at a place of a list
entry : {X : Type 0} (xs : List X) (k : ℕ) → k < length xs → (x : X) × (x ≡ get_or xs k x)
entry [] k l = absurd (omega arith)
entry (x ∷ xs) zero l = (x, refl)
entry (x ∷ xs) (suc k) l = entry xs k (omega arith)

-- each contract keeps the rules on its own states
pub each-ruled : (set : ContractSet) → Each Ruled (tables_in set)
each-ruled set k l =
    let (x, read) = entry (row_items set.contracts) k (omega (arith, count_is set)) in
    subst Ruled (table_is set k x l read)
    (record { inhabited = x.inhabited; positional = x.positional; reachable = x.reachable; synchronising = x.synchronising })

pub each-together : (set : ContractSet) → Each Together (tables_in set)
each-together set k l = together (table_at (tables_in set) k) (each-ruled set k l).positional (each-ruled set k l).synchronising

pub ranged : (t : Table) → Ranged t
ranged t s m u goes = t.declared (record { from = s; by = m; to = u; goes = goes })

-- a message that carries an end names a state in which that end may send
pub send_states : (ts : List Table) (t : Table) → Lawful ts t → SendStates ts t
send_states ts t lawful m role c s within carries =
    (∥∥₁_elim named le_prop (λ h. h.0), ∥∥₁_elim named le_prop (λ h. h.1), ∥∥₁_map named (λ h. h.2))
  where
    named : ∥ SendState ts role c s ∥₁
    named = subst (λ (p : Payload). ∥ Sendable ts p ∥₁) carries (lawful m within)
