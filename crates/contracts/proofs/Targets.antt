-- What a move's numbers are below.
use Rattle.std.proofs.Common.{◌≡◌, ℕ, suc, ◌<◌, ◌≤◌, length, length-take, true, false, replicate, Option, refl, arith}
use Rattle.contracts.specs.declared.table.Table.{Table}
use Rattle.std.proofs.lemmas.List.{get_or-replicate}
use Rattle.contracts.specs.Moves.{Goes}
use Rattle.syntax.specs.declared.tree.Mark.{Mark}
use Rattle.contracts.specs.Paths.{Path, stay, step, Leads, After, OnCycle}
use Rattle.contracts.specs.Rules.{Along}
use Rattle.grammar.specs.declared.row.Row.{Row}
use Rattle.grammar.specs.Rows.{row_items}
use Rattle.contracts.specs.Tables.{messages, states}
use Rattle.contracts.proofs.Graph.{kept_in, shorter}

-- a row has no more elements than it has places
pub row_small : {X : Type 0} {N : ℕ} (r : Row X N) → length (row_items r) ≤ N
row_small r = let few = r.few in simp length-take (omega arith)

module _ (t : Table) (s m u : ℕ) (g : Goes t.moves s m u) where
  pub numbered : (s < states t) × (m < messages t) × (u < states t)
  numbered = t.declared (record { from = s; by = m; to = u; goes = g })

  pub source_below : s < 16
  source_below = omega (arith, numbered, row_small t.declaration.states)

  pub message_below : m < messages t
  message_below = numbered.1

  pub target_below : u < 16
  target_below = omega (arith, numbered, row_small t.declaration.states)

-- a path along moves that make no cycle has fewer moves than there may be states
pub short : (t : Table) (w : Option Mark) → ((s : ℕ) → OnCycle (Along t w) s → ⊥) → {s u n : ℕ} → Path (Along t w) s u n → n < 16
short t w acyclic stay = omega arith
short t w acyclic (step {s = s} {t = v} {n = n} e p) =
    shorter (Along t w) acyclic (step e p) (replicate 16 true) (λ x k q. get_or-replicate 16 x true false (within q))
  where
    within : {x k : ℕ} → Path (Along t w) s x k → x < 16
    within q = kept_in (Along t w) (λ x. x < 16) (λ a b h f. target_below t a f.0 b f.2) q (source_below t s e.0 v e.2)

-- a state from which a move leads is declared
pub moves_below : (t : Table) (w : Option Mark) → {s u n : ℕ} → Path (Along t w) s u (suc n) → s < states t
moves_below t w (step {s = s} {t = v} e p) = (t.declared (record { from = s; by = e.0; to = v; goes = e.2 })).0

-- state 0, or one after it, is reached
pub leads_after : (t : Table) (w : Option Mark) (s : ℕ) → After (Along t w) 0 s → Leads (Along t w) 0 s
leads_after t w s (n, p) = (suc n, p)

pub after_leads : (t : Table) (w : Option Mark) (s : ℕ) → (s ≡ 0 → ⊥) → Leads (Along t w) 0 s → After (Along t w) 0 s
after_leads t w s other (n, p) = go other p
  where
    go : {r u n : ℕ} → (u ≡ r → ⊥) → Path (Along t w) r u n → After (Along t w) r u
    go other stay = absurd (other refl)
    go other (step {n = n} e p) = (n, step e p)
