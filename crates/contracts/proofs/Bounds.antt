-- The two bounds of a contract are together at most 16: each state sends with one mark at most.
use Rattle.std.proofs.Common.{◌≡◌, ℕ, ◌+◌, ◌≤◌, true, false, replicate, count_by, refl, ◌∙◌, arith}
use native.Mathlib.Bridge.{le_prop}
use mathlib.Core.Logic.{∥∥₁_elim}
use Rattle.std.proofs.lemmas.List.{get_or-replicate}
use Rattle.syntax.specs.declared.tree.Mark.{Mark}
use Rattle.syntax.specs.declared.tree.Mark.TheVariants.{Out, In}
use Rattle.contracts.specs.declared.table.Table.{Table}
use Rattle.contracts.specs.Laws.{Together, other}
use Rattle.contracts.specs.Paths.{Path}
use Rattle.contracts.specs.Rules.{OneWay, Positional, Synchronising}
use Rattle.contracts.proofs.Graph.{taken}
use Rattle.contracts.proofs.Targets.{source_below}

-- a state with a move of one mark has none of the other
one_sided : (t : Table) → Positional t → (d : Mark) (s u v : ℕ) → OneWay t d s u → OneWay t (other d) s v → ⊥
one_sided t positional Out s u v e f = positional s (u, e) (v, f)
one_sided t positional In s u v e f = positional s (v, f) (u, e)

paths_together : (t : Table) → Positional t → Synchronising t → (d : Mark) {s u s' u' b c : ℕ} → Path (OneWay t d) s u b → Path (OneWay t (other d)) s' u' c → b + c ≤ 16
paths_together t positional acyclic d {b = b} {c = c} p q =
    let (R, first, kept) = taken (OneWay t d) (acyclic d) p (replicate 16 true) (λ v w k _ e. get_or-replicate 16 v true false (source_below t v e.0 w e.2)) in
    let (Q, second, _) = taken (OneWay t (other d)) (acyclic (other d)) q R
    (λ v w k _ e. kept v (λ x f. one_sided t positional d v x w f e) ∙ get_or-replicate 16 v true false (source_below t v e.0 w e.2)) in
    let all : count_by (λ b. b) (replicate 16 true) ≡ 16 = refl in
    omega arith

pub together : (t : Table) → Positional t → Synchronising t → Together t
together t positional acyclic d b c (_, one) (_, two) =
    ∥∥₁_elim one le_prop (λ p. ∥∥₁_elim two le_prop (λ q. paths_together t positional acyclic d p.2 q.2))
