-- A set's tables are those of its contracts.
use Rattle.std.proofs.Common.{◌≡◌, ℕ, ◌<◌, ◌≤◌, ◌⊎◌, List, length, get_or, Some, None, Option, sym, refl, ap, ◌∙◌, subst, arith}
use mathlib.Core.Logic.{∥∥₁_elim}
use native.Mathlib.Bridge.{le_prop}
use Rattle.std.proofs.lemmas.List.{get_or-map, get_or_past, length-map}
use Rattle.syntax.specs.declared.tree.Mark.{Mark}
use Rattle.contracts.specs.declared.contract.Contract.{Contract}
use Rattle.contracts.specs.declared.set.ContractSet.{ContractSet}
use Rattle.contracts.specs.declared.set.family.Family.{Family}
use Rattle.contracts.specs.declared.set.family.Family.TheVariants.{Contracts, Messages, States}
use Rattle.contracts.specs.declared.table.Table.{Table}
use Rattle.grammar.specs.Rows.{row_items}
use Rattle.contracts.specs.Families.{size_in}
use Rattle.contracts.specs.Paths.{Longest}
use Rattle.contracts.specs.Rules.{OneWay, Synchronising}
use Rattle.contracts.specs.Tables.{blank, messages, states, table_at}
use Rattle.contracts.specs.View.{tables_in, target_at}
use Rattle.contracts.proofs.Targets.{message_below, row_small, short, source_below}

pub count_is : (set : ContractSet) → length (row_items set.contracts) ≡ length (tables_in set)
count_is set = sym (length-map (row_items set.contracts) (λ (k : Contract). k.table))

-- the contract that stands at k in the set has the table k
pub table_is : (set : ContractSet) (k : ℕ) (x : Contract) → k < length (tables_in set) → x ≡ get_or (row_items set.contracts) k x → x.table ≡ table_at (tables_in set) k
table_is set k x l read =
    let front : k < length (row_items set.contracts) = omega (arith, count_is set) in
    ap (λ (y : Contract). y.table) read ∙ sym (get_or-map (λ (y : Contract). y.table) (row_items set.contracts) k x blank front)

-- past the last contract there is no message, no state and no move
module _ (ts : List Table) (k : ℕ) (past : length ts ≤ k) where
  pub no_message_lem : (m : ℕ) → messages (table_at ts k) ≤ m
  no_message_lem m = subst (λ t. messages t ≤ m) (sym (get_or_past ts k blank past)) (omega arith)

  pub no_state : (s : ℕ) → states (table_at ts k) ≤ s
  no_state s = subst (λ t. states t ≤ s) (sym (get_or_past ts k blank past)) (omega arith)

  pub no_move_lem : (s m : ℕ) → None ≡ target_at (table_at ts k) s m
  no_move_lem s m = ap (λ t. target_at t s m) (sym (get_or_past ts k blank past))

-- nor is there a move of a state or by a message past the last
pub no_target : (t : Table) (s m : ℕ) → (16 ≤ s) ⊎ ((s < 16) × (16 ≤ m)) → None ≡ target_at t s m
no_target t s m past = go (target_at t s m) refl
  where
    go : (o : Option ℕ) → target_at t s m ≡ o → None ≡ o
    go None e = refl
    go (Some u) e = absurd (omega (arith, source_below t s m u e, message_below t s m u e, row_small t.declaration.messages))

-- the longest one-way path of a table without one-way cycles has at most 15 moves
pub bound_small : (t : Table) (d : Mark) (b : ℕ) → Synchronising t → Longest (OneWay t d) b → b ≤ 15
bound_small t d b acyclic (most, some) = ∥∥₁_elim some le_prop (λ h. omega (arith, short t (Some d) (acyclic d) h.2))

-- the bound of the contract that stands at k
pub bound_is : (set : ContractSet) (k : ℕ) (x : Contract) (d : Mark) (b : ℕ) → k < length (tables_in set) → x ≡ get_or (row_items set.contracts) k x
    → Longest (OneWay (get_or (row_items set.contracts) k x).table d) b → (k < length (tables_in set)) × Longest (OneWay (table_at (tables_in set) k) d) b × (b ≤ 15)
bound_is set k x d b within read longest =
    let h = subst (λ (y : Contract). Longest (OneWay y.table d) b) (sym read) longest in
    (within, subst (λ t. Longest (OneWay t d) b) (table_is set k x within read) h, bound_small x.table d b x.synchronising h)

-- a family has at most 16 names
pub family_small : (set : ContractSet) (f : Family) → size_in (tables_in set) f ≤ 16
family_small set Contracts = omega (arith, count_is set, row_small set.contracts)
family_small set (Messages k) = row_small (table_at (tables_in set) k).declaration.messages
family_small set (States k) = row_small (table_at (tables_in set) k).declaration.states
