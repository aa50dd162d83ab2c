-- An accepted set, as those who ask it see it.
--   tables_in set          the tables of its contracts, in the order of the text
--   target_at t s m        where the state s goes by the message m, if it has a move for it
--   OfPart ts k n i x r   r is x, which is of the i-th of n parts of contract k, and none where there is no such part
--   BoundOf ts k d r      r is the number of moves on the longest one-way path of contract k with the mark d, and none where there is no such contract
--   Named n f x i         the i-th of n has the name x, where f says their names
--   Found n f x r         r is the first of n that has the name x, and none where none has it
use Rattle.std.specs.Prelude.{◌≡◌, ℕ, ◌<◌, ◌≤◌, List, length, Option, MatchOption}
use Rattle.words.specs.declared.name.Name.{Name}
use Rattle.grammar.specs.Rows.{row_items}
use Rattle.syntax.specs.declared.tree.Mark.{Mark}
use Rattle.contracts.specs.declared.set.ContractSet.{ContractSet}
use Rattle.contracts.specs.declared.table.Table.{Table}
use Rattle.contracts.specs.Acceptance.{tables_of}
use Rattle.contracts.specs.Moves.{target_in}
use Rattle.contracts.specs.Paths.{Longest}
use Rattle.contracts.specs.Rules.{First, Never, OneWay}
use Rattle.contracts.specs.Tables.{table_at}

abbrev pub tables_in : ContractSet → List Table
tables_in set = tables_of (row_items set.contracts)

abbrev pub target_at : Table → ℕ → ℕ → Option ℕ
target_at t s m = target_in t.moves s m

abbrev pub OfPart : {X : Type 0} → List Table → ℕ → ℕ → ℕ → X → Option X → Type 0
OfPart ts k n i x r = MatchOption r (n ≤ i) (λ y. (k < length ts) × (i < n) × (y ≡ x))

abbrev pub BoundOf : List Table → ℕ → Mark → Option ℕ → Type 0
BoundOf ts k d r = MatchOption r (length ts ≤ k) (λ b. (k < length ts) × Longest (OneWay (table_at ts k) d) b × (b ≤ 15))

abbrev pub Named : ℕ → (ℕ → Name) → Name → ℕ → Type 0
Named n f x i = (i < n) × (f i ≡ x)

abbrev pub Found : ℕ → (ℕ → Name) → Name → Option ℕ → Type 0
Found n f x r = MatchOption r (Never (Named n f x)) (First (Named n f x))
