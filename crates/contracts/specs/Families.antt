-- The names of a family, by their numbers.
--   size_in ts f      how many names the family f has
--   name_in ts f i    its i-th name
--   Has ts f          the family f is that of the contracts, or is of one of them
--   NameOf ts f i r   r is the i-th name of the family f, and none where it has no such name
use Rattle.std.specs.Prelude.{◌≡◌, ℕ, ◌<◌, ◌≤◌, List, length, Option, MatchOption}
use Rattle.words.specs.declared.name.Name.{Name}
use Rattle.contracts.specs.declared.set.family.Family.{Family}
use Rattle.contracts.specs.declared.set.family.Family.TheVariants.{Contracts, Messages, States}
use Rattle.contracts.specs.declared.table.Table.{Table}
use Rattle.contracts.specs.Tables.{message_at, messages, state_at, states, table_at}

abbrev pub size_in : List Table → Family → ℕ
size_in ts Contracts = length ts
size_in ts (Messages k) = messages (table_at ts k)
size_in ts (States k) = states (table_at ts k)

abbrev pub name_in : List Table → Family → ℕ → Name
name_in ts Contracts i = (table_at ts i).declaration.name
name_in ts (Messages k) i = (message_at (table_at ts k) i).name
name_in ts (States k) i = state_at (table_at ts k) i

abbrev pub Has : List Table → Family → Type 0
Has ts Contracts = Unit {0}
Has ts (Messages k) = k < length ts
Has ts (States k) = k < length ts

abbrev pub NameOf : List Table → Family → ℕ → Option Name → Type 0
NameOf ts f i r = MatchOption r (size_in ts f ≤ i) (λ x. Has ts f × (i < size_in ts f) × (x ≡ name_in ts f i))
