-- What holds of the contracts of every accepted set.
--   Deterministic t        at most one move for each state and message
--   Ranged t               the numbers of each move are declared
--   other d                the mark that d is not
--   RowsWithin t           a row of moves with one mark is at most as long as the longest
--   Together t             the two bounds of a contract are together at most 16
--   SendStates ts t        a message of t that carries an end names a declared contract and a declared state in which that end may send
--   TogetherOf ts k d r    the bound r, of contract k and the mark d, is at most 16 together with the other bound
use Rattle.std.specs.Prelude.{◌≡◌, ℕ, ◌+◌, ◌<◌, ◌≤◌, List, length, IfSome, Option}
use Rattle.syntax.specs.declared.tree.Mark.{Mark}
use Rattle.syntax.specs.declared.tree.Mark.TheVariants.{Out, In}
use Rattle.syntax.specs.declared.tree.Role.{Role}
use Rattle.contracts.specs.declared.declaration.Payload.TheVariants.{End}
use Rattle.contracts.specs.declared.table.Table.{Table}
use Rattle.contracts.specs.Moves.{Goes}
use Rattle.contracts.specs.Paths.{Longest, Path}
use Rattle.contracts.specs.Rules.{MaySend, OneWay}
use Rattle.contracts.specs.Tables.{messages, payload_of, states, table_at}
use Rattle.syntax.specs.Roles.{sends}

abbrev pub Deterministic : Table → Type 0
Deterministic t = (s m u v : ℕ) → Goes t.moves s m u → Goes t.moves s m v → u ≡ v

abbrev pub Ranged : Table → Type 0
Ranged t = (s m u : ℕ) → Goes t.moves s m u → (s < states t) × (m < messages t) × (u < states t)

abbrev pub other : Mark → Mark
other Out = In
other In = Out

abbrev pub RowsWithin : Table → Type 0
RowsWithin t = (d : Mark) (b : ℕ) → Longest (OneWay t d) b → (s u n : ℕ) → Path (OneWay t d) s u n → n ≤ b

abbrev pub Together : Table → Type 0
Together t = (d : Mark) (b c : ℕ) → Longest (OneWay t d) b → Longest (OneWay t (other d)) c → b + c ≤ 16

abbrev pub SendStates : List Table → Table → Type 0
SendStates ts t =
    (m : ℕ) (role : Role) (c s : ℕ) → m < messages t → payload_of t m ≡ End role c s
    → (c < length ts) × (s < states (table_at ts c)) × ∥ MaySend (table_at ts c) (sends role) s ∥₁

abbrev pub TogetherOf : List Table → ℕ → Mark → Option ℕ → Type 0
TogetherOf ts k d r = IfSome r (λ b. (c : ℕ) → Longest (OneWay (table_at ts k) (other d)) c → b + c ≤ 16)
