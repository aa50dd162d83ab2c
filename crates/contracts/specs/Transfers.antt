-- Ends that messages carry.
--   SendState tables role c s   c is a contract and s a state of it in which that end may send
--   Sendable tables p           p may be carried: an end only in a state in which it may send
--   Lawful tables t             what the messages of t carry may be carried
--   SilentEnd tables t m        the message m of t carries an end in a state in which that end may not send
use Rattle.std.specs.Prelude.{ℕ, ◌<◌, List, length}
use Rattle.syntax.specs.declared.tree.Role.{Role}
use Rattle.syntax.specs.Roles.{sends}
use Rattle.contracts.specs.declared.declaration.Payload.{Payload}
use Rattle.contracts.specs.declared.declaration.Payload.TheVariants.{Nothing, Block, End}
use Rattle.contracts.specs.declared.table.Table.{Table}
use Rattle.contracts.specs.Rules.{MaySend}
use Rattle.contracts.specs.Tables.{table_at, payload_of, messages, states}

abbrev pub SendState : List Table → Role → ℕ → ℕ → Type 0
SendState tables role c s = (c < length tables) × (s < states (table_at tables c)) × MaySend (table_at tables c) (sends role) s

abbrev pub Sendable : List Table → Payload → Type 0
Sendable tables Nothing = Unit {0}
Sendable tables Block = Unit {0}
Sendable tables (End role contract state) = SendState tables role contract state

abbrev pub Lawful : List Table → Table → Type 0
Lawful tables t = (m : ℕ) → m < messages t → ∥ Sendable tables (payload_of t m) ∥₁

abbrev pub SilentEnd : List Table → Table → ℕ → Type 0
SilentEnd tables t m = (m < messages t) × (Sendable tables (payload_of t m) → ⊥)
