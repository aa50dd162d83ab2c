-- Contracts as tables, by their numbers.
--   table_at tables k      the table of contract k
--   messages t, states t  how many messages and states it declares
--   message_at t m         its message m
--   state_at t s           the name of its state s
--   mark_of t m            the mark of its message m
--   payload_of t m         what its message m carries
use Rattle.std.specs.Prelude.{◌≡◌, ℕ, List, [], length, Some, None, Option, slice_index_or}
use Rattle.std.proofs.Common.{arith}
use Rattle.words.specs.declared.name.Name.{Name}
use Rattle.syntax.specs.declared.tree.Mark.{Mark}
use Rattle.contracts.specs.declared.declaration.Message.{Message}
use Rattle.contracts.specs.declared.declaration.Payload.{Payload}
use Rattle.contracts.specs.declared.table.Table.{Table}
use Rattle.contracts.specs.Numbers.{messages_in, no_name, quiet, states_in, undeclared}

-- no move leads from a place that is empty
pub nowhere : (u : ℕ) → ◌≡◌ {A = Option ℕ} None (Some u) → ⊥
nowhere u e = let z : ◌≡◌ {A = ℕ} 0 1 = cc in omega arith

-- a table with no state, which stands past the last
abbrev pub blank : Table
blank = record {
  declaration = undeclared;
  moves = [];
  declared = λ v. absurd (nowhere v.to v.goes);
}

abbrev pub table_at : List Table → ℕ → Table
table_at tables k = slice_index_or tables k blank

abbrev pub messages : Table → ℕ
messages t = length (messages_in t.declaration)

abbrev pub states : Table → ℕ
states t = length (states_in t.declaration)

abbrev pub message_at : Table → ℕ → Message
message_at t m = slice_index_or (messages_in t.declaration) m quiet

abbrev pub state_at : Table → ℕ → Name
state_at t s = slice_index_or (states_in t.declaration) s no_name

abbrev pub mark_of : Table → ℕ → Mark
mark_of t m = (message_at t m).mark

abbrev pub payload_of : Table → ℕ → Payload
payload_of t m = (message_at t m).payload
