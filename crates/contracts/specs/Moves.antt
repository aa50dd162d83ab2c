-- The moves of a contract as rows of targets: a row for each state, and in it a place for each message.
--   target_in moves s m      where the state s goes by the message m, if it has a move for it
--   Goes moves s m u         the state s has a move for the message m, to u
--   Move moves               a move: from a state by a message to a state
--   Declared ms ss moves     each move is between two of ss states, and by one of ms messages
use Rattle.std.specs.Prelude.{◌≡◌, ℕ, ◌<◌, List, [], Some, None, Option, slice_index_or}

abbrev pub target_in : List (List (Option ℕ)) → ℕ → ℕ → Option ℕ
target_in moves s m = slice_index_or (slice_index_or moves s []) m None

abbrev pub Goes : List (List (Option ℕ)) → ℕ → ℕ → ℕ → Type 0
Goes moves s m u = target_in moves s m ≡ Some u

pub record Move (moves : List (List (Option ℕ))) : Type 0 where
  pub from : ℕ
  pub by : ℕ
  pub to : ℕ
  pub goes : Goes moves from by to

abbrev pub Declared : ℕ → ℕ → List (List (Option ℕ)) → Type 0
Declared messages states moves =
    (v : Move moves) → (v.from < states) × (v.by < messages) × (v.to < states)
