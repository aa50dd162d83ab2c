-- The messages of 64 boxes, q b in box b.
--   all_waiting q         how many messages wait in all boxes together
--   Within ls q           no box has more messages than its limit in ls
--   Room pool q b l m     m is in its range, box b has fewer than l messages, and all boxes together fewer than pool
--   Others q b q'         the messages q' of every box but b are those of q
use Rattle.std.specs.Prelude.{◌≡◌, ℕ, ◌<◌, ◌≤◌, ◌≢◌, List, map, length, None, sum, Option, slice_index_or}
use Rattle.std.specs.List.{range_with_len}
use Rattle.carriers.specs.declared.message.Message.{Message}
use Rattle.carriers.specs.Boxes.{Ranged}
use Rattle.carriers.specs.Limits.{limit_in}

unfoldable pub all_waiting : (ℕ → List Message) → ℕ
all_waiting q = sum (map (λ b. length (q b)) (range_with_len 0 64))

abbrev pub Within : List (Option ℕ) → (ℕ → List Message) → Type 0
Within ls q = (b : ℕ) → b < 64 → length (q b) ≤ limit_in (slice_index_or ls b None)

abbrev pub Room : ℕ → (ℕ → List Message) → ℕ → ℕ → Message → Type 0
Room pool q b l m = Ranged m × (length (q b) < l) × (all_waiting q < pool)

abbrev pub Others : (ℕ → List Message) → ℕ → (ℕ → List Message) → Type 0
Others q b q' = (a : ℕ) → a < 64 → (a ≢ b) → q' a ≡ q a
