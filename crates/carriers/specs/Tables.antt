-- Boxes told by two tables: the limits of the open ones, and the messages of each.
--   box_from o ms        closed where there is no limit, else holding ms under it
--   boxes_from ls q      the 64 boxes with the limits ls and the messages q b in box b
use Rattle.std.specs.Prelude.{ℕ, List, map, Some, None, Option, slice_index_or}
use Rattle.std.specs.List.{range_with_len}
use Rattle.carriers.specs.declared.message.Message.{Message}
use Rattle.carriers.specs.Boxes.{Box, closed, holding}

abbrev pub box_from : Option ℕ → List Message → Box
box_from None ms = closed
box_from (Some l) ms = holding l ms

unfoldable pub boxes_from : List (Option ℕ) → (ℕ → List Message) → List Box
boxes_from ls q = map (λ b. box_from (slice_index_or ls b None) (q b)) (range_with_len 0 64)
