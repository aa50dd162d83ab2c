-- The messages in the cells of chains.
--   blank                     the message in a cell that was never used
--   slot_test p, ranged_test m  whether a payload is none or a slot; whether a message is in its range
--   AllRanged ms              every cell holds a message in its range, used or not
--   waiting ms c b            the messages in the cells of chain b
use Rattle.std.specs.Prelude.{◌≡◌, ℕ, Bool, true, ◌&&◌, List, map, get_or, Some, None, Option, nat_lt, slice_index_or}
use Rattle.std.specs.List.{range_with_len}
use Rattle.carriers.specs.declared.message.Message.{Message}
use Rattle.chained.specs.declared.links.Links.{Links}
use Rattle.chained.specs.Chains.{count_of, cell}

abbrev pub blank : Message
blank = record { number = 0; payload = None }

abbrev pub slot_test : Option ℕ → Bool
slot_test None = true
slot_test (Some s) = nat_lt s 64

abbrev pub ranged_test : Message → Bool
ranged_test m = nat_lt m.number 16 && slot_test m.payload

abbrev pub AllRanged : List Message → Type 0
AllRanged ms = (i : ℕ) → ranged_test (slice_index_or ms i blank) ≡ true

abbrev pub waiting : List Message → Links → ℕ → List Message
waiting ms c b = map (λ k. get_or ms (cell c.tables b k) blank) (range_with_len 0 (count_of c.tables b))
