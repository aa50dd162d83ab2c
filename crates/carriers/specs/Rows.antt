-- Messages as bytes: a row of 15 places of two bytes, in which a list may begin anywhere and goes on at the front behind
-- the last place.
--   byte_of p                   the byte of a payload: its slot, 255 for none
--   payload_of s                the payload that a byte stands for
--   slot_byte s                 whether a byte is a slot or 255
--   place_of f k                the place of the k-th message of a list that begins at place f
--   message_at bytes i          the message at place i
--   queued n f bytes            the messages of a row that has n of them, the first at place f
--   Legible bytes               each pair of bytes is a message in its range
use Rattle.std.specs.Prelude.{◌≡◌, ℕ, ◌+◌, ◌-◌, ◌*◌, ◌<◌, Bool, true, cond, ◌||◌, List, map, Some, None, Option, ◌==◌, nat_lt, slice_index}
use Rattle.std.specs.List.{range_with_len}
use Rattle.carriers.specs.declared.message.Message.{Message}

abbrev pub byte_of : Option ℕ → ℕ
byte_of None = 255
byte_of (Some s) = s

abbrev pub payload_of : ℕ → Option ℕ
payload_of s = cond (s == 255) None (Some s)

abbrev pub slot_byte : ℕ → Bool
slot_byte s = nat_lt s 64 || s == 255

abbrev pub place_of : ℕ → ℕ → ℕ
place_of f k = cond (nat_lt (f + k) 15) (f + k) (f + k - 15)

abbrev pub message_at : List ℕ → ℕ → Message
message_at bytes i = record { number = slice_index bytes (2 * i); payload = payload_of (slice_index bytes (2 * i + 1)) }

abbrev pub queued : ℕ → ℕ → List ℕ → List Message
queued n f bytes = map (λ k. message_at bytes (place_of f k)) (range_with_len 0 n)

abbrev pub Legible : List ℕ → Type 0
Legible bytes = (p : ℕ) → (slice_index bytes (2 * p) < 16) × (slot_byte (slice_index bytes (2 * p + 1)) ≡ true)
