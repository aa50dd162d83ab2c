-- What a carrier means: 64 boxes, each closed, or open with a limit and the messages that wait in it.
--   Box                 closed, or holding a list of messages, first to last, under a limit
--   is_open x            whether a box is open
--   limit_of x           the limit of an open box; 0 of a closed one
--   queue_of x           the messages of an open box; none of a closed one
--   box_at bs b          box b of bs
--   all_limits bs        the limits of all open boxes together
--   Slot p              a payload is none, or a slot from 0 to 63
--   Ranged m            a message's number is 0 to 15, and its payload none or a slot
--   Fits x              a limit of at most 15, no more messages than the limit, each in its range
--   Kept pool bs        what the boxes of every carrier with this pool keep
use Rattle.std.specs.Prelude.{◌≡◌, ℕ, ◌<◌, ◌≤◌, Bool, true, false, List, [], length, Some, None, sum_by, Option, slice_index_or}
use Rattle.std.specs.List.{AllByRecursion}
use Rattle.carriers.specs.declared.message.Message.{Message}

pub data Box : Type 0 where
  closed : Box
  holding : ℕ → List Message → Box

abbrev pub is_open : Box → Bool
is_open closed = false
is_open (holding l ms) = true

abbrev pub limit_of : Box → ℕ
limit_of closed = 0
limit_of (holding l ms) = l

abbrev pub queue_of : Box → List Message
queue_of closed = []
queue_of (holding l ms) = ms

abbrev pub box_at : List Box → ℕ → Box
box_at bs b = slice_index_or bs b closed

abbrev pub all_limits : List Box → ℕ
all_limits bs = sum_by limit_of bs

abbrev pub Slot : Option ℕ → Type 0
Slot None = Unit {0}
Slot (Some s) = s < 64

abbrev pub Ranged : Message → Type 0
Ranged m = (m.number < 16) × Slot m.payload

pub record Fits (x : Box) : Type 0 where
  pub low : limit_of x ≤ 15
  pub few : length (queue_of x) ≤ limit_of x
  pub ranged : AllByRecursion Ranged (queue_of x)

pub record Kept (pool : ℕ) (bs : List Box) : Type 0 where
  pub count : length bs ≡ 64
  pub each : (b : ℕ) → Fits (box_at bs b)
  pub together : all_limits bs ≤ pool
