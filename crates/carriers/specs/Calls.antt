-- What each call of a carrier does to its boxes, and where it is refused.
--   refusal_number e                 the number of a refusal, 30 to 33
--   refusal_text e                   a refusal as it is printed
--   Opened pool bs b l bs'          box b was closed and is open now, with limit l and no message
--   Put bs b m bs'                  box b was open and not full, and has m behind its messages now
--   Taken bs b m bs'                box b was open, m was its first message, and the others are left
--   Closed bs b bs'                 box b was open and is closed now
--   OpenRefused pool bs b l e       opening is refused by e: its reason holds, and none that is tried before it
--   PutRefused, TakeRefused, CloseRefused, AskRefused      the same of the other calls
--   Opens pool bs b l r bs'         opening box b with limit l answers r and leaves bs': one of the two above
--   Puts, Takes, Closes             the same of the other calls
--   Counts bs b r, Slacks bs b r    the question answers r
-- In an accepted call every box but b is as it was, in a refused one every box.
use Rattle.std.specs.Prelude.{◌≡◌, ℕ, ◌+◌, ◌-◌, ◌<◌, ◌≤◌, true, false, List, [], ◌∷◌, ◌++◌, length, drop, Ok, Err, Result, codes, decimal, slice_set}
use Rattle.carriers.specs.declared.message.Message.{Message}
use Rattle.carriers.specs.declared.refusal.CarrierRefusal.{CarrierRefusal}
use Rattle.carriers.specs.declared.refusal.CarrierRefusal.TheVariants.{OutOfRange, OpenOrClosed, FullOrEmpty, NoSpare}
use Rattle.carriers.specs.Boxes.{Box, closed, holding, is_open, limit_of, queue_of, box_at, all_limits, Ranged}

abbrev pub refusal_number : CarrierRefusal → ℕ
refusal_number OutOfRange = 30
refusal_number OpenOrClosed = 31
refusal_number FullOrEmpty = 32
refusal_number NoSpare = 33

abbrev pub refusal_text : CarrierRefusal → List ℕ
refusal_text e = codes "refused " ++ decimal (refusal_number e)

pub record Opened (pool : ℕ) (bs : List Box) (b l : ℕ) (bs' : List Box) : Type 0 where
  pub numbered : b < 64
  pub low : l ≤ 15
  pub was_closed : is_open (box_at bs b) ≡ false
  pub room : all_limits bs + l ≤ pool
  pub after : bs' ≡ slice_set bs b (holding l [])

pub record Put (bs : List Box) (b : ℕ) (m : Message) (bs' : List Box) : Type 0 where
  pub numbered : b < 64
  pub ranged : Ranged m
  pub was_open : is_open (box_at bs b) ≡ true
  pub room : length (queue_of (box_at bs b)) < limit_of (box_at bs b)
  pub after : bs' ≡ slice_set bs b (holding (limit_of (box_at bs b)) (queue_of (box_at bs b) ++ m ∷ []))

pub record Taken (bs : List Box) (b : ℕ) (m : Message) (bs' : List Box) : Type 0 where
  pub numbered : b < 64
  pub was_open : is_open (box_at bs b) ≡ true
  pub first : queue_of (box_at bs b) ≡ m ∷ drop 1 (queue_of (box_at bs b))
  pub after : bs' ≡ slice_set bs b (holding (limit_of (box_at bs b)) (drop 1 (queue_of (box_at bs b))))

pub record Closed (bs : List Box) (b : ℕ) (bs' : List Box) : Type 0 where
  pub numbered : b < 64
  pub was_open : is_open (box_at bs b) ≡ true
  pub after : bs' ≡ slice_set bs b closed

abbrev pub OpenRefused : ℕ → List Box → ℕ → ℕ → CarrierRefusal → Type 0
OpenRefused pool bs b l OutOfRange = (b < 64) × (l ≤ 15) → ⊥
OpenRefused pool bs b l OpenOrClosed = (b < 64) × (l ≤ 15) × (is_open (box_at bs b) ≡ true)
OpenRefused pool bs b l FullOrEmpty = ⊥
OpenRefused pool bs b l NoSpare = (b < 64) × (l ≤ 15) × (is_open (box_at bs b) ≡ false) × (pool < all_limits bs + l)

abbrev pub PutRefused : List Box → ℕ → Message → CarrierRefusal → Type 0
PutRefused bs b m OutOfRange = (b < 64) × Ranged m → ⊥
PutRefused bs b m OpenOrClosed = (b < 64) × Ranged m × (is_open (box_at bs b) ≡ false)
PutRefused bs b m FullOrEmpty =
    (b < 64) × Ranged m × (is_open (box_at bs b) ≡ true) × (length (queue_of (box_at bs b)) ≡ limit_of (box_at bs b))
PutRefused bs b m NoSpare = ⊥

abbrev pub TakeRefused : List Box → ℕ → CarrierRefusal → Type 0
TakeRefused bs b OutOfRange = b < 64 → ⊥
TakeRefused bs b OpenOrClosed = (b < 64) × (is_open (box_at bs b) ≡ false)
TakeRefused bs b FullOrEmpty = (b < 64) × (is_open (box_at bs b) ≡ true) × (queue_of (box_at bs b) ≡ [])
TakeRefused bs b NoSpare = ⊥

abbrev pub CloseRefused : List Box → ℕ → CarrierRefusal → Type 0
CloseRefused bs b OutOfRange = b < 64 → ⊥
CloseRefused bs b OpenOrClosed = (b < 64) × (is_open (box_at bs b) ≡ false)
CloseRefused bs b FullOrEmpty = ⊥
CloseRefused bs b NoSpare = ⊥

-- count and slack
abbrev pub AskRefused : ℕ → CarrierRefusal → Type 0
AskRefused b OutOfRange = b < 64 → ⊥
AskRefused b OpenOrClosed = ⊥
AskRefused b FullOrEmpty = ⊥
AskRefused b NoSpare = ⊥

abbrev pub Opens : {T : Type 0} → ℕ → List Box → ℕ → ℕ → Result T CarrierRefusal → List Box → Type 0
Opens pool bs b l (Ok x) bs' = Opened pool bs b l bs'
Opens pool bs b l (Err e) bs' = OpenRefused pool bs b l e × (bs' ≡ bs)

abbrev pub Puts : {T : Type 0} → List Box → ℕ → Message → Result T CarrierRefusal → List Box → Type 0
Puts bs b m (Ok x) bs' = Put bs b m bs'
Puts bs b m (Err e) bs' = PutRefused bs b m e × (bs' ≡ bs)

abbrev pub Takes : List Box → ℕ → Result Message CarrierRefusal → List Box → Type 0
Takes bs b (Ok m) bs' = Taken bs b m bs'
Takes bs b (Err e) bs' = TakeRefused bs b e × (bs' ≡ bs)

abbrev pub Closes : {T : Type 0} → List Box → ℕ → Result T CarrierRefusal → List Box → Type 0
Closes bs b (Ok x) bs' = Closed bs b bs'
Closes bs b (Err e) bs' = CloseRefused bs b e × (bs' ≡ bs)

abbrev pub Counts : List Box → ℕ → Result ℕ CarrierRefusal → Type 0
Counts bs b (Ok n) = (b < 64) × (n ≡ length (queue_of (box_at bs b)))
Counts bs b (Err e) = AskRefused b e

abbrev pub Slacks : List Box → ℕ → Result ℕ CarrierRefusal → Type 0
Slacks bs b (Ok n) = (b < 64) × (n ≡ limit_of (box_at bs b) - length (queue_of (box_at bs b)))
Slacks bs b (Err e) = AskRefused b e
