-- What code above any carrier may use: the boxes after a call, where a call is not refused, and what every box keeps.
use Rattle.std.proofs.Common.{◌≡◌, ℕ, ◌+◌, ◌<◌, ◌≤◌, true, false, ◌≢◌, List, [], ◌∷◌, ◌++◌, length, drop, set, sym, refl, ap, ◌∙◌, subst, arith}
use Rattle.std.specs.List.{AllByRecursion}
use Rattle.std.proofs.lemmas.List.{get_or-set_same, get_or-set_other, length-set, length_push}
use Rattle.std.proofs.lemmas.Bool.{both_ways}
use Rattle.carriers.specs.declared.message.Message.{Message}
use Rattle.carriers.specs.declared.refusal.CarrierRefusal.{CarrierRefusal}
use Rattle.carriers.specs.declared.refusal.CarrierRefusal.TheVariants.{OutOfRange, OpenOrClosed, FullOrEmpty, NoSpare}
use Rattle.carriers.specs.Boxes.{Box, closed, holding, is_open, limit_of, queue_of, box_at, all_limits, Ranged, Kept}
use Rattle.carriers.specs.Calls.{Opened, Put, Taken, Closed, OpenRefused, PutRefused, TakeRefused, CloseRefused}

-- Boxes of which one was replaced: that one, and any other.
pub box_here : (bs bs' : List Box) (b : ℕ) (x : Box) → length bs ≡ 64 → b < 64 → bs' ≡ set bs b x → box_at bs' b ≡ x
box_here bs bs' b x long numbered e =
    let inside : b < length bs = omega arith in ap (λ zs. box_at zs b) e ∙ get_or-set_same bs b x closed inside

pub box_other : (bs bs' : List Box) (b a : ℕ) (x : Box) → a ≢ b → bs' ≡ set bs b x → box_at bs' a ≡ box_at bs a
box_other bs bs' b a x ne e = ap (λ zs. box_at zs a) e ∙ get_or-set_other bs b a x closed ne

pub boxes_length : (bs bs' : List Box) (b : ℕ) (x : Box) → bs' ≡ set bs b x → length bs' ≡ length bs
boxes_length bs bs' b x e = ap length e ∙ length-set bs b x

-- A box that has a limit above 0, or messages, is open.
pub open_by_limit : (x : Box) → 0 < limit_of x → is_open x ≡ true
open_by_limit closed h = absurd (omega arith)
open_by_limit (holding l ms) h = refl

pub open_by_queue : (x : Box) (m : Message) (ms : List Message) → queue_of x ≡ m ∷ ms → is_open x ≡ true
open_by_queue closed m ms e = absurd (omega (arith, ap length e))
open_by_queue (holding l ks) m ms e = refl

-- What every box keeps.
pub queue_within_limit : (pool : ℕ) (bs : List Box) (b : ℕ) → Kept pool bs → length (queue_of (box_at bs b)) ≤ limit_of (box_at bs b)
queue_within_limit pool bs b kept = (kept.each b).few

pub limit_within_15 : (pool : ℕ) (bs : List Box) (b : ℕ) → Kept pool bs → limit_of (box_at bs b) ≤ 15
limit_within_15 pool bs b kept = (kept.each b).low

-- Each call: its box after it.
module _ (pool : ℕ) (bs : List Box) (kept : Kept pool bs) where
  pub opened_here : (b l : ℕ) (bs' : List Box) → Opened pool bs b l bs' → box_at bs' b ≡ holding l []
  opened_here b l bs' d = box_here bs bs' b (holding l []) kept.count d.numbered d.after

  pub put_here : (b : ℕ) (m : Message) (bs' : List Box) → Put bs b m bs' → box_at bs' b ≡ holding (limit_of (box_at bs b)) (queue_of (box_at bs b) ++ m ∷ [])
  put_here b m bs' d = box_here bs bs' b _ kept.count d.numbered d.after

  pub put_length : (b : ℕ) (m : Message) (bs' : List Box) → Put bs b m bs' → length (queue_of (box_at bs' b)) ≡ length (queue_of (box_at bs b)) + 1
  put_length b m bs' d = ap (λ x. length (queue_of x)) (put_here b m bs' d) ∙ length_push (queue_of (box_at bs b)) m

  pub taken_here : (b : ℕ) (m : Message) (bs' : List Box) → Taken bs b m bs' → box_at bs' b ≡ holding (limit_of (box_at bs b)) (drop 1 (queue_of (box_at bs b)))
  taken_here b m bs' d = box_here bs bs' b _ kept.count d.numbered d.after

  pub taken_ranged : (b : ℕ) (m : Message) (bs' : List Box) → Taken bs b m bs' → Ranged m
  taken_ranged b m bs' d = (subst (AllByRecursion Ranged) d.first (kept.each b).ranged).0

  pub closed_here : (b : ℕ) (bs' : List Box) → Closed bs b bs' → box_at bs' b ≡ closed
  closed_here b bs' d = box_here bs bs' b closed kept.count d.numbered d.after

-- Each call: every other box after it.
pub opened_other : (pool : ℕ) (bs : List Box) (b l : ℕ) (bs' : List Box) (a : ℕ) → a ≢ b → Opened pool bs b l bs' → box_at bs' a ≡ box_at bs a
opened_other pool bs b l bs' a ne d = box_other bs bs' b a _ ne d.after

pub put_other : (bs : List Box) (b : ℕ) (m : Message) (bs' : List Box) (a : ℕ) → a ≢ b → Put bs b m bs' → box_at bs' a ≡ box_at bs a
put_other bs b m bs' a ne d = box_other bs bs' b a _ ne d.after

pub taken_other : (bs : List Box) (b : ℕ) (m : Message) (bs' : List Box) (a : ℕ) → a ≢ b → Taken bs b m bs' → box_at bs' a ≡ box_at bs a
taken_other bs b m bs' a ne d = box_other bs bs' b a _ ne d.after

pub closed-other : (bs : List Box) (b : ℕ) (bs' : List Box) (a : ℕ) → a ≢ b → Closed bs b bs' → box_at bs' a ≡ box_at bs a
closed-other bs b bs' a ne d = box_other bs bs' b a _ ne d.after

-- Where a call is not refused.
pub open_not_refused : (pool : ℕ) (bs : List Box) (b l : ℕ) (e : CarrierRefusal) → b < 64 → l ≤ 15 → is_open (box_at bs b) ≡ false → all_limits bs + l ≤ pool → OpenRefused pool bs b l e → ⊥
open_not_refused pool bs b l OutOfRange numbered low shut room w = w (numbered, low)
open_not_refused pool bs b l OpenOrClosed numbered low shut room w = both_ways (is_open (box_at bs b)) shut w.2
open_not_refused pool bs b l FullOrEmpty numbered low shut room w = w
open_not_refused pool bs b l NoSpare numbered low shut room w = omega (arith, w.3)

pub put_not_refused : (bs : List Box) (b : ℕ) (m : Message) (e : CarrierRefusal) → b < 64 → Ranged m → length (queue_of (box_at bs b)) < limit_of (box_at bs b) → PutRefused bs b m e → ⊥
put_not_refused bs b m OutOfRange numbered ranged room w = w (numbered, ranged)
put_not_refused bs b m OpenOrClosed numbered ranged room w =
    both_ways (is_open (box_at bs b)) w.2 (open_by_limit (box_at bs b) (omega arith))
put_not_refused bs b m FullOrEmpty numbered ranged room w = omega (arith, w.3)
put_not_refused bs b m NoSpare numbered ranged room w = w

pub take_not_refused : (bs : List Box) (b : ℕ) (m : Message) (ms : List Message) (e : CarrierRefusal) → b < 64 → queue_of (box_at bs b) ≡ m ∷ ms → TakeRefused bs b e → ⊥
take_not_refused bs b m ms OutOfRange numbered some w = w numbered
take_not_refused bs b m ms OpenOrClosed numbered some w =
    both_ways (is_open (box_at bs b)) w.1 (open_by_queue (box_at bs b) m ms some)
take_not_refused bs b m ms FullOrEmpty numbered some w = omega (arith, ap length (sym some ∙ w.2))
take_not_refused bs b m ms NoSpare numbered some w = w

pub close_not_refused : (bs : List Box) (b : ℕ) (e : CarrierRefusal) → b < 64 → is_open (box_at bs b) ≡ true → CloseRefused bs b e → ⊥
close_not_refused bs b OutOfRange numbered o w = w numbered
close_not_refused bs b OpenOrClosed numbered o w = both_ways (is_open (box_at bs b)) w.1 o
close_not_refused bs b FullOrEmpty numbered o w = w
close_not_refused bs b NoSpare numbered o w = w
