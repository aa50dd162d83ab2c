-- The limits of boxes, drawn from one pool: none of a closed box, some of an open one.
--   limit_in o                        the limit, 0 where there is none
--   allotted ls                      all limits together
--   Low ls                           no limit is above 15
--   Few ls ns                        no box has more messages than its limit, where ns has their numbers
--   Drawn ls s b l ls' s'            box b had no limit and has l now, which was drawn from the spare s
--   Returned ls s b ls' s'           box b had a limit, which is back in the spare
--   DrawRefused ls s b l e           drawing is refused by e: its reason holds, and none that is tried before it
--   ClosedRefused b o e              what asks for an open box is refused by e, where box b has the limit o
use Rattle.std.specs.Prelude.{◌≡◌, ℕ, ◌+◌, ◌<◌, ◌≤◌, List, get_or, Some, None, sum_by, Option, slice_index, slice_index_or, slice_set}
use Rattle.carriers.specs.declared.refusal.CarrierRefusal.{CarrierRefusal}
use Rattle.carriers.specs.declared.refusal.CarrierRefusal.TheVariants.{OutOfRange, OpenOrClosed, FullOrEmpty, NoSpare}

abbrev pub limit_in : Option ℕ → ℕ
limit_in None = 0
limit_in (Some l) = l

abbrev pub allotted : List (Option ℕ) → ℕ
allotted ls = sum_by limit_in ls

abbrev pub Low : List (Option ℕ) → Type 0
Low ls = (b : ℕ) → limit_in (slice_index_or ls b None) ≤ 15

abbrev pub Few : List (Option ℕ) → List ℕ → Type 0
Few ls ns = (b : ℕ) → b < 64 → slice_index ns b ≤ limit_in (slice_index_or ls b None)

pub record Drawn (ls : List (Option ℕ)) (s b l : ℕ) (ls' : List (Option ℕ)) (s' : ℕ) : Type 0 where
  pub numbered : b < 64
  pub low : l ≤ 15
  pub was_closed : get_or ls b None ≡ None
  pub after : ls' ≡ slice_set ls b (Some l)
  pub left : s' + l ≡ s

pub record Returned (ls : List (Option ℕ)) (s b : ℕ) (ls' : List (Option ℕ)) (s' : ℕ) : Type 0 where
  pub numbered : b < 64
  pub was_open : get_or ls b None ≡ Some (limit_in (slice_index_or ls b None))
  pub after : ls' ≡ slice_set ls b None
  pub left : s' ≡ s + limit_in (slice_index_or ls b None)

abbrev pub DrawRefused : List (Option ℕ) → ℕ → ℕ → ℕ → CarrierRefusal → Type 0
DrawRefused ls s b l OutOfRange = (b < 64) × (l ≤ 15) → ⊥
DrawRefused ls s b l OpenOrClosed = (b < 64) × (l ≤ 15) × (slice_index_or ls b None ≡ Some (limit_in (slice_index_or ls b None)))
DrawRefused ls s b l FullOrEmpty = ⊥
DrawRefused ls s b l NoSpare = (b < 64) × (l ≤ 15) × (slice_index_or ls b None ≡ None) × (s < l)

abbrev pub ClosedRefused : ℕ → Option ℕ → CarrierRefusal → Type 0
ClosedRefused b o OutOfRange = b < 64 → ⊥
ClosedRefused b o OpenOrClosed = (b < 64) × (o ≡ None)
ClosedRefused b o FullOrEmpty = ⊥
ClosedRefused b o NoSpare = ⊥
