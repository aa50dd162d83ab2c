-- The rules that a contract keeps on its own, over its table.
--   Among w x          a message with the mark x is among those meant: any, or those with one mark
--   Along t w s u      some move by a message among those meant leads from s to u
--   OneWay t d s u     some move with the mark d leads from s to u
--   AnyWay t s u       some move leads from s to u
--   MaySend t d s      the state s has a move with the mark d, so the end that sends these messages may send there
--   Positional t       the moves of a state have one mark
--   Reachable t        every state can be reached from state 0
--   Synchronising t    no one-way cycle: every cycle has moves of both marks
--   Ruled t            t has a state and keeps the three rules
--   Unreached t s      the state s cannot be reached from state 0
--   Cycling t s        the state s lies on a one-way cycle
--   First P i          i is the first number at which P holds
--   Never P            P holds at no number
use Rattle.std.specs.Prelude.{◌≡◌, ℕ, ◌<◌, Some, None, Option}
use Rattle.syntax.specs.declared.tree.Mark.{Mark}
use Rattle.syntax.specs.declared.tree.Mark.TheVariants.{Out, In}
use Rattle.contracts.specs.declared.table.Table.{Table}
use Rattle.contracts.specs.Moves.{Goes}
use Rattle.contracts.specs.Paths.{Leads, OnCycle}
use Rattle.contracts.specs.Tables.{mark_of, states}

abbrev pub Among : Option Mark → Mark → Type 0
Among None x = Unit {0}
Among (Some d) x = x ≡ d

abbrev pub Along : Table → Option Mark → ℕ → ℕ → Type 0
Along t w s u = (m : ℕ) × Among w (mark_of t m) × Goes t.moves s m u

abbrev pub OneWay : Table → Mark → ℕ → ℕ → Type 0
OneWay t d = Along t (Some d)

abbrev pub AnyWay : Table → ℕ → ℕ → Type 0
AnyWay t = Along t None

abbrev pub MaySend : Table → Mark → ℕ → Type 0
MaySend t d s = (u : ℕ) × OneWay t d s u

abbrev pub Positional : Table → Type 0
Positional t = (s : ℕ) → MaySend t Out s → MaySend t In s → ⊥

abbrev pub Reachable : Table → Type 0
Reachable t = (s : ℕ) → s < states t → ∥ Leads (AnyWay t) 0 s ∥₁

abbrev pub Synchronising : Table → Type 0
Synchronising t = (d : Mark) (s : ℕ) → OnCycle (OneWay t d) s → ⊥

pub record Ruled (t : Table) : Type 0 where
  pub inhabited : 0 < states t
  pub positional : Positional t
  pub reachable : Reachable t
  pub synchronising : Synchronising t

abbrev pub Unreached : Table → ℕ → Type 0
Unreached t s = (s < states t) × (Leads (AnyWay t) 0 s → ⊥)

abbrev pub Cycling : Table → ℕ → Type 0
Cycling t s = (s < states t) × ((d : Mark) × OnCycle (OneWay t d) s)

abbrev pub First : (ℕ → Type 0) → ℕ → Type 0
First P i = P i × ((k : ℕ) → k < i → P k → ⊥)

abbrev pub Never : (ℕ → Type 0) → Type 0
Never P = (i : ℕ) → P i → ⊥
