-- What is said to hold, no matter how it is shown, of an instruction, holds of it.
--   below, at_most, bare, laden     what is not refuted holds: an order of numbers, a payload or none
--   lands                           a jump that is not refuted leads to where it may
--   opened                          an instruction of which no more than that is said is runnable
--   jump_lands                      a runnable jump leads to where it may
use Rattle.std.proofs.Common.{◌≡◌, ℕ, ◌<◌, List, length, ℤ, pos, negsuc, ◌+ℤ◌, ◌≤ℤ◌, Some, subst, inl, inr, arith}
use mathlib.Core.HLevel.{⊥_prop}
use mathlib.Core.Logic.{∥∥₁_elim}
use Rattle.std.proofs.lemmas.Int.{by_lt_z, ints}
use Rattle.std.proofs.lemmas.Bool.{cases_lt}
use Rattle.contracts.specs.declared.declaration.Payload.{Payload}
use Rattle.contracts.specs.declared.declaration.Payload.TheVariants as p
use Rattle.contracts.specs.declared.table.Table.{Table}
use Rattle.contracts.specs.Tables.{messages, table_at}
use Rattle.scripts.specs.declared.instruction.Instruction.{Instruction}
use Rattle.scripts.specs.declared.instruction.Instruction.TheVariants.{End, New, Put, Free, Open, Close, Send, Pass, Receive, Case, Lost, Jump}
use Rattle.scripts.specs.Jumps.{Lands}
use Rattle.scripts.specs.Kinds.{distance_of}
use Rattle.scripts.specs.Payloads.{Bare, Laden}
use Rattle.scripts.specs.Runnable.{Declared, Far, Runnable}

-- X is not refuted
abbrev pub Unrefuted : Type 0 → Type 0
Unrefuted X = (X → ⊥) → ⊥

pub below : (a b : ℕ) → Unrefuted (a < b) → a < b
below a b h = elim (cases_lt a b) [ inl l ↦ l | inr l ↦ absurd (h (λ m. omega arith)) ]

pub at_most : (a b : ℤ) → Unrefuted (a ≤ℤ b) → a ≤ℤ b
at_most a b h = by_lt_z b a (λ l. absurd (h (λ m. omega (arith, ints)))) (λ l. l)

pub bare : (x : Payload) → Unrefuted (Bare x) → Bare x
bare p.Nothing h = tt
bare p.Block h = h (λ x. x)
bare (p.End role c s) h = h (λ x. x)

pub laden : (x : Payload) → Unrefuted (Laden x) → Laden x
laden p.Nothing h = h (λ x. x)
laden p.Block h = tt
laden (p.End role c s) h = tt

pub lands : (n i : ℕ) (d : ℤ) → Unrefuted (Lands n i d) → Lands n i d
lands n i d h = (at_most (pos 0) (pos i +ℤ d) (λ no. h (λ x. no x.0)), at_most (pos i +ℤ d) (pos n) (λ no. h (λ x. no x.1)))

far : (d : ℤ) → Unrefuted (Far d) → Far d
far d h = (at_most (negsuc 126) d (λ no. h (λ x. no x.0)), at_most d (pos 127) (λ no. h (λ x. no x.1)))

declared : (ts : List Table) (k m : ℕ) → Unrefuted (Declared ts k m) → Declared ts k m
declared ts k m h = (below k (length ts) (λ no. h (λ x. no x.0)), below m (messages (table_at ts k)) (λ no. h (λ x. no x.1)))

-- a part of what is said to hold is not refuted
part : {X Y : Type 0} → ∥ X ∥₁ → (X → Y) → Unrefuted Y
part h f refuted = ∥∥₁_elim h ⊥_prop (λ x. refuted (f x))

pub opened : (ts : List Table) (n i : ℕ) (y : Instruction) → ∥ Runnable ts n i y ∥₁ → Runnable ts n i y
opened ts n i End h = tt
opened ts n i (New r) h = below r 8 (part h (λ x. x))
opened ts n i (Put r k b) h = (below r 8 (part h (λ x. x.0)), below k 64 (part h (λ x. x.1)), below b 256 (part h (λ x. x.2)))
opened ts n i (Free r) h = below r 8 (part h (λ x. x))
opened ts n i (Open k r s) h = (below k (length ts) (part h (λ x. x.0)), below r 8 (part h (λ x. x.1)), below s 8 (part h (λ x. x.2)))
opened ts n i (Close r) h = below r 8 (part h (λ x. x))
opened ts n i (Send e k m) h = (below e 8 (part h (λ x. x.0)), declared ts k m (part h (λ x. x.1)), bare _ (part h (λ x. x.2)))
opened ts n i (Pass e k m t) h = (below e 8 (part h (λ x. x.0)), below t 8 (part h (λ x. x.1)), declared ts k m (part h (λ x. x.2)), laden _ (part h (λ x. x.3)))
opened ts n i (Receive e t) h = (below e 8 (part h (λ x. x.0)), below t 8 (part h (λ x. x.1)))
opened ts n i (Case k m d) h = (declared ts k m (part h (λ x. x.0)), far d (part h (λ x. x.1)), lands n i d (part h (λ x. x.2)))
opened ts n i (Lost d) h = (far d (part h (λ x. x.0)), lands n i d (part h (λ x. x.1)))
opened ts n i (Jump d) h = (far d (part h (λ x. x.0)), lands n i d (part h (λ x. x.1)))

pub jump_lands : (ts : List Table) (n i : ℕ) (y : Instruction) (d : ℤ) → Runnable ts n i y → distance_of y ≡ Some d → Lands n i d
jump_lands ts n i End d h e = absurd (cc)
jump_lands ts n i (New r) d h e = absurd (cc)
jump_lands ts n i (Put r k b) d h e = absurd (cc)
jump_lands ts n i (Free r) d h e = absurd (cc)
jump_lands ts n i (Open k r s) d h e = absurd (cc)
jump_lands ts n i (Close r) d h e = absurd (cc)
jump_lands ts n i (Send f k m) d h e = absurd (cc)
jump_lands ts n i (Pass f k m t) d h e = absurd (cc)
jump_lands ts n i (Receive f t) d h e = absurd (cc)
jump_lands ts n i (Case k m c) d h e = let s : c ≡ d = cc in subst (Lands n i) s h.2
jump_lands ts n i (Lost c) d h e = let s : c ≡ d = cc in subst (Lands n i) s h.1
jump_lands ts n i (Jump c) d h e = let s : c ≡ d = cc in subst (Lands n i) s h.1
