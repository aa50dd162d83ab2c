-- Walks along a relation between numbered states.
--   Path E s t n      a row of n steps of E from s to t, each starting where the one before it ends
--   Leads E s t       t can be reached from s
--   After E s t       t can be reached from s by at least one step
--   OnCycle E s       s lies on a cycle: a path of at least one step ends where it began
--   HasPath E k       some path has k steps
--   Longest E b       b is the number of steps on the longest path: some path has that many, and none has more
--   Furthest E s b    b is the number of steps on the longest path from s
use Rattle.std.specs.Prelude.{ℕ, suc, ◌≤◌}

pub data Path (E : ℕ → ℕ → Type 0) : ℕ → ℕ → ℕ → Type 0 where
  stay : {s : ℕ} → Path E s s 0
  step : {s t u n : ℕ} → E s t → Path E t u n → Path E s u (suc n)

abbrev pub Leads : (ℕ → ℕ → Type 0) → ℕ → ℕ → Type 0
Leads E s t = (n : ℕ) × Path E s t n

abbrev pub After : (ℕ → ℕ → Type 0) → ℕ → ℕ → Type 0
After E s t = (n : ℕ) × Path E s t (suc n)

abbrev pub OnCycle : (ℕ → ℕ → Type 0) → ℕ → Type 0
OnCycle E s = After E s s

abbrev pub HasPath : (ℕ → ℕ → Type 0) → ℕ → Type 0
HasPath E k = (s : ℕ) × (t : ℕ) × Path E s t k

abbrev pub Longest : (ℕ → ℕ → Type 0) → ℕ → Type 0
Longest E b = ((k : ℕ) → HasPath E k → k ≤ b) × ∥ HasPath E b ∥₁

abbrev pub Furthest : (ℕ → ℕ → Type 0) → ℕ → ℕ → Type 0
Furthest E s b = ((u k : ℕ) → Path E s u k → k ≤ b) × ((u : ℕ) × Path E s u b)
