-- Tables whose elements are all the same, limits of which none is drawn, and the numbers of messages within limits.
use Rattle.std.proofs.Common.{◌≡◌, ℕ, ◌<◌, ◌≤◌, ◌≢◌, List, get_or, replicate, Some, None, Option, ap, inl, inr, arith}
use Rattle.std.proofs.lemmas.List.{get_or-set_other, get_or-replicate, get_or_past, length-replicate}
use Rattle.std.proofs.lemmas.Bool.{cases_eq, cases_lt}
use Rattle.carriers.specs.Limits.{limit_in, Low, Few, Returned}

-- what stands at each place of equal elements, also past their end
pub get_d_equal : {X : Type 0} (n i : ℕ) (x : X) → get_or (replicate n x) i x ≡ x
get_d_equal n i x =
    elim (cases_lt i n) [
      | inl h ↦ get_or-replicate n i x x h
      | inr h ↦ get_or_past (replicate n x) i x (omega (arith, length-replicate n x))
    ]

pub low-none : (n : ℕ) → Low (replicate n None)
low-none n b = omega (arith, ap limit_in (get_d_equal n b None))

-- one box without messages, and its limit given back
pub few_returned : (ls ls' : List (Option ℕ)) (s s' b : ℕ) (ns ns' : List ℕ) → Returned ls s b ls' s' → get_or ns' b 0 ≡ 0 → ((a : ℕ) → a < 64 → a ≢ b → get_or ns' a 0 ≡ get_or ns a 0) → Few ls ns → Few ls' ns'
few_returned ls ls' s s' b ns ns' d none others few a h =
    elim (cases_eq a b) [
      | inl e ↦ omega (arith, ap (λ i. get_or ns' i 0) e)
      | inr n ↦ omega (arith, few a h, others a h n, ap (λ zs. limit_in (get_or zs a None)) d.after, ap limit_in (get_or-set_other ls b a None None n))
    ]

-- another number of messages in one open box
pub few_counted : (ls : List (Option ℕ)) (b l : ℕ) (ns ns' : List ℕ) → get_or ls b None ≡ Some l → get_or ns' b 0 ≤ l → ((a : ℕ) → a < 64 → a ≢ b → get_or ns' a 0 ≡ get_or ns a 0) → Few ls ns → Few ls ns'
few_counted ls b l ns ns' o low others few a h =
    elim (cases_eq a b) [
      | inl e ↦ omega (arith, ap (λ i. get_or ns' i 0) e, ap (λ i. limit_in (get_or ls i None)) e, ap limit_in o)
      | inr n ↦ omega (arith, few a h, others a h n)
    ]
