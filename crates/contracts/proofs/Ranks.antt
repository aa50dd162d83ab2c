-- A table of ranks, raised one place at a time.
use Rattle.std.proofs.Common.{◌≡◌, ℕ, zero, suc, ◌-◌, ◌*◌, ◌<◌, ◌≤◌, ◌⊎◌, List, length, get_or, set, replicate, sum, sym, refl, ◌∙◌, subst, inl, inr, arith}
use Rattle.std.proofs.lemmas.List.{get_or-set_same, get_or-set_other, length-set}
use Rattle.std.proofs.ByRecursion.{All-from_get_or, sum_by_le}
use Rattle.std.proofs.lemmas.List.Sums.{sum_by-set}
use Rattle.std.proofs.lemmas.Bool.{cases_eq}

-- what holds of each place still does after a write that it holds of
pub at_set : (P : ℕ → ℕ → Type 0) (R : List ℕ) (s v : ℕ) → s < length R → ((k : ℕ) → P k (get_or R k 0)) → P s v → (k : ℕ) → P k (get_or (set R s v) k 0)
at_set P R s v l each here k = at (cases_eq k s)
  where
    at : (k ≡ s) ⊎ (k ≡ s → ⊥) → P k (get_or (set R s v) k 0)
    at (inl same) = subst (λ x. P x (get_or (set R s v) x 0)) (sym same) (subst (P s) (sym (get_or-set_same R s v 0 l)) here)
    at (inr other) = subst (P k) (sym (get_or-set_other R s k v 0 other)) (each k)

-- the ranks' sum rises, and cannot pass 256
pub raised : (R : List ℕ) (s v : ℕ) → length R ≡ 16 → s < 16 → get_or R s 0 < v → ((k : ℕ) → get_or (set R s v) k 0 < 16) → 256 - sum (set R s v) < 256 - sum R
raised R s v long in' more low =
    omega (arith, sum_by-set (λ x. x) R s v 0 (omega arith), top)
  where
    size : length (set R s v) ≡ 16
    size = length-set R s v ∙ long

    top : sum (set R s v) ≤ 16 * 15
    top = subst (λ n. sum (set R s v) ≤ n * 15) size (sum_by_le (λ x. x) 15 (set R s v) (All-from_get_or (λ x. x ≤ 15) (set R s v) 0 (λ i h. omega (arith, low i))))

-- a table with one value everywhere, which is the default too
pub filled : {A : Type 0} (n s : ℕ) (d : A) → get_or (replicate n d) s d ≡ d
filled zero s d = refl
filled (suc n) zero d = refl
filled (suc n) (suc s) d = filled n s d
