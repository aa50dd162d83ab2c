-- Paths along a relation: joining, ranks, closed sets, and that a path with no cycle visits no state twice.
use Rattle.std.proofs.Common.{◌≡◌, ℕ, suc, ◌+◌, ◌-◌, ◌<◌, ◌≤◌, Bool, true, false, cond, ◌⊎◌, List, length, get_or, set, count_by, sym, refl, ap, ◌∙◌, subst, inl, inr, ⊎_elim, arith}
use Rattle.contracts.specs.Paths.{Path, stay, step, OnCycle}
use Rattle.std.proofs.lemmas.List.{get_or-set_other, get_or_past, length-set}
use Rattle.std.proofs.lemmas.List.Sums.{sum_by-set, get_or-le-sum_by, count_by-le-length}
use Rattle.std.proofs.lemmas.Bool.{cases_eq, cases_lt, false≢true}

-- a true place is within the list
inside : (S : List Bool) (i : ℕ) → get_or S i false ≡ true → i < length S
inside S i h = ⊎_elim (λ l. l) (λ g. absurd (false≢true (sym (get_or_past S i false g) ∙ h))) (cases_lt i (length S))

-- a true place counts
counted : (S : List Bool) (i : ℕ) → get_or S i false ≡ true → 0 < count_by (λ b. b) S
counted S i h = subst (λ b. cond b 1 0 ≤ count_by (λ b. b) S) h (get_or-le-sum_by (λ (b : Bool). cond b 1 0) S i false (inside S i h))

-- one fewer counts where a true place is made false
pub fewer : (S : List Bool) (i : ℕ) → get_or S i false ≡ true → count_by (λ b. b) (set S i false) + 1 ≡ count_by (λ b. b) S
fewer S i h =
    omega (arith, sum_by-set (λ (b : Bool). cond b 1 0) S i false false (inside S i h), ap {B = ℕ} (λ (b : Bool). cond b 1 0) h)

-- one more counts where a false place is made true, and no more count than there are
pub risen : (S : List Bool) (i n : ℕ) → length S ≡ n → i < n → get_or S i false ≡ false → n - count_by (λ b. b) (set S i true) < n - count_by (λ b. b) S
risen S i n e l h =
    omega (
      arith,
      sum_by-set (λ (b : Bool). cond b 1 0) S i true false (omega arith),
      ap {B = ℕ} (λ (b : Bool). cond b 1 0) h,
      simp length-set at (count_by-le-length (λ b. b) (set S i true)),
    )

module _ (E : ℕ → ℕ → Type 0) where
  -- one step more, at the end
  pub longer : {s t u n : ℕ} → Path E s t n → E t u → Path E s u (suc n)
  longer stay e = step e stay
  longer (step f p) e = step f (longer p e)

  -- a path stays in what the steps do not leave
  pub kept_in : (P : ℕ → Type 0) → ((s t : ℕ) → P s → E s t → P t) → {s t n : ℕ} → Path E s t n → P s → P t
  kept_in P closed stay h = h
  kept_in P closed (step {s = s} {t = t} e p) h = kept_in P closed p (closed s t h e)

  -- where each step lowers a rank, a path has no more steps than the rank of its first state
  pub ranked : (rank : ℕ → ℕ) → ((s t : ℕ) → E s t → rank t < rank s) → {s t n : ℕ} → Path E s t n → n ≤ rank s
  ranked rank falls stay = omega arith
  ranked rank falls (step {s = s} {t = t} {n = n} e p) = omega (arith, falls s t e, ranked rank falls p)

  -- as many states as S has, and no cycle: every path from a state whose followers are all in S is shorter than that
  pub shorter : ((s : ℕ) → OnCycle E s → ⊥) → {s u n : ℕ} → Path E s u n → (S : List Bool) → ((v k : ℕ) → Path E s v k → get_or S v false ≡ true) → n < count_by (λ b. b) S
  shorter acyclic {s} stay S all = omega (arith, counted S s (all s 0 stay))
  shorter acyclic {s} (step {t = t} e p) S all =
      omega (
        arith,
        fewer S s (all s 0 stay),
        shorter acyclic p (set S s false) (λ v k q. rest v k q (cases_eq v s)),
      )
    where
      rest : (v k : ℕ) → Path E t v k → (v ≡ s) ⊎ (v ≡ s → ⊥) → get_or (set S s false) v false ≡ true
      rest v k q (inl same) = absurd (acyclic s (k, subst (λ x. Path E s x (suc k)) same (step e q)))
      rest v k q (inr other) = get_or-set_other S s v false false other ∙ all v (suc k) (step e q)

  -- the states that a path without cycles leaves can be taken out of S one by one; states that no step leaves stay in it
  pub taken : ((s : ℕ) → OnCycle E s → ⊥) → {s u n : ℕ} → Path E s u n → (S : List Bool)
      → ((v w k : ℕ) → Path E s v k → E v w → get_or S v false ≡ true)
      → (R : List Bool) × (count_by (λ b. b) R + n ≡ count_by (λ b. b) S) × ((v : ℕ) → ((w : ℕ) → E v w → ⊥) → get_or R v false ≡ get_or S v false)
  taken acyclic stay S all = (S, omega arith, λ v none. refl)
  taken acyclic {s} (step {t = t} e p) S all =
      let (R, counts, kept) = taken acyclic p (set S s false) (λ v w k q f. rest v w k q f (cases_eq v s)) in (
        R,
        omega (arith, counts, fewer S s (all s t 0 stay e)),
        λ v none. kept v none ∙ get_or-set_other S s v false false (λ same. none t (subst (λ x. E x t) (sym same) e)),
      )
    where
      rest : (v w k : ℕ) → Path E t v k → E v w → (v ≡ s) ⊎ (v ≡ s → ⊥) → get_or (set S s false) v false ≡ true
      rest v w k q f (inl same) = absurd (acyclic s (k, subst (λ x. Path E s x (suc k)) same (step e q)))
      rest v w k q f (inr other) = get_or-set_other S s v false false other ∙ all v w (suc k) (step e q) f
