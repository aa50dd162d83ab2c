-- A search that finds the states after a first one, one by one.
use Rattle.std.proofs.Common.{◌≡◌, ℕ, suc, Bool, true, false, ◌⊎◌, List, get_or, set, sym, refl, ◌∙◌, subst, inl, inr}
use Rattle.std.proofs.lemmas.List.{get_or-set_other}
use Rattle.std.proofs.lemmas.Bool.{cases_eq}
use Rattle.contracts.specs.Paths.{Path, stay, step, After}
use Rattle.contracts.proofs.Graph.{longer, kept_in}

-- the first state of the search, or one that it has found
abbrev pub Source : List Bool → ℕ → ℕ → Type 0
Source seen from s = (s ≡ from) ⊎ (get_or seen s false ≡ true)

module _ (E : ℕ → ℕ → Type 0) (from : ℕ) (S : List Bool) where
  -- what a source leads to comes after the first state
  next-after : ((v : ℕ) → get_or S v false ≡ true → After E from v) → (s u : ℕ) → Source S from s → E s u → After E from u
  next-after sound s u (inl same) e = (0, step (subst (λ x. E x u) same e) stay)
  next-after sound s u (inr h) e = (suc (sound s h).0, longer E (sound s h).1 e)

  -- one state more
  pub found_more : ((v : ℕ) → get_or S v false ≡ true → After E from v) → (s u : ℕ) → Source S from s → E s u → (v : ℕ) → get_or (set S u true) v false ≡ true → After E from v
  found_more sound s u src e v h = at (cases_eq v u)
    where
      at : (v ≡ u) ⊎ (v ≡ u → ⊥) → After E from v
      at (inl same) = subst (After E from) (sym same) (next-after sound s u src e)
      at (inr other) = sound v (sym (get_or-set_other S u v true false other) ∙ h)

  -- where no source leads outside, all is found
  pub found_all : ((s u : ℕ) → Source S from s → E s u → get_or S u false ≡ true) → {u : ℕ} → After E from u → get_or S u false ≡ true
  found_all closed (n, p) = first p
    where
      first : {u n : ℕ} → Path E from u (suc n) → get_or S u false ≡ true
      first (step {t = t} e p) = kept_in E (λ v. get_or S v false ≡ true) (λ s t h f. closed s t (inr h) f) p (closed from t (inl refl) e)
