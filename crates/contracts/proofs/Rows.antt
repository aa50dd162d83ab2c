-- One target more in rows of targets.
use Rattle.std.proofs.Common.{◌≡◌, ℕ, ◌<◌, ◌⊎◌, List, [], length, get_or, set, Some, None, Option, sym, ap, ◌∙◌, subst, inl, inr}
use Rattle.std.proofs.lemmas.List.{get_or-set_same, get_or-set_other, length-set}
use Rattle.std.proofs.lemmas.Bool.{cases_eq}
use Rattle.contracts.specs.Moves.{Goes}

abbrev pub put : List (List (Option ℕ)) → ℕ → ℕ → ℕ → List (List (Option ℕ))
put rows s m t = set rows s (set (get_or rows s []) m (Some t))

module _ (rows : List (List (Option ℕ))) (s m t : ℕ) (tall : s < length rows) where
  row_same : get_or (put rows s m t) s [] ≡ set (get_or rows s []) m (Some t)
  row_same = get_or-set_same rows s (set (get_or rows s []) m (Some t)) [] tall

  row_other : (s' : ℕ) → (s' ≡ s → ⊥) → get_or (put rows s m t) s' [] ≡ get_or rows s' []
  row_other s' other = get_or-set_other rows s s' (set (get_or rows s []) m (Some t)) [] other

  -- rows keep their lengths
  pub put_long : (s' : ℕ) → length (get_or (put rows s m t) s' []) ≡ length (get_or rows s' [])
  put_long s' = at (cases_eq s' s)
    where
      at : (s' ≡ s) ⊎ (s' ≡ s → ⊥) → length (get_or (put rows s m t) s' []) ≡ length (get_or rows s' [])
      at (inl same) = subst (λ x. length (get_or (put rows s m t) x []) ≡ length (get_or rows x [])) (sym same) (ap length row_same ∙ length-set (get_or rows s []) m (Some t))
      at (inr other) = ap length (row_other s' other)

  -- the new target is there
  pub put_there : m < length (get_or rows s []) → Goes (put rows s m t) s m t
  put_there wide = ap (λ (r : List (Option ℕ)). get_or r m None) row_same ∙ get_or-set_same (get_or rows s []) m (Some t) None wide

  -- every other place is as it was
  pub put_else : (s' m' : ℕ) → (s' ≡ s → m' ≡ m → ⊥) → get_or (get_or (put rows s m t) s' []) m' None ≡ get_or (get_or rows s' []) m' None
  put_else s' m' other = at (cases_eq s' s)
    where
      at : (s' ≡ s) ⊎ (s' ≡ s → ⊥) → get_or (get_or (put rows s m t) s' []) m' None ≡ get_or (get_or rows s' []) m' None
      at (inl same) = subst (λ x. get_or (get_or (put rows s m t) x []) m' None ≡ get_or (get_or rows x []) m' None) (sym same) (ap (λ (r : List (Option ℕ)). get_or r m' None) row_same ∙ get_or-set_other (get_or rows s []) m m' (Some t) None (other same))
      at (inr away) = ap (λ (r : List (Option ℕ)). get_or r m' None) (row_other s' away)

  -- a place is the new one or another
  pub at_place : (s' m' : ℕ) → ((s' ≡ s) × (m' ≡ m)) ⊎ (s' ≡ s → m' ≡ m → ⊥)
  at_place s' m' = go (cases_eq s' s) (cases_eq m' m)
    where
      go : (s' ≡ s) ⊎ (s' ≡ s → ⊥) → (m' ≡ m) ⊎ (m' ≡ m → ⊥) → ((s' ≡ s) × (m' ≡ m)) ⊎ (s' ≡ s → m' ≡ m → ⊥)
      go (inl a) (inl b) = inl (a, b)
      go (inl a) (inr b) = inr (λ _. b)
      go (inr a) (inl b) = inr (λ e _. a e)
      go (inr a) (inr b) = inr (λ e _. a e)

-- one target to a place
pub goes-once : (rows : List (List (Option ℕ))) (s m t u : ℕ) → Goes rows s m t → Goes rows s m u → t ≡ u
goes-once rows s m t u p q = cc

pub goes_at : (rows : List (List (Option ℕ))) {s s' m m' t t' : ℕ} → s ≡ s' → m ≡ m' → t ≡ t' → Goes rows s m t → Goes rows s' m' t'
goes_at rows a b e g = cc
