-- Where no move differs from its state's first move, all moves of a state have one mark.
use Rattle.std.proofs.Common.{◌≡◌, ℕ, zero, suc, ◌<◌, ◌⊎◌, List, length, sym, refl, ap, ◌∙◌, subst, inl, inr, ⊎_elim, arith}
use Rattle.std.proofs.lemmas.Bool.{cases_eq, cases_order}
use Rattle.syntax.specs.declared.tree.Mark.{Mark}
use Rattle.syntax.specs.declared.tree.Mark.TheVariants.{Out, In}
use Rattle.contracts.specs.declared.declaration.Written.{Written}
use Rattle.contracts.specs.Numbers.{written_at}
use Rattle.contracts.specs.Written.{MixedMarks, SameState}

-- two marks that are not unlike are alike
pub mark-same : (d e : Mark) → ((d ≡ e → ⊥) → ⊥) → d ≡ e
mark-same Out Out h = refl
mark-same Out In h = absurd (h (λ p. let z : ◌≡◌ {A = ℕ} 0 1 = cc in omega arith))
mark-same In Out h = absurd (h (λ p. let z : ◌≡◌ {A = ℕ} 0 1 = cc in omega arith))
mark-same In In h = refl

pub out_in : Out ≡ In → ⊥
out_in p = let z : ◌≡◌ {A = ℕ} 0 1 = cc in omega arith

-- f is the first move of w's state
Leader : List Written → Written → ℕ → Type 0
Leader ws w f = SameState (written_at ws f) w × ((k : ℕ) → k < f → SameState (written_at ws k) w → ⊥)

same-state : (v w : Written) → SameState v w ⊎ (SameState v w → ⊥)
same-state v w = go (cases_eq v.contract w.contract) (cases_eq v.state w.state)
  where
    go : (v.contract ≡ w.contract) ⊎ (v.contract ≡ w.contract → ⊥) → (v.state ≡ w.state) ⊎ (v.state ≡ w.state → ⊥) → SameState v w ⊎ (SameState v w → ⊥)
    go (inl a) (inl b) = inl (a, b)
    go (inl a) (inr b) = inr (λ h. b h.1)
    go (inr a) (inl b) = inr (λ h. a h.0)
    go (inr a) (inr b) = inr (λ h. a h.0)

-- among the first n moves w's state has a first one, or none
leader : (ws : List Written) (w : Written) (n : ℕ) → ((f : ℕ) × (f < n) × Leader ws w f) ⊎ ((k : ℕ) → k < n → SameState (written_at ws k) w → ⊥)
unfolding Leader
leader ws w zero = inr (λ k l e. omega arith)
leader ws w (suc n) = go (leader ws w n) (same-state (written_at ws n) w)
  where
    go : ((f : ℕ) × (f < n) × Leader ws w f) ⊎ ((k : ℕ) → k < n → SameState (written_at ws k) w → ⊥) → SameState (written_at ws n) w ⊎ (SameState (written_at ws n) w → ⊥)
        → ((f : ℕ) × (f < suc n) × Leader ws w f) ⊎ ((k : ℕ) → k < suc n → SameState (written_at ws k) w → ⊥)
    go (inl (f, l, h)) d = inl (f, omega arith, h)
    go (inr none) (inl here) = inl (n, omega arith, (here, none))
    go (inr none) (inr away) = inr (λ k l e. ⊎_elim (λ same. away (subst (λ x. SameState (written_at ws x) w) same e)) (⊎_elim (λ less. none k less e) (λ more. omega arith)) (cases_order k n))

back : (v w x : Written) → SameState v w → SameState x w → SameState v x
back v w x (a, b) (c, d) = (a ∙ sym c, b ∙ sym d)

on : (v w x : Written) → SameState v w → SameState w x → SameState v x
on v w x (a, b) (c, d) = (a ∙ c, b ∙ d)

module _ (ws : List Written) (alike : (i : ℕ) → MixedMarks ws i → ⊥) where
  -- a move has the mark of its state's first move
  led : (w : Written) (f i : ℕ) → i < length ws → Leader ws w f → SameState (written_at ws i) w → (written_at ws f).mark ≡ (written_at ws i).mark
  unfolding Leader
  led w f i l (here, first) e =
      ⊎_elim (λ same. ap (λ x. (written_at ws x).mark) same)
      (⊎_elim
      (λ less. mark-same _ _ (λ unlike. alike i (l, (f, less, back (written_at ws f) w (written_at ws i) here e, (λ k b h. first k b (on (written_at ws k) (written_at ws i) w h e)), unlike))))
      (λ more. absurd (first i more e)))
      (cases_order f i)

  pub one-mark : (i j : ℕ) → i < length ws → j < length ws → SameState (written_at ws i) (written_at ws j) → (written_at ws i).mark ≡ (written_at ws j).mark
  one-mark i j li lj (a, b) =
      ⊎_elim (λ h. sym (led (written_at ws i) h.0 i li h.2 (refl, refl)) ∙ led (written_at ws i) h.0 j lj h.2 (sym a, sym b))
      (λ none. absurd (none i (omega arith) (refl, refl)))
      (leader ws (written_at ws i) (suc i))
