-- The first number at which something holds, as a search finds it.
--   weaker          what follows from either answer of a search
--   found_some      a search that finds a thing if there is one decides whether there is
--   found           what `find` over the numbers below n says, where each test of a number says one of two things
--   first_found     the same of a property that holds of no number from n on
use Rattle.std.proofs.Common.{◌≡◌, ℕ, ◌<◌, Bool, true, false, List, length, get_or, Some, None, Option, refl, sym, ◌∙◌, subst, zero-add, arith, Decides, MatchOption}
use Rattle.std.specs.Option.{is_some}
use Rattle.std.proofs.lemmas.Bool.{false≢true}
use Rattle.std.proofs.lemmas.Iterator.{YieldsList-from_range, first_from_find}
use Rattle.std.proofs.lemmas.List.FromFn.{length-range_with_len, get_or-range_with_len}
use Rattle.std.proofs.iter.Yields.{nat_range_steps}
use Rattle.std.specs.Fn.{CalledAt}
use Rattle.std.specs.Iterator.{YieldsThen}
use Rattle.std.specs.List.{range_with_len, FoldsTo, AllWithin, HoldsAt}
use Rattle.std.specs.Bool.{⊤}
use Rattle.std.specs.declared.ops.Range.{Range}
use denote.Param.Members.{Mut}
use denote.Ref.{Bor}
use Rattle.contracts.specs.Rules.{First, Never}

pub weaker : {T P P' : Type 0} {Q Q' : T → Type 0} (r : Option T) → MatchOption r P Q → (P → P') → ((x : T) → Q x → Q' x) → MatchOption r P' Q'
weaker None h f g = f h
weaker (Some x) h f g = g x h

-- a search that finds a thing if there is one decides whether there is
pub found_some : {T P : Type 0} (r : Option T) → MatchOption r (P → ⊥) (λ x. P) → Decides (is_some r) P
found_some None h = (λ e. absurd (false≢true e), λ p. absurd (h p))
found_some (Some x) h = (λ e. h, λ p. refl)

-- the number i stands at place i
at_place : (n i d : ℕ) → i < n → get_or (range_with_len 0 n) i d ≡ i
at_place n i d l = get_or-range_with_len 0 n i d l ∙ zero-add i

module _ (n : ℕ) (Yes No : ℕ → Type 0) where
  in_range : (r : Option ℕ)
      → MatchOption r (AllWithin No (range_with_len 0 n) 0 (length (range_with_len 0 n)))
      (λ x. Yes x × (i : ℕ) × (i < length (range_with_len 0 n)) × HoldsAt (λ y. y ≡ x) (range_with_len 0 n) i × AllWithin No (range_with_len 0 n) 0 i)
      → MatchOption r ((k : ℕ) → k < n → No k) (λ i. (i < n) × Yes i × ((k : ℕ) → k < i → No k))
  in_range None h = λ k l. subst No (at_place n k 0 l) (h k 0 (omega arith) (omega (arith, length-range_with_len 0 n)))
  in_range (Some x) (passed, i, l, at, none) =
      let w : i < n = omega (arith, length-range_with_len 0 n) in
      let e : i ≡ x = sym (at_place n i 0 w) ∙ at 0 in
      (omega arith, passed, λ k less. let v : k < n = omega arith in subst No (at_place n k 0 v) (none k 0 (omega arith) (omega arith)))

  pub found : {F : Type 0} {g : Mut F (Bor ℕ × Unit {0}) Bool} (u : Range ℕ) (f : F) (r : Option ℕ)
      → ((xs : List ℕ) × (j : F) × YieldsThen nat_range_steps (record { start = 0; end = n }) xs r u × FoldsTo (λ p x q. CalledAt g p x false q) f xs j × MatchOption r ⊤ (λ x. (h : F) × CalledAt g j x true h))
      → ((x : ℕ) (q : F) → CalledAt g f x true q → Yes x) → ((x : ℕ) (q : F) → CalledAt g f x false q → (q ≡ f) × No x)
      → MatchOption r ((k : ℕ) → k < n → No k) (λ i. (i < n) × Yes i × ((k : ℕ) → k < i → No k))
  found u f r ran passes fails = in_range r (first_from_find u f r Yes No ran (YieldsList-from_range 0 n n refl (omega arith)) passes fails)

module _ (n : ℕ) (P : ℕ → Type 0) (below : (i : ℕ) → P i → i < n) where
  held : (r : Option ℕ) → MatchOption r ((k : ℕ) → k < n → P k → ⊥) (λ i. (i < n) × P i × ((k : ℕ) → k < i → P k → ⊥)) → MatchOption r (Never P) (First P)
  held None h = λ i p. h i (below i p) p
  held (Some x) (l, p, none) = (p, none)

  pub first_found : {F : Type 0} {g : Mut F (Bor ℕ × Unit {0}) Bool} (u : Range ℕ) (f : F) (r : Option ℕ)
      → ((xs : List ℕ) × (j : F) × YieldsThen nat_range_steps (record { start = 0; end = n }) xs r u × FoldsTo (λ p x q. CalledAt g p x false q) f xs j × MatchOption r ⊤ (λ x. (h : F) × CalledAt g j x true h))
      → ((x : ℕ) (q : F) → CalledAt g f x true q → P x) → ((x : ℕ) (q : F) → CalledAt g f x false q → (q ≡ f) × (P x → ⊥))
      → MatchOption r (Never P) (First P)
  first_found u f r ran passes fails = held r (found n P (λ k. P k → ⊥) u f r ran passes fails)
