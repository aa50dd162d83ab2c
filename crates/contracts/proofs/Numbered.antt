-- A file by numbers.
--   pushed                      what holds of each element, with one element more
--   few_messages, few_states    counts
use Rattle.std.proofs.Common.{◌≡◌, ℕ, ◌+◌, ◌<◌, ◌≤◌, List, [], ◌∷◌, ◌++◌, length, get_or, ap, ◌∙◌, inl, inr, arith}
use Rattle.std.proofs.lemmas.List.{get_or_append_left, get_or_push, length_push}
use Rattle.std.proofs.lemmas.Bool.{cases_eq}
use Rattle.syntax.specs.declared.tree.Head.{Head}
use Rattle.syntax.specs.Trees.{declares}
use Rattle.contracts.proofs.Lookups.{blank}
use Rattle.contracts.proofs.Targets.{row_small}

-- the first n elements, and P of each
abbrev pub EachBelow : {X : Type 0} → (ℕ → X → Type 0) → X → List X → ℕ → Type 0
EachBelow P d xs n = (length xs ≡ n) × ((k : ℕ) → k < n → P k (get_or xs k d))

pub pushed : {X : Type 0} (P : ℕ → X → Type 0) (d : X) (xs ys : List X) (x : X) (n : ℕ) → EachBelow P d xs n → ys ≡ xs ++ x ∷ [] → P n x → EachBelow P d ys (n + 1)
pushed P d xs ys x n h e p = (
  ap length e ∙ length_push xs x ∙ ap (λ m. m + 1) h.0,
  λ k l. elim (cases_eq k n) [
    | inl s ↦ rw (s, e, get_or_push xs x d n h.0) p
    | inr s ↦ let b : k < n = omega arith in let w : k < length xs = omega arith in rw (e, get_or_append_left xs (x ∷ []) d k w) (h.1 k b)
  ],
)

-- the counts of contract k, as the code reads it
pub few_messages : (hs : List Head) (k : ℕ) → length (declares (get_or hs k blank)).messages ≤ 16
few_messages hs k = row_small (get_or hs k blank).messages

pub few_states : (hs : List Head) (k : ℕ) → length (declares (get_or hs k blank)).states ≤ 16
few_states hs k = row_small (get_or hs k blank).states
