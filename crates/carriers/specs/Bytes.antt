-- Rows of bytes: a payload's byte, the places of a row, and its messages after one has been written or taken.
use Rattle.std.specs.Prelude.{◌≡◌, ℕ, ◌+◌, ◌-◌, ◌*◌, ◌<◌, ◌≤◌, true, cond, ◌≢◌, ◌⊎◌, List, length, Some, None, Option, ◌==◌, nat_lt, slice_index, slice_index_or, slice_set, refl}
use Rattle.std.proofs.Common.{sym, ap, ◌∙◌, subst, inl, inr, ⊎_elim, arith}
use Rattle.std.proofs.lemmas.List.{get_or-set_same, get_or-set_other, length-set}
use Rattle.std.proofs.lemmas.Bool.{lt-ltb, le-ltb, ltb-true, eqb-true, eqb-false, ne_eqb, or_cases, cond-true, cond-false, cases_Bool, cases_lt}
use Rattle.carriers.specs.Boxes.{Slot, Ranged}
use Rattle.carriers.specs.Rows.{byte_of, payload_of, slot_byte, place_of, message_at, Legible}

-- a payload's byte gives the payload back, and the payload of a slot or 255 is in its range
pub payload_of_byte : (p : Option ℕ) → Slot p → payload_of (byte_of p) ≡ p
payload_of_byte None h = refl
payload_of_byte (Some s) h = cond-false (s == 255) None (Some s) (ne_eqb s 255 (λ e. omega arith))

slot_of_byte : (s : ℕ) → slot_byte s ≡ true → Slot (payload_of s)
slot_of_byte s h =
    elim (cases_Bool (s == 255)) [
      | inl e ↦ subst (λ t. Slot (cond t None (Some s))) (sym e) tt
      | inr e ↦ subst (λ t. Slot (cond t None (Some s))) (sym e)
          (⊎_elim (ltb-true s 64) (λ q. absurd (eqb-false s 255 e (eqb-true s 255 q))) (or_cases (nat_lt s 64) (s == 255) h))
    ]

-- the places of a row
place_is : (f k : ℕ) → ((f + k < 15) × (place_of f k ≡ f + k)) ⊎ ((15 ≤ f + k) × (place_of f k ≡ f + k - 15))
place_is f k =
    elim (cases_lt (f + k) 15) [
      | inl h ↦ inl (h, cond-true (nat_lt (f + k) 15) (f + k) (f + k - 15) (lt-ltb (f + k) 15 h))
      | inr h ↦ inr (h, cond-false (nat_lt (f + k) 15) (f + k) (f + k - 15) (le-ltb (f + k) 15 h))
    ]

pub place_inside : (f k : ℕ) → f < 15 → k < 15 → place_of f k < 15
place_inside f k hf hk = elim (place_is f k) [ inl w ↦ omega (arith, w.1) | inr w ↦ omega (arith, w.1) ]

pub place_apart : (f j k : ℕ) → j < k → k < 15 → place_of f j ≢ place_of f k
place_apart f j k hj hk e =
    elim (place_is f j) [
      | inl v ↦ (elim (place_is f k) [ inl w ↦ omega (arith, v.1, w.1) | inr w ↦ omega (arith, v.1, w.1) ])
      | inr v ↦ (elim (place_is f k) [ inl w ↦ omega (arith, v.1, w.1) | inr w ↦ omega (arith, v.1, w.1) ])
    ]

pub place-first : (f : ℕ) → f < 15 → place_of f 0 ≡ f
place-first f hf = elim (place_is f 0) [ inl w ↦ omega (arith, w.1) | inr w ↦ omega (arith, w.1) ]

pub place-next : (f k : ℕ) → f < 15 → k + 1 < 15 → place_of (place_of f 1) k ≡ place_of f (k + 1)
place-next f k hf hk =
    elim (place_is f 1) [
      | inl u ↦
          (elim (place_is (place_of f 1) k) [
            | inl v ↦ (elim (place_is f (k + 1)) [ inl w ↦ omega (arith, u.1, v.1, w.1) | inr w ↦ omega (arith, u.1, v.1, w.1) ])
            | inr v ↦ (elim (place_is f (k + 1)) [ inl w ↦ omega (arith, u.1, v.1, w.1) | inr w ↦ omega (arith, u.1, v.1, w.1) ])
          ])
      | inr u ↦
          (elim (place_is (place_of f 1) k) [
            | inl v ↦ (elim (place_is f (k + 1)) [ inl w ↦ omega (arith, u.1, v.1, w.1) | inr w ↦ omega (arith, u.1, v.1, w.1) ])
            | inr v ↦ (elim (place_is f (k + 1)) [ inl w ↦ omega (arith, u.1, v.1, w.1) | inr w ↦ omega (arith, u.1, v.1, w.1) ])
          ])
    ]

-- legible bytes are messages in their ranges
pub legible_message : (bytes : List ℕ) (i : ℕ) → Legible bytes → Ranged (message_at bytes i)
legible_message bytes i ok = ((ok i).0, slot_of_byte (slice_index bytes (2 * i + 1)) (ok i).1)

-- two bytes written at place p
module _ (bytes : List ℕ) (p x s : ℕ) (long : length bytes ≡ 30) (inside : p < 15) where
  abbrev written : List ℕ
  written = slice_set (slice_set bytes (2 * p) x) (2 * p + 1) s

  number_here : slice_index_or written (2 * p) 0 ≡ x
  number_here =
      let ne : 2 * p ≢ 2 * p + 1 = λ e. omega arith in
      let h : 2 * p < length bytes = omega arith in
      get_or-set_other (slice_set bytes (2 * p) x) (2 * p + 1) (2 * p) s 0 ne ∙ get_or-set_same bytes (2 * p) x 0 h

  slot_here : slice_index_or written (2 * p + 1) 0 ≡ s
  slot_here =
      let h : 2 * p + 1 < length (slice_set bytes (2 * p) x) = omega (arith, length-set bytes (2 * p) x) in
      get_or-set_same (slice_set bytes (2 * p) x) (2 * p + 1) s 0 h

  elsewhere : (j : ℕ) → j ≢ 2 * p → j ≢ 2 * p + 1 → slice_index written j ≡ slice_index bytes j
  elsewhere j n₀ n₁ =
      get_or-set_other (slice_set bytes (2 * p) x) (2 * p + 1) j s 0 n₁ ∙ get_or-set_other bytes (2 * p) j x 0 n₀

  pub message_here : message_at written p ≡ record { number = x; payload = payload_of s }
  message_here =
      ap (λ n. record { number = n; payload = payload_of (slice_index written (2 * p + 1)) }) number_here
      ∙ ap (λ n. record { number = x; payload = payload_of n }) slot_here

  pub message-elsewhere : (r : ℕ) → r ≢ p → message_at written r ≡ message_at bytes r
  message-elsewhere r ne =
      ap (λ n. record { number = n; payload = payload_of (slice_index written (2 * r + 1)) })
      (elsewhere (2 * r) (λ e. ne (omega arith)) (λ e. omega arith))
      ∙ ap (λ n. record { number = slice_index bytes (2 * r); payload = payload_of n })
      (elsewhere (2 * r + 1) (λ e. omega arith) (λ e. ne (omega arith)))
