-- The messages of a row after one has been appended or taken.
use Rattle.std.specs.Prelude.{◌≡◌, ℕ, ◌+◌, ◌-◌, ◌*◌, ◌<◌, ◌≤◌, List, [], ◌∷◌, ◌++◌, length, slice_set}
use Rattle.std.proofs.Common.{sym, ap, ◌∙◌, subst, arith, zero-add}
use Rattle.std.specs.List.{AllByRecursion}
use Rattle.std.proofs.lemmas.List.FromFn.{length-map-range_with_len, get_or-map-range_with_len}
use Rattle.std.proofs.ByRecursion.{All-from_get_or}
use Rattle.carriers.specs.declared.message.Message.{Message}
use Rattle.carriers.specs.Boxes.{Ranged}
use Rattle.carriers.specs.Rows.{payload_of, place_of, message_at, queued, Legible}
use Rattle.carriers.specs.Counting.{map_counting_push, map_counting_pop}
use Rattle.carriers.specs.Bytes.{place_inside, place_apart, place-first, place-next, legible_message, message_here, message-elsewhere}

pub length-queued : (n f : ℕ) (bytes : List ℕ) → length (queued n f bytes) ≡ n
length-queued n f bytes = length-map-range_with_len (λ k. message_at bytes (place_of f k)) 0 n

pub queued-ranged : (n f : ℕ) (bytes : List ℕ) → Legible bytes → AllByRecursion Ranged (queued n f bytes)
queued-ranged n f bytes ok =
    let m : ℕ → Message = λ k. message_at bytes (place_of f k) in
    All-from_get_or Ranged (queued n f bytes) (m 0)
    (λ k h. let low : k < n = omega (arith, length-queued n f bytes) in
    subst Ranged (sym (get_or-map-range_with_len m 0 n k k (m 0) low (zero-add k))) (legible_message bytes (place_of f k) ok))

module _ (n f : ℕ) (bytes : List ℕ) (within : f < 15) where
  -- a message written behind the last one
  pub queued-push : (p x s : ℕ) (m : Message) → length bytes ≡ 30 → n < 15 → p ≡ place_of f n → m ≡ record { number = x; payload = payload_of s } → queued (n + 1) f (slice_set (slice_set bytes (2 * p) x) (2 * p + 1) s) ≡ queued n f bytes ++ m ∷ []
  queued-push p x s m size room is em =
      let inside : p < 15 = omega (arith, is, place_inside f n within room) in
      map_counting_push (λ k. message_at bytes (place_of f k)) (λ k. message_at (slice_set (slice_set bytes (2 * p) x) (2 * p + 1) s) (place_of f k)) n m
      (λ k h. message-elsewhere bytes p x s size inside (place_of f k) (λ e. place_apart f k n h room (e ∙ is)))
      (ap (message_at (slice_set (slice_set bytes (2 * p) x) (2 * p + 1) s)) (sym is) ∙ message_here bytes p x s size inside ∙ sym em)

  -- the first message taken
  pub queued-pop : (next : ℕ) → 0 < n → n ≤ 15 → next ≡ place_of f 1 → queued n f bytes ≡ message_at bytes f ∷ queued (n - 1) next bytes
  queued-pop next some few is =
      map_counting_pop (λ k. message_at bytes (place_of f k)) (λ k. message_at bytes (place_of next k)) n some
      (λ k h. ap (λ i. message_at bytes (place_of i k)) is ∙ ap (message_at bytes) (place-next f k within (omega arith)))
      ∙ ap (λ i. message_at bytes i ∷ queued (n - 1) next bytes) (place-first f within)
