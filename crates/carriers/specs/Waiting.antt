-- A row of messages for each box.
--   row_messages r              the messages of a row
--   waiting_in rs b             the messages of the row of box b
use Rattle.std.specs.Prelude.{◌≡◌, ℕ, zero, suc, ◌<◌, ◌≤◌, List, [], ◌∷◌, map, length, replicate, Some, None, Option, slice_index_or, slice_set}
use Rattle.std.proofs.Common.{ap, ◌∙◌, inl, inr, arith}
use Rattle.std.specs.List.{AllByRecursion}
use Rattle.std.proofs.lemmas.List.{get_or-set_same, get_or-set_other, get_or-map, get_or_past, get_or-replicate, length-replicate, length-map, map-set}
use Rattle.std.proofs.lemmas.Bool.{cases_lt}
use Rattle.carriers.specs.declared.message.Message.{Message}
use Rattle.carriers.specs.declared.row.Row.{Row}
use Rattle.carriers.specs.Boxes.{Ranged}
use Rattle.carriers.specs.Limits.{limit_in}
use Rattle.carriers.specs.Rows.{queued}
use Rattle.carriers.specs.Stores.{all_waiting, Within, Others}
use Rattle.carriers.specs.Queues.{length-queued, queued-ranged}
use Rattle.carriers.specs.Tabled.{waiting_below}

abbrev pub row_messages : Row → List Message
row_messages r = queued r.count r.first r.bytes

abbrev pub waiting_in : List Row → ℕ → List Message
waiting_in rs b = slice_index_or (map row_messages rs) b []

pub waiting-ranged : (rs : List Row) (b : ℕ) → AllByRecursion Ranged (waiting_in rs b)
waiting-ranged [] b = tt
waiting-ranged (r ∷ rs) zero = queued-ranged r.count r.first r.bytes r.legible
waiting-ranged (r ∷ rs) (suc b) = waiting-ranged rs b

-- without messages in any row
pub waiting-none : (r : Row) (n b : ℕ) → row_messages r ≡ [] → waiting_in (replicate n r) b ≡ []
waiting-none r n b none =
    elim (cases_lt b n) [
      | inl h ↦ get_or-map row_messages (replicate n r) b r [] (omega (arith, length-replicate n r)) ∙ ap row_messages (get_or-replicate n b r r h) ∙ none
      | inr h ↦ get_or_past (map row_messages (replicate n r)) b [] (omega (arith, length-map (replicate n r) row_messages, length-replicate n r))
    ]

-- no row has more than 15, so where one has room all have
pub waiting_few : (rs : List Row) (b : ℕ) → length (waiting_in rs b) ≤ 15
waiting_few [] b = omega arith
waiting_few (r ∷ rs) zero = omega (arith, length-queued r.count r.first r.bytes, r.few)
waiting_few (r ∷ rs) (suc b) = waiting_few rs b

pub waiting-room : (rs : List Row) (b : ℕ) → b < 64 → length (waiting_in rs b) < 15 → all_waiting (waiting_in rs) < 960
waiting-room rs b numbered room =
    let ls : List (Option ℕ) = replicate 64 (Some 15) in
    let limit : (a : ℕ) → a < 64 → slice_index_or ls a None ≡ Some 15 = λ a h. get_or-replicate {A = Option ℕ} 64 a (Some 15) None h in
    let few : Within ls (waiting_in rs) = λ a h. omega (arith, waiting_few rs a, ap limit_in (limit a h)) in
    waiting_below ls (waiting_in rs) (length-replicate {A = Option ℕ} 64 (Some 15)) few b 15 numbered (limit b numbered) room

pub waiting_at : (rs : List Row) (b : ℕ) (d : Row) → b < length rs → waiting_in rs b ≡ row_messages (slice_index_or rs b d)
waiting_at rs b d inside = get_or-map row_messages rs b d [] inside

-- one row changed
module _ (rs : List Row) (b : ℕ) (r : Row) where
  pub waiting_here : b < length rs → waiting_in (slice_set rs b r) b ≡ row_messages r
  waiting_here h =
      let inside : b < length (map row_messages rs) = omega (arith, length-map rs row_messages) in
      ap (λ ms. slice_index_or ms b []) (map-set row_messages rs b r) ∙ get_or-set_same (map row_messages rs) b (row_messages r) [] inside

  pub waiting-others : Others (waiting_in rs) b (waiting_in (slice_set rs b r))
  waiting-others a low ne =
      ap (λ ms. slice_index_or ms a []) (map-set row_messages rs b r) ∙ get_or-set_other (map row_messages rs) b a (row_messages r) [] ne
