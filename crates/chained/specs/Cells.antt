-- The messages in the cells of the chains, after a cell was taken from the free ones, given back, or all of a box were.
use Rattle.std.specs.Prelude.{◌≡◌, ℕ, ◌+◌, ◌-◌, ◌<◌, true, ◌≢◌, List, [], ◌∷◌, ◌++◌, map, length, get_or, take, Some, None, sum, Option, slice_index_or, slice_set, refl}
use Rattle.std.proofs.Common.{sym, ap, ◌∙◌, subst, inl, inr, arith, zero-add}
use Rattle.std.specs.List.{range_with_len, AllByRecursion}
use Rattle.std.proofs.lemmas.List.{get_or-set_same, get_or-set_other, length-map, take_all, length-take-le, get_or-take}
use Rattle.std.proofs.lemmas.List.FromFn.{fill_by_all, length-map-range_with_len, get_or-map-range_with_len}
use Rattle.std.proofs.ByRecursion.{All-from_get_or}
use Rattle.std.proofs.lemmas.List.Sums.{sum_by_more}
use Rattle.std.proofs.lemmas.Grind.{common_steps}
use Rattle.std.proofs.lemmas.Bool.Decides.{nat_tests}
use Rattle.std.proofs.lemmas.Bool.{cases_eq, lt-ltb, ltb-true}
use Rattle.carriers.specs.declared.message.Message.{Message}
use Rattle.carriers.specs.Boxes.{Slot, Ranged}
use Rattle.carriers.specs.Stores.{all_waiting}
use Rattle.carriers.specs.Counting.{map_counting_same, map_counting_push, map_counting_pop}
use Rattle.chained.specs.declared.links.Links.{Links}
use Rattle.chained.specs.Chains.{count_in, counts, count_of, cell, Moved, Cleared}
use Rattle.chained.specs.Chained.{blank, slot_test, ranged_test, AllRanged, waiting}

-- the test of a message's range
slot_from : (p : Option ℕ) → slot_test p ≡ true → Slot p
slot_from None e = tt
slot_from (Some s) e = ltb-true s 64 e

slot_test_lem : (p : Option ℕ) → Slot p → slot_test p ≡ true
slot_test_lem None h = refl
slot_test_lem (Some s) h = lt-ltb s 64 h

ranged-from : (m : Message) → ranged_test m ≡ true → Ranged m
ranged-from m e = grind (arith, nat_tests, slot_from)

ranged_test_lem : (m : Message) → Ranged m → ranged_test m ≡ true
ranged_test_lem m h = grind (arith, nat_tests, slot_test_lem)

pub ranged-set : (ms : List Message) (x : ℕ) (m : Message) → x < length ms → Ranged m → AllRanged ms → AllRanged (slice_set ms x m)
ranged-set ms x m inside h all i =
    elim (cases_eq i x) [
      | inl e ↦ grind (arith, common_steps, ranged_test_lem m h)
      | inr q ↦ ap ranged_test (get_or-set_other ms x i m blank q) ∙ all i
    ]

-- the messages of a box
pub length-waiting : (ms : List Message) (c : Links) (b : ℕ) → length (waiting ms c b) ≡ count_of c.tables b
length-waiting ms c b = length-map-range_with_len (λ k. get_or ms (cell c.tables b k) blank) 0 (count_of c.tables b)

pub waiting-ranged : (ms : List Message) (c : Links) (b : ℕ) → AllRanged ms → AllByRecursion Ranged (waiting ms c b)
waiting-ranged ms c b ok =
    let f : ℕ → Message = λ k. get_or ms (cell c.tables b k) blank in
    All-from_get_or Ranged (waiting ms c b) blank
    (λ k h. let low : k < count_of c.tables b = omega (arith, length-waiting ms c b) in
    subst Ranged (sym (get_or-map-range_with_len f 0 (count_of c.tables b) k k blank low (zero-add k))) (ranged-from (f k) (ok (cell c.tables b k))))

waiting-same : (ms ms' : List Message) (c c' : Links) (a : ℕ) → count_of c'.tables a ≡ count_of c.tables a → ((k : ℕ) → k < count_of c.tables a → slice_index_or ms' (cell c'.tables a k) blank ≡ slice_index_or ms (cell c.tables a k) blank) → waiting ms' c' a ≡ waiting ms c a
waiting-same ms ms' c c' a n same =
    ap (λ i. map (λ k. get_or ms' (cell c'.tables a k) blank) (range_with_len 0 i)) n
    ∙ map_counting_same (λ k. get_or ms' (cell c'.tables a k) blank) (λ k. get_or ms (cell c.tables a k) blank) (count_of c.tables a) same

-- the cells that are not free are those of the messages
pub free_cells : (ms : List Message) (c : Links) → all_waiting (waiting ms c) + count_of c.tables 64 ≡ 128
unfolding all_waiting
free_cells ms c =
    let ns = counts c.tables in
    let size : length ns ≡ 65 = length-map c.tables.chains count_in ∙ c.sizes.1 in
    let i : 64 < length ns = omega arith in
    let long : length (take 64 ns) ≡ 64 = length-take-le 64 ns (omega arith) in
    let all : take 65 ns ≡ ns = take_all 65 ns (omega arith) in
    let boxes : take 64 ns ≡ map (λ b. length (waiting ms c b)) (range_with_len 0 64) =
    fill_by_all (λ b. length (waiting ms c b)) (take 64 ns) 64 0 long (λ k h. get_or-take 64 ns k 0 h ∙ sym (length-waiting ms c k)) in
    omega (arith, c.total, sum_by_more (λ z. z) ns 64 0 i, ap sum all, ap sum boxes)

pub free_cell : (ms : List Message) (c : Links) → all_waiting (waiting ms c) < 128 → 0 < count_of c.tables 64
free_cell ms c below = omega (arith, below, free_cells ms c)

-- a free cell x, with the message m in it, behind those of box b
module _ (ms : List Message) (c c' : Links) (b x : ℕ) (m : Message) (numbered : b < 64) (size : length ms ≡ 128) (some : 0 < count_of c.tables 64)
    (first : x ≡ cell c.tables 64 0)
    (moved : Moved c.tables 64 b 1 c'.tables) where
  pub cell-low : x < length ms
  cell-low = omega (arith, c.below 64 0 (omega arith) some)

  cell_off : (a k : ℕ) → a < 64 → k < count_of c.tables a → cell c.tables a k ≢ x
  cell_off a k la lk e =
      let p = c.apart (record { a = a; k = k; c = 64; j = 0; a_low = omega arith; k_low = lk; c_low = omega arith; j_low = some }) (e ∙ first) in
      omega (arith, p.0)

  pub put_here : waiting (slice_set ms x m) c' b ≡ waiting ms c b ++ m ∷ []
  put_here =
      let n = count_of c.tables b in
      let behind : n ≡ n + 0 = omega arith in
      ap (λ i. map (λ k. get_or (slice_set ms x m) (cell c'.tables b k) blank) (range_with_len 0 i)) moved.more
      ∙ map_counting_push (λ k. get_or ms (cell c.tables b k) blank) (λ k. get_or (slice_set ms x m) (cell c'.tables b k) blank) n m
      (λ k h. grind (arith, common_steps, moved.back k h, cell_off b k numbered h))
      (let here = ap (cell c'.tables b) behind ∙ moved.joined 0 (omega arith) ∙ sym first in
      ap (λ i. get_or (slice_set ms x m) i blank) here ∙ get_or-set_same ms x m blank cell-low)

  pub put_others : (a : ℕ) → a < 64 → a ≢ b → waiting (slice_set ms x m) c' a ≡ waiting ms c a
  put_others a la q =
      waiting-same ms (slice_set ms x m) c c' a (moved.kept a (λ e. omega arith) q)
      (λ k h. grind (arith, common_steps, moved.other a k (omega arith) (λ e. omega arith) q h, cell_off a k la h))

-- the first cell x of box b behind the free ones
module _ (ms : List Message) (c c' : Links) (b x : ℕ) (numbered : b < 64) (some : 0 < count_of c.tables b)
    (first : x ≡ cell c.tables b 0)
    (moved : Moved c.tables b 64 1 c'.tables) where
  pub take_here : waiting ms c b ≡ slice_index_or ms x blank ∷ waiting ms c' b
  take_here =
      let n = count_of c.tables b in
      let f : ℕ → Message = λ k. get_or ms (cell c.tables b k) blank in
      let g : ℕ → Message = λ k. get_or ms (cell c'.tables b k) blank in
      map_counting_pop f g n some (λ k h. ap (λ i. get_or ms i blank) (moved.front k h))
      ∙ ap (λ i. slice_index_or ms i blank ∷ map g (range_with_len 0 (n - 1))) (sym first)
      ∙ ap (λ i. slice_index_or ms x blank ∷ map g (range_with_len 0 i)) (sym moved.left)

  pub take_others : (a : ℕ) → a < 64 → a ≢ b → waiting ms c' a ≡ waiting ms c a
  take_others a la q =
      waiting-same ms ms c c' a (moved.kept a q (λ e. omega arith))
      (λ k h. ap (λ i. get_or ms i blank) (moved.other a k (omega arith) q (λ e. omega arith) h))

-- all cells of box b given back
pub clear_others : (ms : List Message) (c c' : Links) (b : ℕ) → Cleared c.tables b c'.tables → (a : ℕ) → a < 64 → a ≢ b → waiting ms c' a ≡ waiting ms c a
clear_others ms c c' b cleared a la q =
    waiting-same ms ms c c' a (cleared.same a la q).0 (λ k h. ap (λ i. get_or ms i blank) ((cleared.same a la q).1 k h))
