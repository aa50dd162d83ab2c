-- Boxes told by limits and messages: what holds of them, and what the calls of a carrier do to them.
use Rattle.std.specs.Prelude.{◌≡◌, ℕ, suc, ◌+◌, ◌-◌, sum, ◌<◌, ◌≤◌, true, false, ◌≢◌, List, [], ◌∷◌, ◌++◌, map, length, get_or, drop, replicate, Some, None, Ok, Err, sum_by, Option, Result, MatchOption, MatchResult, slice_index_or, slice_set, refl}
use Rattle.std.proofs.Common.{sym, ap, ◌∙◌, subst, inl, inr, arith, zero-add}
use Rattle.std.specs.List.{AllByRecursion, range_with_len}
use Rattle.std.specs.Option.{ok_or}
use Rattle.std.proofs.lemmas.List.{same_lists, get_or-set_same, get_or-set_other, length-set, length-map, get_or-map, get_or_past, get_or_default}
use Rattle.std.proofs.lemmas.List.Sums.{sum-map, sum_by-cons, sum_by-set}
use Rattle.std.proofs.lemmas.List.FromFn.{length-map-range_with_len, get_or-map-range_with_len}
use Rattle.std.proofs.lemmas.Bool.{cases_eq, cases_lt}
use Rattle.carriers.specs.declared.message.Message.{Message}
use Rattle.carriers.specs.declared.refusal.CarrierRefusal.{CarrierRefusal}
use Rattle.carriers.specs.declared.refusal.CarrierRefusal.TheVariants.{OutOfRange, OpenOrClosed, FullOrEmpty, NoSpare}
use Rattle.carriers.specs.Boxes.{Box, closed, holding, is_open, limit_of, queue_of, box_at, all_limits, Ranged, Fits, Kept}
use Rattle.carriers.specs.Calls.{Opens, Opened, Put, Takes, Taken, Closed, OpenRefused, PutRefused, TakeRefused, CloseRefused}
use Rattle.carriers.specs.Counting.{map_counting_same}
use Rattle.carriers.specs.Limits.{limit_in, allotted, Low, Drawn, Returned, DrawRefused, ClosedRefused}
use Rattle.carriers.specs.Stores.{all_waiting, Within, Room, Others}
use Rattle.carriers.specs.Tables.{box_from, boxes_from}

none_left : {X : Type 0} (xs : List X) → length xs ≤ 0 → xs ≡ []
none_left [] h = refl
none_left (x ∷ xs) h = absurd (omega arith)

-- sums of lists, one below the other
sum_le : (xs ys : List ℕ) → length xs ≤ length ys → ((k : ℕ) → k < length xs → get_or xs k 0 ≤ get_or ys k 0) → sum xs ≤ sum ys
sum_le [] ys l h = omega arith
sum_le (x ∷ xs) [] l h = absurd (omega arith)
sum_le (x ∷ xs) (y ∷ ys) l h =
    omega (arith, sum_by-cons (λ z. z) x xs, sum_by-cons (λ z. z) y ys, sum_le xs ys (omega arith) (λ k lk. h (suc k) (omega arith)), h 0 (omega arith))

-- a box from its limit
limit_from : (o : Option ℕ) (ms : List Message) → limit_of (box_from o ms) ≡ limit_in o
limit_from None ms = refl
limit_from (Some l) ms = refl

queue_from : (o : Option ℕ) (ms : List Message) → length ms ≤ limit_in o → queue_of (box_from o ms) ≡ ms
queue_from None ms h = sym (none_left ms h)
queue_from (Some l) ms h = refl

fits_from : (o : Option ℕ) (ms : List Message) → limit_in o ≤ 15 → length ms ≤ limit_in o → AllByRecursion Ranged ms → Fits (box_from o ms)
fits_from None ms low few ok = record { low = omega arith; few = omega arith; ranged = tt }
fits_from (Some l) ms low few ok = record { low = low; few = few; ranged = ok }

fits_closed : Fits closed
fits_closed = record { low = omega arith; few = omega arith; ranged = tt }

pub length_boxes : (ls : List (Option ℕ)) (q : ℕ → List Message) → length (boxes_from ls q) ≡ 64
unfolding boxes_from
length_boxes ls q = length-map-range_with_len (λ b. box_from (slice_index_or ls b None) (q b)) 0 64

pub box_at_lem : (ls : List (Option ℕ)) (q : ℕ → List Message) (b : ℕ) → b < 64 → box_at (boxes_from ls q) b ≡ box_from (slice_index_or ls b None) (q b)
unfolding boxes_from
box_at_lem ls q b h = get_or-map-range_with_len (λ k. box_from (slice_index_or ls k None) (q k)) 0 64 b b closed h (zero-add b)

-- without limits all boxes are closed
pub boxes_none : (q : ℕ → List Message) → boxes_from (replicate 64 None) q ≡ replicate 64 closed
unfolding boxes_from
boxes_none q = refl

-- with the same messages in each box the boxes are the same
boxes_same : (ls : List (Option ℕ)) (q q' : ℕ → List Message) → ((a : ℕ) → a < 64 → q' a ≡ q a) → boxes_from ls q' ≡ boxes_from ls q
unfolding boxes_from
boxes_same ls q q' same =
    map_counting_same (λ b. box_from (slice_index_or ls b None) (q' b)) (λ b. box_from (slice_index_or ls b None) (q b)) 64 (λ a h. ap (box_from (slice_index_or ls a None)) (same a h))

-- one box changed
pub boxes_set : (ls ls' : List (Option ℕ)) (q q' : ℕ → List Message) (b : ℕ) (x : Box) → b < 64 → box_from (slice_index_or ls' b None) (q' b) ≡ x → ((a : ℕ) → a < 64 → a ≢ b → box_from (slice_index_or ls' a None) (q' a) ≡ box_from (slice_index_or ls a None) (q a)) → boxes_from ls' q' ≡ slice_set (boxes_from ls q) b x
boxes_set ls ls' q q' b x numbered here others =
    same_lists (boxes_from ls' q') (slice_set (boxes_from ls q) b x) (length_boxes ls' q' ∙ sym (length-set (boxes_from ls q) b x ∙ length_boxes ls q))
    (λ k d h.
    let low : k < 64 = omega (arith, length_boxes ls' q') in
    let inside : b < length (boxes_from ls q) = omega (arith, length_boxes ls q) in
    let inside' : k < length (slice_set (boxes_from ls q) b x) = omega (arith, length-set (boxes_from ls q) b x, length_boxes ls q) in
    get_or_default (boxes_from ls' q') k d closed h
    ∙ box_at_lem ls' q' k low
    ∙ (elim (cases_eq k b) [
      | inl e ↦ ap (λ i. box_from (slice_index_or ls' i None) (q' i)) e ∙ here ∙ sym (ap (λ i. box_at (slice_set (boxes_from ls q) b x) i) e ∙ get_or-set_same (boxes_from ls q) b x closed inside)
      | inr n ↦ others k low n ∙ sym (get_or-set_other (boxes_from ls q) b k x closed n ∙ box_at_lem ls q k low)
    ])
    ∙ get_or_default (slice_set (boxes_from ls q) b x) k closed d inside')

module _ (ls : List (Option ℕ)) (q : ℕ → List Message) (long : length ls ≡ 64) (few : Within ls q) where
  pub limit_at : (b : ℕ) → b < 64 → limit_of (box_at (boxes_from ls q) b) ≡ limit_in (slice_index_or ls b None)
  limit_at b h = ap limit_of (box_at_lem ls q b h) ∙ limit_from (slice_index_or ls b None) (q b)

  pub queue_at : (b : ℕ) → b < 64 → queue_of (box_at (boxes_from ls q) b) ≡ q b
  queue_at b h = ap queue_of (box_at_lem ls q b h) ∙ queue_from (slice_index_or ls b None) (q b) (few b h)

  pub open_at : (b l : ℕ) → b < 64 → slice_index_or ls b None ≡ Some l → is_open (box_at (boxes_from ls q) b) ≡ true
  open_at b l h e = ap is_open (box_at_lem ls q b h) ∙ ap (λ o. is_open (box_from o (q b))) e

  pub closed_at : (b : ℕ) → b < 64 → slice_index_or ls b None ≡ None → is_open (box_at (boxes_from ls q) b) ≡ false
  closed_at b h e = ap is_open (box_at_lem ls q b h) ∙ ap (λ o. is_open (box_from o (q b))) e

  -- a closed box has no messages
  pub closed_empty : (b : ℕ) → b < 64 → slice_index_or ls b None ≡ None → q b ≡ []
  closed_empty b h e = none_left (q b) (omega (arith, few b h, ap limit_in e))

  pub limits_together : all_limits (boxes_from ls q) ≡ allotted ls
  limits_together =
      sym (sum-map limit_of (boxes_from ls q))
      ∙ ap (sum_by (λ n. n))
      (same_lists (map limit_of (boxes_from ls q)) (map limit_in ls) (length-map (boxes_from ls q) limit_of ∙ length_boxes ls q ∙ sym (length-map ls limit_in ∙ long))
      (λ k d h.
      let low : k < 64 = omega (arith, length-map (boxes_from ls q) limit_of, length_boxes ls q) in
      let inside : k < length (boxes_from ls q) = omega (arith, length_boxes ls q) in
      let inside' : k < length ls = omega arith in
      get_or-map limit_of (boxes_from ls q) k closed d inside ∙ limit_at k low ∙ sym (get_or-map limit_in ls k None d inside')))
      ∙ sum-map limit_in ls

  pub boxes_kept : (pool : ℕ) → Low ls → ((b : ℕ) → AllByRecursion Ranged (q b)) → allotted ls ≤ pool → Kept pool (boxes_from ls q)
  boxes_kept pool low ok within =
      record {
        count = length_boxes ls q;
        each = λ b. elim (cases_lt b 64) [
          | inl h ↦ subst Fits (sym (box_at_lem ls q b h)) (fits_from (slice_index_or ls b None) (q b) (low b) (few b h) (ok b))
          | inr h ↦ subst Fits (sym (get_or_past (boxes_from ls q) b closed (omega (arith, length_boxes ls q)))) fits_closed
        ];
        together = omega (arith, limits_together);
      }

  pub limited-kept : (pool s : ℕ) → Low ls → ((b : ℕ) → AllByRecursion Ranged (q b)) → s + allotted ls ≡ pool → Kept pool (boxes_from ls q)
  limited-kept pool s low ok whole = boxes_kept pool low ok (omega arith)

  -- where an open box has room, not all limits are used up
  pub waiting_below : (b l : ℕ) → b < 64 → slice_index_or ls b None ≡ Some l → length (q b) < l → all_waiting q < allotted ls
  unfolding all_waiting
  waiting_below b l numbered o room =
      let counts : List ℕ = map (λ a. length (q a)) (range_with_len 0 64) in
      let tops : List ℕ = map limit_in ls in
      let lc : length counts ≡ 64 = length-map-range_with_len (λ a. length (q a)) 0 64 in
      let lt : length tops ≡ 64 = length-map ls limit_in ∙ long in
      let inside : b < length tops = omega arith in
      let top : (k : ℕ) → k < 64 → get_or tops k 0 ≡ limit_in (slice_index_or ls k None) = λ k h. (let i : k < length ls = omega arith in get_or-map limit_in ls k None 0 i) in
      let less : sum counts ≤ sum (slice_set tops b (l - 1)) =
      sum_le counts (slice_set tops b (l - 1)) (omega (arith, length-set tops b (l - 1)))
      (λ k lk. let low : k < 64 = omega arith in
      let here : get_or counts k 0 ≡ length (q k) = get_or-map-range_with_len (λ a. length (q a)) 0 64 k k 0 low (zero-add k) in
      elim (cases_eq k b) [
        | inl e ↦ omega (arith, here, ap (λ i. length (q i)) e, ap (λ i. get_or (slice_set tops b (l - 1)) i 0) e, get_or-set_same tops b (l - 1) 0 inside)
        | inr n ↦ omega (arith, here, get_or-set_other tops b k (l - 1) 0 n, few k low, top k low)
      ]) in
      omega (arith, less, sum_by-set (λ z. z) tops b (l - 1) 0 inside, top b numbered, ap limit_in o, sum-map limit_in ls)

  -- what the calls of a carrier do, where the spare s and the limits make up the pool
  module _ (pool s : ℕ) (whole : s + allotted ls ≡ pool) (b : ℕ) where
    open_done : (l : ℕ) (ls' : List (Option ℕ)) (s' : ℕ) (q' : ℕ → List Message) → Drawn ls s b l ls' s' → q' b ≡ [] → Others q b q' → Opened pool (boxes_from ls q) b l (boxes_from ls' q')
    open_done l ls' s' q' d here others =
        let inside : b < length ls = omega (arith, d.numbered) in
        record {
          numbered = d.numbered;
          low = d.low;
          was_closed = closed_at b d.numbered d.was_closed;
          room = omega (arith, limits_together, d.left);
          after =
              boxes_set ls ls' q q' b (holding l []) d.numbered
              (ap (λ o. box_from o (q' b)) (ap (λ zs. get_or zs b None) d.after ∙ get_or-set_same ls b (Some l) None inside) ∙ ap (holding l) here)
              (λ a h n. ap (λ o. box_from o (q' a)) (ap (λ zs. get_or zs a None) d.after ∙ get_or-set_other ls b a (Some l) None n) ∙ ap (box_from (slice_index_or ls a None)) (others a h n));
        }

    open_refused : (l : ℕ) (e : CarrierRefusal) → DrawRefused ls s b l e → OpenRefused pool (boxes_from ls q) b l e
    open_refused l OutOfRange w = w
    open_refused l OpenOrClosed w = (w.0, w.1, open_at b _ w.0 w.2)
    open_refused l FullOrEmpty w = w
    open_refused l NoSpare w = (w.0, w.1, closed_at b w.0 w.2, omega (arith, w.3, limits_together))

    pub open_answered : {T : Type 0} (r : Result T CarrierRefusal) (l : ℕ) (ls' : List (Option ℕ)) (s' : ℕ) → MatchResult r (λ _. Drawn ls s b l ls' s') (λ e. DrawRefused ls s b l e × (ls' ≡ ls) × (s' ≡ s)) → Opens pool (boxes_from ls q) b l r (boxes_from ls' q)
    open_answered (Ok x) l ls' s' d = open_done l ls' s' q d (closed_empty b d.numbered d.was_closed) (λ a h n. refl)
    open_answered (Err e) l ls' s' w = (open_refused l e w.0, ap (λ zs. boxes_from zs q) w.1)

  module _ (b : ℕ) where
    pub close_done : (s : ℕ) (ls' : List (Option ℕ)) (s' : ℕ) (q' : ℕ → List Message) → Returned ls s b ls' s' → Others q b q' → Closed (boxes_from ls q) b (boxes_from ls' q')
    close_done s ls' s' q' d others =
        let inside : b < length ls = omega (arith, d.numbered) in
        record {
          numbered = d.numbered;
          was_open = open_at b _ d.numbered d.was_open;
          after =
              boxes_set ls ls' q q' b closed d.numbered
              (ap (λ o. box_from o (q' b)) (ap (λ zs. get_or zs b None) d.after ∙ get_or-set_same ls b None None inside))
              (λ a h n. ap (λ o. box_from o (q' a)) (ap (λ zs. get_or zs a None) d.after ∙ get_or-set_other ls b a None None n) ∙ ap (box_from (slice_index_or ls a None)) (others a h n));
        }

    pub close_refused : (e : CarrierRefusal) → ClosedRefused b (slice_index_or ls b None) e → CloseRefused (boxes_from ls q) b e
    close_refused OutOfRange w = w
    close_refused OpenOrClosed w = (w.0, closed_at b w.0 w.1)
    close_refused FullOrEmpty w = w
    close_refused NoSpare w = w

    pub take-refused : (e : CarrierRefusal) → ClosedRefused b (slice_index_or ls b None) e → TakeRefused (boxes_from ls q) b e
    take-refused OutOfRange w = w
    take-refused OpenOrClosed w = (w.0, closed_at b w.0 w.1)
    take-refused FullOrEmpty w = absurd w
    take-refused NoSpare w = w

    pub put_refused : (m : Message) (e : CarrierRefusal) → Ranged m → ClosedRefused b (slice_index_or ls b None) e → PutRefused (boxes_from ls q) b m e
    put_refused m OutOfRange ok w = λ p. w p.0
    put_refused m OpenOrClosed ok w = (w.0, ok, closed_at b w.0 w.1)
    put_refused m FullOrEmpty ok w = absurd w
    put_refused m NoSpare ok w = w

    module _ (l : ℕ) (numbered : b < 64) (was_open : get_or ls b None ≡ Some l) where
      limit_is : limit_of (box_at (boxes_from ls q) b) ≡ l
      limit_is = limit_at b numbered ∙ ap limit_in was_open

      -- the messages of one open box changed
      boxes_queue : (q' : ℕ → List Message) (ms : List Message) → q' b ≡ ms → Others q b q' → boxes_from ls q' ≡ slice_set (boxes_from ls q) b (holding (limit_of (box_at (boxes_from ls q) b)) ms)
      boxes_queue q' ms here others =
          boxes_set ls ls q q' b _ numbered
          (ap (λ o. box_from o (q' b)) was_open ∙ ap (λ k. holding k (q' b)) (sym limit_is) ∙ ap (holding (limit_of (box_at (boxes_from ls q) b))) here)
          (λ a h n. ap (box_from (slice_index_or ls a None)) (others a h n))

      pub put_done : (m : Message) (q' : ℕ → List Message) → Ranged m → length (q b) < l → q' b ≡ q b ++ m ∷ [] → Others q b q' → Put (boxes_from ls q) b m (boxes_from ls q')
      put_done m q' ok room here others =
          record {
            numbered = numbered;
            ranged = ok;
            was_open = open_at b l numbered was_open;
            room = omega (arith, ap length (queue_at b numbered), limit_is);
            after = boxes_queue q' _ (here ∙ ap (λ ms. ms ++ m ∷ []) (sym (queue_at b numbered))) others;
          }

      pub put_full : (m : Message) → Ranged m → l ≤ length (q b) → PutRefused (boxes_from ls q) b m FullOrEmpty
      put_full m ok full =
          (numbered, ok, open_at b l numbered was_open, omega (arith, ap length (queue_at b numbered), limit_is, few b numbered, ap limit_in was_open))

      pub take_done : (m : Message) (q' : ℕ → List Message) → q b ≡ m ∷ q' b → Others q b q' → Taken (boxes_from ls q) b m (boxes_from ls q')
      take_done m q' here others =
          let rest : drop 1 (queue_of (box_at (boxes_from ls q) b)) ≡ q' b = ap (drop 1) (queue_at b numbered ∙ here) in
          record {
            numbered = numbered;
            was_open = open_at b l numbered was_open;
            first = queue_at b numbered ∙ here ∙ ap (λ ms. m ∷ ms) (sym rest);
            after = boxes_queue q' _ (sym rest) others;
          }

      pub take_empty : length (q b) ≤ 0 → TakeRefused (boxes_from ls q) b FullOrEmpty
      take_empty none = (numbered, open_at b l numbered was_open, queue_at b numbered ∙ none_left (q b) none)

      pub same_boxes : (q' : ℕ → List Message) → q' b ≡ q b → Others q b q' → boxes_from ls q' ≡ boxes_from ls q
      same_boxes q' here others = boxes_same ls q q' (λ a h. elim (cases_eq a b) [ inl e ↦ ap q' e ∙ here ∙ sym (ap q e) | inr n ↦ others a h n ])

      -- below the limit a store has room for one message more
      pub put_over : (pool s : ℕ) → s + allotted ls ≡ pool → (m : Message) → Ranged m → (Room pool q b l m → ⊥) → PutRefused (boxes_from ls q) b m FullOrEmpty
      put_over pool s whole m ok over =
          elim (cases_lt (length (q b)) l) [
            | inl room ↦ absurd (over (ok, room, omega (arith, waiting_below b l numbered was_open room)))
            | inr full ↦ put_full m ok full
          ]

      pub take_answered : (r : Option Message) (q' : ℕ → List Message) → MatchOption r ((q b ≡ []) × (q' b ≡ [])) (λ m. q b ≡ m ∷ q' b) → Others q b q' → Takes (boxes_from ls q) b (ok_or r FullOrEmpty) (boxes_from ls q')
      take_answered None q' none others =
          (take_empty (omega (arith, ap length none.0)), same_boxes q' (none.1 ∙ sym none.0) others)
      take_answered (Some m) q' here others = take_done m q' here others
