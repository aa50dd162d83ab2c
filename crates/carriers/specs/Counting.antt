-- Lists made by a function of the place.
use Rattle.std.specs.Prelude.{◌≡◌, ℕ, zero, suc, ◌+◌, ◌-◌, ◌<◌, [], ◌∷◌, ◌++◌, map}
use Rattle.std.proofs.Common.{sym, ap, ◌∙◌, arith, zero-add}
use Rattle.std.proofs.Math.Numerals.{unary_clauses}
use Rattle.std.specs.List.{range_with_len}
use Rattle.std.proofs.lemmas.List.{same_lists}
use Rattle.std.proofs.lemmas.List.FromFn.{fill_by_all, length-map-range_with_len, get_or-map-range_with_len, map-range_with_len_more}

pub map_counting_same : {X : Type 0} (f g : ℕ → X) (n : ℕ) → ((k : ℕ) → k < n → f k ≡ g k) → map f (range_with_len 0 n) ≡ map g (range_with_len 0 n)
map_counting_same f g n same =
    fill_by_all g (map f (range_with_len 0 n)) n (f 0) (length-map-range_with_len f 0 n)
    (λ k h. get_or-map-range_with_len f 0 n k k (f 0) h (zero-add k) ∙ same k h)

-- one more at the end
pub map_counting_push : {X : Type 0} (f g : ℕ → X) (n : ℕ) (x : X) → ((k : ℕ) → k < n → g k ≡ f k) → g n ≡ x → map g (range_with_len 0 (n + 1)) ≡ map f (range_with_len 0 n) ++ x ∷ []
map_counting_push f g n x same last =
    map-range_with_len_more g 0 n n (zero-add n)
    ∙ ap (λ xs. xs ++ g n ∷ []) (map_counting_same g f n same)
    ∙ ap (λ y. map f (range_with_len 0 n) ++ y ∷ []) last

-- one less at the front
pub map_counting_pop : {X : Type 0} (f g : ℕ → X) (n : ℕ) → 0 < n → ((k : ℕ) → k + 1 < n → g k ≡ f (k + 1)) → map f (range_with_len 0 n) ≡ f 0 ∷ map g (range_with_len 0 (n - 1))
map_counting_pop f g zero some rest = absurd (omega arith)
map_counting_pop f g (suc j) some rest =
    simp unary_clauses
    (ap (λ xs. f 0 ∷ xs)
    (same_lists (map f (range_with_len 1 j)) (map g (range_with_len 0 j)) (length-map-range_with_len f 1 j ∙ sym (length-map-range_with_len g 0 j))
    (λ k d h.
    let low : k < j = omega (arith, length-map-range_with_len f 1 j) in
    let up : 1 + k ≡ k + 1 = omega arith in
    get_or-map-range_with_len f 1 j k (k + 1) d low up ∙ sym (rest k (omega arith)) ∙ sym (get_or-map-range_with_len g 0 j k k d low (zero-add k)))))
