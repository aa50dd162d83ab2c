-- The words of lists, and lists whose every element has few before it.
use Rattle.std.proofs.Common.{◌≡◌, ℕ, zero, suc, ◌<◌, ◌≤◌, List, [], ◌∷◌, ◌++◌, map, length, get_or, take, drop, sym, refl, ap, ◌∙◌, append_assoc, append-nil, arith, length-take}
use lib.ListN.{length-map}
use lib.Seq.{split_at}
use Rattle.words.specs.declared.name.Ident.{Ident}
use Rattle.words.specs.Signs.{Sign}
use Rattle.grammar.specs.Spelling.{each}
use Rattle.grammar.proofs.Admissions.{Admitted}

pub each-push : {X : Type 0} (f : X → List Sign) (xs : List X) (x : X) → each f (xs ++ x ∷ []) ≡ each f xs ++ f x
each-push f [] x = append-nil (f x)
each-push f (y ∷ xs) x = ap (λ l. f y ++ l) (each-push f xs x) ∙ sym (append_assoc (f y) (each f xs) (f x))

pub each_append : {X : Type 0} (f : X → List Sign) (xs ys : List X) → each f (xs ++ ys) ≡ each f xs ++ each f ys
each_append f [] ys = refl
each_append f (x ∷ xs) ys = ap (λ l. f x ++ l) (each_append f xs ys) ∙ sym (append_assoc (f x) (each f xs) (each f ys))

-- a list with one element more is not empty
pub pushed : {X : Type 0} (xs : List X) (x : X) → xs ++ x ∷ [] ≡ [] → ⊥
pushed [] x e = let z : ◌≡◌ {A = ℕ} 0 1 = cc in omega arith
pushed (y ∷ xs) x e = let z : ◌≡◌ {A = ℕ} 0 1 = cc in omega arith

-- the second word of a part in the middle
pub second : (us part post : List Sign) (w n : Sign) → (us ++ (w ∷ n ∷ part)) ++ post ≡ (us ++ w ∷ []) ++ n ∷ (part ++ post)
second us part post w n = append_assoc us (w ∷ n ∷ part) post ∙ sym (append_assoc us (w ∷ []) (n ∷ (part ++ post)))

-- a list has at most n elements if fewer than n stand before each of them
pub at_most : {X : Type 0} (n : ℕ) (xs : List X) → ((pre : List X) (x : X) (post : List X) → xs ≡ pre ++ x ∷ post → length pre < n) → length xs ≤ n
at_most n [] h = omega arith
at_most n (x ∷ xs) h =
    let j : length xs < length (x ∷ xs) = omega arith in
    let a = h (take (length xs) (x ∷ xs)) (get_or (x ∷ xs) (length xs) x) (drop (suc (length xs)) (x ∷ xs)) (split_at (x ∷ xs) (length xs) x j) in
    let b = length-take (length xs) (x ∷ xs) in
    omega arith

-- a family of which each name was admitted has at most as many as the limit
pub few : {X : Type 0} (f : X → Ident) (limit : ℕ) (xs : List X) → ((us : List X) (x : X) (vs : List X) → xs ≡ us ++ x ∷ vs → Admitted (f x) (map f us) limit) → length xs ≤ limit
few f limit xs h = at_most limit xs (λ us x vs e. let l = length-map us f in let r = (h us x vs e).room in omega arith)

-- what holds of each element that a list has holds at each place
pub each_mapped : {X Y : Type 0} (f : X → Y) (P : Y → Type 0) (d : Y) → P d → (pre xs : List X) → ((us : List X) (x : X) (vs : List X) → pre ++ xs ≡ us ++ x ∷ vs → P (f x)) → (i : ℕ) → P (get_or (map f xs) i d)
each_mapped f P d past pre [] h i = past
each_mapped f P d past pre (x ∷ xs) h zero = h pre x xs refl
each_mapped f P d past pre (x ∷ xs) h (suc i) = each_mapped f P d past (pre ++ x ∷ []) xs (λ us y vs e. h us y vs (sym (append_assoc pre (x ∷ []) xs) ∙ e)) i
