-- What the check of a name says: whether its family has room, and whether the name stands in it before.
use Rattle.std.proofs.Common.{◌≡◌, ℕ, zero, suc, ◌<◌, ◌≤◌, Bool, true, false, cond, leb, List, [], ◌∷◌, ◌++◌, map, length, get_or, take, Some, Option, sym, refl, ap, ◌∙◌, subst, inl, inr, le_of_suc-le-suc, arith, le-leb, leb-true}
use Rattle.std.proofs.lemmas.List.{length-take-le, get_or-take}
use Rattle.std.proofs.lemmas.Bool.{cases_order}
use Rattle.words.specs.declared.name.Ident.{Ident}
use Rattle.words.specs.Signs.{Sign}
use Rattle.words.specs.Signs as s
use Rattle.grammar.specs.Families.{no_ident, Named, Once}
use Rattle.grammar.specs.Laws.{Limit, room, once}
use Rattle.grammar.specs.Table.{fine, too_many, repeated, known, admission, Turn, new}
use Rattle.grammar.proofs.Names.{named, is_known}
use Rattle.grammar.proofs.Grammars.{check_level, level, Says}

-- a check that refuses a name says why
module _ (Held : Limit → List Sign → Sign → Type 0) (ws : List Sign) (n : Ident) where
  judge : (full seen : Bool) → (full ≡ true → Held room ws (s.Name n)) → (seen ≡ true → Held once ws (s.Name n))
      → Says Held (cond full (too_many n) (cond seen (repeated n) fine)) (s.Name n) ws
  judge true seen f g = (refl, f refl)
  judge false true f g = (refl, g refl)
  judge false false f g = tt

  pub told : (ns : List Ident) (limit : ℕ) → (limit ≤ length ns → Held room ws (s.Name n)) → (Named n ns → Held once ws (s.Name n)) → Says Held (admission limit ns n) (s.Name n) ws
  told ns limit f g = judge (leb limit (length ns)) (known n ns) (λ e. f (leb-true limit (length ns) e)) (λ e. g (named n ns e))

-- the number of a check
module _ (n : Ident) where
  full_level : (full seen : Bool) → full ≡ true → check_level (cond full (too_many n) (cond seen (repeated n) fine)) ≡ 6
  full_level full seen e = ap (λ b. check_level (cond b (too_many n) (cond seen (repeated n) fine))) e

  seen_level : (full seen : Bool) → seen ≡ true
      → (6 ≤ check_level (cond full (too_many n) (cond seen (repeated n) fine))) × (check_level (cond full (too_many n) (cond seen (repeated n) fine)) ≤ 7)
  seen_level true seen e = (omega arith, omega arith)
  seen_level false seen e = let h : check_level (cond seen (repeated n) fine) ≡ 7 = ap (λ b. check_level (cond b (repeated n) fine)) e in (omega arith, omega arith)

module _ {Q R : Type 0} (o : Option (Turn Q R)) (r : Q) (n : Ident) (ns : List Ident) (limit : ℕ) (e : o ≡ Some (new r (admission limit ns n))) where
  pub level_beyond : limit ≤ length ns → level o ≡ 6
  level_beyond h = ap level e ∙ full_level n (leb limit (length ns)) (known n ns) (le-leb limit (length ns) h)

  pub level_second : Named n ns → (6 ≤ level o) × (level o ≤ 7)
  level_second h = subst (λ i. (6 ≤ i) × (i ≤ 7)) (sym (ap level e)) (seen_level n (leb limit (length ns)) (known n ns) (is_known n ns h))

-- a name joins its family: it has room, and the name does not stand in it
pub record Admitted (n : Ident) (ns : List Ident) (limit : ℕ) : Type 0 where
  pub room : length ns < limit
  pub fresh : Named n ns → ⊥

-- a family of which each name was admitted has no name twice
module _ {X : Type 0} (f : X → Ident) where
  -- what stands before a place, and there
  record At (xs : List X) (j : ℕ) : Type 0 where
    pub before : List X
    pub here : X
    pub after : List X
    pub whole : xs ≡ before ++ here ∷ after
    pub names : map f before ≡ take j (map f xs)
    pub name : f here ≡ get_or (map f xs) j no_ident

  at : (xs : List X) (j : ℕ) → j < length (map f xs) → At xs j
  at [] j l = absurd (omega arith)
  at (x ∷ xs) zero l = record { before = []; here = x; after = xs; whole = refl; names = refl; name = refl }
  at (x ∷ xs) (suc j) l =
      let r = at xs j (le_of_suc-le-suc l) in
      record { before = x ∷ r.before; here = r.here; after = r.after; whole = ap (λ l. x ∷ l) r.whole; names = ap (λ l. f x ∷ l) r.names; name = r.name }

  module _ (limit : ℕ) (xs : List X) (h : (us : List X) (x : X) (vs : List X) → xs ≡ us ++ x ∷ vs → Admitted (f x) (map f us) limit) where
    earlier : (i j : ℕ) → i < j → j < length (map f xs) → (get_or (map f xs) i no_ident).name ≡ (get_or (map f xs) j no_ident).name → ⊥
    earlier i j b l e =
        let r = at xs j l in
        let w : i < length (take j (map f xs)) = (let n = length-take-le j (map f xs) (omega arith) in omega arith) in
        let s = ap (λ n. n.name) (get_or-take j (map f xs) i no_ident b) ∙ e in
        let known : Named (get_or (map f xs) j no_ident) (take j (map f xs)) = (i, w, s) in
        (h r.before r.here r.after r.whole).fresh (subst (λ n. Named n (map f r.before)) (sym r.name) (subst (λ ns. Named (get_or (map f xs) j no_ident) ns) (sym r.names) known))

    pub once-each : Once (map f xs)
    once-each i j l b e =
        elim (cases_order i j) [
          | inl same ↦ same
          | inr (inl less) ↦ absurd (earlier i j less b e)
          | inr (inr more) ↦ absurd (earlier j i more l (sym e))
        ]
