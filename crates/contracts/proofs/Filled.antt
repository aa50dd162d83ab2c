-- Rows of targets that hold the first k moves as written, and one more.
use Rattle.std.proofs.Common.{◌≡◌, ℕ, zero, suc, ◌+◌, ◌<◌, ◌≤◌, ◌⊎◌, List, [], length, get_or, replicate, None, Option, sym, refl, ap, ◌∙◌, subst, inl, inr, ⊎_elim, arith}
use Rattle.std.proofs.lemmas.List.{length-set, get_or-replicate}
use Rattle.std.proofs.lemmas.Bool.{cases_lt, cases_order}
use Rattle.contracts.specs.declared.declaration.Written.{Written}
use Rattle.contracts.specs.Moves.{Goes}
use Rattle.contracts.specs.Numbers.{written_at}
use Rattle.contracts.specs.Written.{Listed, SecondMove}
use Rattle.contracts.specs.Tables.{nowhere}
use Rattle.contracts.proofs.Ranks.{filled}
use Rattle.contracts.proofs.Rows.{put, put_long, put_there, put_else, at_place, goes-once, goes_at}

module _ (ws : List Written) (rows : List (List (Option ℕ))) (k c : ℕ) (mine : (written_at ws k).contract ≡ c)
    (tall : (written_at ws k).state < length rows) (wide : (written_at ws k).message < length (get_or rows (written_at ws k).state [])) where
  abbrev pub new : List (List (Option ℕ))
  new = put rows (written_at ws k).state (written_at ws k).message (written_at ws k).target

  pub sound_more : ((s m u : ℕ) → Goes rows s m u → Listed ws k c s m u) → (s m u : ℕ) → Goes new s m u → Listed ws (k + 1) c s m u
  sound_more sound s m u g = at (at_place rows (written_at ws k).state (written_at ws k).message (written_at ws k).target tall s m)
    where
      at : ((s ≡ (written_at ws k).state) × (m ≡ (written_at ws k).message)) ⊎ (s ≡ (written_at ws k).state → m ≡ (written_at ws k).message → ⊥) → Listed ws (k + 1) c s m u
      at (inl (a, b)) = (
        k,
        omega arith,
        mine,
        sym a,
        sym b,
        goes-once new (written_at ws k).state (written_at ws k).message (written_at ws k).target u
            (put_there rows (written_at ws k).state (written_at ws k).message (written_at ws k).target tall wide)
            (subst (λ x. Goes new x (written_at ws k).message u) a (subst (λ y. Goes new s y u) b g)),
      )
      at (inr other) =
          let (i, l, o, x, y, z) = sound s m u (sym (put_else rows (written_at ws k).state (written_at ws k).message (written_at ws k).target tall s m other) ∙ g) in
          (i, omega arith, o, x, y, z)

  pub whole_more : k < length ws → (SecondMove ws k → ⊥) → ((s m u : ℕ) → Listed ws k c s m u → Goes rows s m u) → (s m u : ℕ) → Listed ws (k + 1) c s m u → Goes new s m u
  whole_more within once whole s m u (i, l, o, x, y, z) = at (cases_lt i k)
    where
      at : (i < k) ⊎ (k ≤ i) → Goes new s m u
      at (inl below) =
          put_else rows (written_at ws k).state (written_at ws k).message (written_at ws k).target tall s m
          (λ a b. once (within, (i, below, (o ∙ sym mine, x ∙ a), y ∙ b))) ∙ whole s m u (i, below, o, x, y, z)
      at (inr not) =
          let e : k ≡ i = omega arith in
          goes_at new (ap (λ j. (written_at ws j).state) e ∙ x) (ap (λ j. (written_at ws j).message) e ∙ y) (ap (λ j. (written_at ws j).target) e ∙ z)
          (put_there rows (written_at ws k).state (written_at ws k).message (written_at ws k).target tall wide)

-- rows with no target
abbrev pub bare : ℕ → List (List (Option ℕ))
bare n = replicate n (replicate 16 None)

bare_at : (n s : ℕ) → (get_or (bare n) s [] ≡ replicate 16 None) ⊎ (get_or (bare n) s [] ≡ [])
bare_at zero s = inr refl
bare_at (suc n) zero = inl refl
bare_at (suc n) (suc s) = bare_at n s

-- they hold no move
pub none_yet : (ws : List Written) (c s m u : ℕ) → Goes (bare 16) s m u → Listed ws 0 c s m u
none_yet ws c s m u g = absurd (nowhere u (sym empty ∙ g))
  where
    empty : get_or (get_or (bare 16) s []) m None ≡ None
    empty = ⊎_elim (λ e. ap (λ (r : List (Option ℕ)). get_or r m None) e ∙ filled 16 m None) (λ e. ap (λ (r : List (Option ℕ)). get_or r m None) e) (bare_at 16 s)

pub bare_long : (s : ℕ) → s < 16 → length (get_or (bare 16) s []) ≡ 16
bare_long s l = ap length (get_or-replicate 16 s (replicate 16 None) [] l)

-- a move of another contract changes nothing
module _ (ws : List Written) (k c : ℕ) (other : (written_at ws k).contract ≡ c → ⊥) where
  pub listed_back : (s m u : ℕ) → Listed ws (k + 1) c s m u → Listed ws k c s m u
  listed_back s m u (i, l, o, x, y, z) = (i, ⊎_elim (λ same. absurd (other (ap (λ j. (written_at ws j).contract) (sym same) ∙ o))) (⊎_elim (λ less. less) (λ more. omega arith)) (cases_order i k), o, x, y, z)

pub listed_on : (ws : List Written) (k c s m u : ℕ) → Listed ws k c s m u → Listed ws (k + 1) c s m u
listed_on ws k c s m u (i, l, o, x, y, z) = (i, omega arith, o, x, y, z)

-- the rows hold just the moves of contract c among the first k
abbrev pub Filled : List Written → List (List (Option ℕ)) → ℕ → ℕ → Type 0
Filled ws rows k c =
    (length rows ≡ 16)
    × ((s : ℕ) → s < 16 → length (get_or rows s []) ≡ 16)
    × ((s m u : ℕ) → Goes rows s m u → Listed ws k c s m u)
    × ((s m u : ℕ) → Listed ws k c s m u → Goes rows s m u)

pub filled_none : (ws : List Written) (c : ℕ) → Filled ws (bare 16) 0 c
filled_none ws c = (refl, bare_long, none_yet ws c, λ s m u h. absurd (omega (arith, h.1)))

pub filled_same : (ws : List Written) (rows : List (List (Option ℕ))) (k c : ℕ) → ((written_at ws k).contract ≡ c → ⊥) → Filled ws rows k c → Filled ws rows (k + 1) c
filled_same ws rows k c other (tall, wide, sound, whole) =
    (tall, wide, (λ s m u g. listed_on ws k c s m u (sound s m u g)), λ s m u h. whole s m u (listed_back ws k c other s m u h))

pub filled_more : (ws : List Written) (rows : List (List (Option ℕ))) (k c : ℕ) → k < length ws → (written_at ws k).contract ≡ c → (written_at ws k).state < 16 → (written_at ws k).message < 16 → (SecondMove ws k → ⊥) → Filled ws rows k c
    → Filled ws (put rows (written_at ws k).state (written_at ws k).message (written_at ws k).target) (k + 1) c
filled_more ws rows k c within mine state message once (tall, wide, sound, whole) =
    let in-s : (written_at ws k).state < length rows = omega arith in
    let in-m : (written_at ws k).message < length (get_or rows (written_at ws k).state []) = omega (arith, wide (written_at ws k).state state) in (
      length-set rows (written_at ws k).state _ ∙ tall,
      (λ s l. put_long rows (written_at ws k).state (written_at ws k).message (written_at ws k).target in-s s ∙ wide s l),
      sound_more ws rows k c mine in-s in-m sound,
      whole_more ws rows k c mine in-s in-m within once whole,
    )
