-- The first name of those that have a property.
--   first_either      of those with P or Q it is the earlier of the first with P and the first with Q
--   first-all         it is among all once it is among as many
--   first_more        among one more it is the earlier of the first before and the first there
--   first_like        it depends on which names have the property alone
--   payload-first     a payload's, where it has no number
use Rattle.std.proofs.Common.{◌≡◌, ℕ, ◌+◌, ◌≤◌, ◌⊎◌, List, Some, None, Ok, Err, Option, Result, sym, subst, inl, inr, arith, MatchResult}
use Rattle.std.specs.Result.{result_err}
use Rattle.std.proofs.lemmas.Bool.{cases_eq}
use Rattle.words.specs.declared.name.Ident.{Ident}
use Rattle.syntax.specs.declared.tree.Payload.{Payload as PayloadTree}
use Rattle.syntax.specs.declared.tree.Payload.TheVariants.{Nothing, Block, End}
use Rattle.syntax.specs.Trees.{HeadTree}
use Rattle.contracts.specs.declared.declaration.Payload.{Payload}
use Rattle.contracts.specs.Names.{Among, Earlier, EndMissing, FirstOrNone, NoLater, PayloadMissing}
use Rattle.contracts.specs.Numbers.{PayloadAs}

pub first_like : (P Q : Ident → Type 0) (r : Option Ident) → ((d : Ident) → P d → Q d) → ((d : Ident) → Q d → P d) → FirstOrNone P r → FirstOrNone Q r
first_like P Q None to from h = λ d q. h d (from d q)
first_like P Q (Some d) to from h = (to d h.0, λ e q. h.1 e (from e q))

has : (P : Ident → Type 0) (a : Option Ident) (d : Ident) → FirstOrNone P a → a ≡ Some d → P d
has P None d p e = let z : ◌≡◌ {A = ℕ} 0 1 = cc in absurd (omega arith)
has P (Some x) d p e = let s : x ≡ d = cc in subst P s p.0

none_has : (P : Ident → Type 0) (a : Option Ident) → FirstOrNone P a → a ≡ None → (d : Ident) → P d → ⊥
none_has P None p e = p
none_has P (Some x) p e = λ d w. let z : ◌≡◌ {A = ℕ} 0 1 = cc in omega arith

before : (P : Ident → Type 0) (a : Option Ident) (d : Ident) → FirstOrNone P a → NoLater d a → (e : Ident) → P e → d.place ≤ e.place
before P None d p h e w = absurd (p e w)
before P (Some x) d p h e w = omega (arith, p.1 e w)

pub first_either : (P Q : Ident → Type 0) (a b r : Option Ident) → FirstOrNone P a → FirstOrNone Q b → Earlier a b r → FirstOrNone (λ d. P d ⊎ Q d) r
first_either P Q a b None p q e = λ d w. elim w [ inl x ↦ none_has P a p e.0 d x | inr x ↦ none_has Q b q e.1 d x ]
first_either P Q a b (Some d) p q e = (
  elim e.0 [ inl w ↦ inl (has P a d p w) | inr w ↦ inr (has Q b d q w) ],
  λ f w. elim w [ inl x ↦ before P a d p e.1 f x | inr x ↦ before Q b d q e.2 f x ],
)

pub first-all : (P : ℕ → Ident → Type 0) (n m : ℕ) (r : Option Ident) → n ≤ m → m ≤ n → FirstOrNone (Among n P) r → FirstOrNone (Among m P) r
first-all P n m r l g h = let e : n ≡ m = omega arith in subst (λ k. FirstOrNone (Among k P) r) e h

pub first_more : (P : ℕ → Ident → Type 0) (n : ℕ) (a b r : Option Ident) → FirstOrNone (Among n P) a → FirstOrNone (P n) b → Earlier a b r → FirstOrNone (Among (n + 1) P) r
first_more P n a b r p q e =
    first_like (λ d. Among n P d ⊎ P n d) (Among (n + 1) P) r
    (λ d w. elim w [ inl x ↦ (x.0, omega (arith, x.1), x.2) | inr x ↦ (n, omega arith, x) ])
    (λ d w. elim (cases_eq w.0 n) [
      | inl s ↦ inr (subst (λ i. P i d) s w.2)
      | inr s ↦ inl (w.0, omega (arith, w.1, s), w.2)
    ])
    (first_either (Among n P) (P n) a b r p q e)

-- of an end's two names at most one is missing
only : (hs : List HeadTree) (c s d e : Ident) → EndMissing hs c s d → EndMissing hs c s e → d.place ≤ e.place
only hs c s d e (inl x) (inl y) = let p : d ≡ e = cc in rw p (omega arith)
only hs c s d e (inl x) (inr y) = absurd (x.1 y.1.0 y.1.1)
only hs c s d e (inr x) (inl y) = absurd (y.1 x.1.0 x.1.1)
only hs c s d e (inr x) (inr y) = let p : d ≡ e = cc in rw p (omega arith)

refused : (hs : List HeadTree) (x : PayloadTree) (r : Result Payload Ident) → MatchResult r (PayloadAs hs x) (PayloadMissing hs x) → FirstOrNone (PayloadMissing hs x) (result_err r)
refused hs Nothing (Ok y) h = λ d w. w
refused hs Nothing (Err e) h = absurd h
refused hs Block (Ok y) h = λ d w. w
refused hs Block (Err e) h = absurd h
refused hs (End role c s) (Ok y) h = λ d w. elim w [ inl m ↦ m.1 h.0 h.3.0 | inr m ↦ m.2 h.0 h.1 h.3 ]
refused hs (End role c s) (Err e) h = (h, λ d w. only hs c s e d h w)

pub payload-first : (hs : List HeadTree) (x : PayloadTree) (r : Result Payload Ident) (o : Option Ident) → MatchResult r (PayloadAs hs x) (PayloadMissing hs x) → o ≡ result_err r → FirstOrNone (PayloadMissing hs x) o
payload-first hs x r o h e = let P : Option Ident → Type 0 = FirstOrNone (PayloadMissing hs x) in subst P (sym e) (refused hs x r h)
