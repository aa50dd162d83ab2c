-- Names and families: the test for a name is right.
use Rattle.std.proofs.Common.{◌≡◌, ℕ, true, eqb, ◌||◌, List, [], ◌∷◌, map, Decides, refl, ap, ◌∙◌}
use Rattle.std.specs.List.{list_any}
use Rattle.std.specs.Str.{bytes_eq}
use Rattle.std.proofs.lemmas.List.{get_or_default}
use Rattle.std.proofs.lemmas.List.Folds.{Any-from_list_any, list_any_at}
use Rattle.std.proofs.lemmas.Bool.Decides.{Decides-eqb, Decides-and, Decides-like}
use Rattle.std.proofs.lemmas.Slice.Eq.{bytes_eq-Decides}
use Rattle.words.specs.declared.name.Name.{Name as NameBytes}
use Rattle.words.specs.declared.name.Ident.{Ident}
use Rattle.grammar.specs.Families.{no_ident, Named}
use Rattle.grammar.specs.Table.{same_name, known}

name_of : (l m : ℕ) (xs ys : List ℕ) → l ≡ m → xs ≡ ys → ◌≡◌ {A = NameBytes} (record { len = l; bytes = xs }) (record { len = m; bytes = ys })
name_of l m xs ys p q = cc

pub name_decides : (a b : NameBytes) → Decides (same_name a b) (a ≡ b)
name_decides a b =
    Decides-like (same_name a b) (λ h. name_of a.len b.len a.bytes b.bytes h.0 h.1) (λ e. (ap (λ x. x.len) e, ap (λ x. x.bytes) e))
    (Decides-and (eqb a.len b.len) (bytes_eq a.bytes b.bytes) (Decides-eqb a.len b.len) (bytes_eq-Decides a.bytes b.bytes))

pub named : (n : Ident) (ns : List Ident) → known n ns ≡ true → Named n ns
named n ns e =
    let a = Any-from_list_any (λ x. same_name x.name n.name) ns e in
    (a.0, a.2, ap (λ x. x.name) (get_or_default ns a.0 no_ident a.1 a.2 ∙ a.3) ∙ (name_decides a.1.name n.name).0 a.4)

pub is_known : (n : Ident) (ns : List Ident) → Named n ns → known n ns ≡ true
is_known n ns h = list_any_at (λ x. same_name x.name n.name) ns h.0 no_ident h.1 ((name_decides _ _).1 h.2)

-- a search over what bears names
pub known_any : {X : Type 0} (f : X → Ident) (n : Ident) (xs : List X) → list_any (λ x. same_name (f x).name n.name) xs ≡ known n (map f xs)
known_any f n [] = refl
known_any f n (x ∷ xs) = ap (λ b. same_name (f x).name n.name || b) (known_any f n xs)
