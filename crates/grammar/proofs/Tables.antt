-- Tables of words: what holds of every word that may stand next, and where words lead.
use Rattle.std.proofs.Common.{◌≡◌, ℕ, Bool, true, false, cond, eqb, List, [], ◌∷◌, ◌++◌, get_or, Some, None, Option, sym, refl, ap, ◌∙◌, arith, eqb-true}
use Rattle.words.specs.declared.name.Ident.{Ident}
use Rattle.words.specs.declared.word.Keyword.{Keyword}
use Rattle.words.specs.declared.word.Keyword.TheVariants as k
use Rattle.words.specs.declared.word.Mark.{Mark as MarkWord}
use Rattle.words.specs.declared.word.Mark.TheVariants as m
use Rattle.words.specs.Signs.{Sign, Numeral}
use Rattle.words.specs.Signs as s
use Rattle.words.specs.Stream.{keywords}
use Rattle.grammar.specs.Table.{key_code, mark_code, Turn, go, new, accept, Alt, key, keys, mark, name, number, end, tried, first_of, among}

-- words go by their codes
keyed_by : (x : Keyword) → get_or keywords (key_code x) k.Contract ≡ x
keyed_by k.Contract = refl
keyed_by k.Out = refl
keyed_by k.In = refl
keyed_by k.Block = refl
keyed_by k.Exp = refl
keyed_by k.Imp = refl
keyed_by k.State = refl
keyed_by k.Process = refl
keyed_by k.New = refl
keyed_by k.Put = refl
keyed_by k.Free = refl
keyed_by k.Open = refl
keyed_by k.Close = refl
keyed_by k.Send = refl
keyed_by k.Pass = refl
keyed_by k.Receive = refl
keyed_by k.Case = refl
keyed_by k.Lost = refl
keyed_by k.Jump = refl
keyed_by k.End = refl

same_key : (x y : Keyword) → eqb (key_code x) (key_code y) ≡ true → x ≡ y
same_key x y e = sym (keyed_by x) ∙ ap (λ i. get_or keywords i k.Contract) (eqb-true (key_code x) (key_code y) e) ∙ keyed_by y

abbrev marks : List MarkWord
marks = m.OpenBrace ∷ m.CloseBrace ∷ m.Semicolon ∷ m.Bang ∷ m.Question ∷ m.Arrow ∷ []

marked_by : (x : MarkWord) → get_or marks (mark_code x) m.OpenBrace ≡ x
marked_by m.OpenBrace = refl
marked_by m.CloseBrace = refl
marked_by m.Semicolon = refl
marked_by m.Bang = refl
marked_by m.Question = refl
marked_by m.Arrow = refl

same-mark : (x y : MarkWord) → eqb (mark_code x) (mark_code y) ≡ true → x ≡ y
same-mark x y e = sym (marked_by x) ∙ ap (λ i. get_or marks i m.OpenBrace) (eqb-true (mark_code x) (mark_code y) e) ∙ marked_by y

module _ {Q R : Type 0} where
  abbrev pub Of : Option (Turn Q R) → (Turn Q R → Type 0) → Type 0
  Of None P = Unit {0}
  Of (Some t) P = P t

  -- what holds of each word that may stand next
  abbrev pub Edge : Alt Q R → (Sign → Turn Q R → Type 0) → Type 0
  Edge (key x t) P = P (s.Key x) t
  Edge (keys f) P = (x : Keyword) → Of (f x) (P (s.Key x))
  Edge (mark x t) P = P (s.Mark x) t
  Edge (name f) P = (n : Ident) → P (s.Name n) (f n)
  Edge (number f) P = (n : Numeral) → P (s.Number n) (f n)
  Edge (end t) P = P s.End t

  abbrev pub Edges : List (Alt Q R) → (Sign → Turn Q R → Type 0) → Type 0
  Edges [] P = Unit {0}
  Edges (a ∷ l) P = Edge a P × Edges l P

module _ {Q R : Type 0} (P : Sign → Turn Q R → Type 0) where
  keyed : (x : Keyword) (t : Turn Q R) → P (s.Key x) t → (y : Keyword) (b : Bool) → eqb (key_code x) (key_code y) ≡ b → Of (cond b (Some t) None) (P (s.Key y))
  keyed x t h y true e = rw (sym (same_key x y e)) h
  keyed x t h y false e = tt

  marked : (x : MarkWord) (t : Turn Q R) → P (s.Mark x) t → (y : MarkWord) (b : Bool) → eqb (mark_code x) (mark_code y) ≡ b → Of (cond b (Some t) None) (P (s.Mark y))
  marked x t h y true e = rw (sym (same-mark x y e)) h
  marked x t h y false e = tt

  one : (a : Alt Q R) → Edge a P → (x : Sign) → Of (tried a x) (P x)
  one (key y t) h (s.Key x) = keyed y t h x (eqb (key_code y) (key_code x)) refl
  one (key y t) h (s.Mark x) = tt
  one (key y t) h (s.Name n) = tt
  one (key y t) h (s.Number n) = tt
  one (key y t) h s.End = tt
  one (keys f) h (s.Key x) = h x
  one (keys f) h (s.Mark x) = tt
  one (keys f) h (s.Name n) = tt
  one (keys f) h (s.Number n) = tt
  one (keys f) h s.End = tt
  one (mark y t) h (s.Key x) = tt
  one (mark y t) h (s.Mark x) = marked y t h x (eqb (mark_code y) (mark_code x)) refl
  one (mark y t) h (s.Name n) = tt
  one (mark y t) h (s.Number n) = tt
  one (mark y t) h s.End = tt
  one (name f) h (s.Key x) = tt
  one (name f) h (s.Mark x) = tt
  one (name f) h (s.Name n) = h n
  one (name f) h (s.Number n) = tt
  one (name f) h s.End = tt
  one (number f) h (s.Key x) = tt
  one (number f) h (s.Mark x) = tt
  one (number f) h (s.Name n) = tt
  one (number f) h (s.Number n) = h n
  one (number f) h s.End = tt
  one (end t) h (s.Key x) = tt
  one (end t) h (s.Mark x) = tt
  one (end t) h (s.Name n) = tt
  one (end t) h (s.Number n) = tt
  one (end t) h s.End = h

  first : (x : Sign) (o o' : Option (Turn Q R)) → Of o (P x) → Of o' (P x) → Of (first_of o o') (P x)
  first x (Some t) o' h h' = h
  first x None o' h h' = h'

  pub leads : (l : List (Alt Q R)) → Edges l P → (x : Sign) → Of (among l x) (P x)
  leads [] h x = tt
  leads (a ∷ l) h x = first x (tried a x) (among l x) (one a h.0 x) (leads l h.1 x)

module _ {Q R : Type 0} where
  abbrev pub onward : Option (Turn Q R) → (Q → Option Q) → Option Q
  onward None f = None
  onward (Some (go q)) f = f q
  onward (Some (new q c)) f = f q
  onward (Some (accept x)) f = None

  -- where words lead, limits and second names aside
  abbrev pub walk : (Q → List (Alt Q R)) → Q → List Sign → Option Q
  walk ask q [] = Some q
  walk ask q (x ∷ xs) = onward (among (ask q) x) (λ q'. walk ask q' xs)

pub none-some : {Q : Type 0} (q : Q) → None ≡ Some q → ⊥
none-some q e = let z : ◌≡◌ {A = ℕ} 0 1 = cc in omega arith

module _ {Q R : Type 0} (ask : Q → List (Alt Q R)) where
  along_turn : (xs ys : List Sign) (q' : Q) → ((q : Q) → walk ask q xs ≡ Some q' → walk ask q (xs ++ ys) ≡ walk ask q' ys)
      → (o : Option (Turn Q R)) → onward o (λ q. walk ask q xs) ≡ Some q' → onward o (λ q. walk ask q (xs ++ ys)) ≡ walk ask q' ys
  along_turn xs ys q' ih None e = absurd (none-some q' e)
  along_turn xs ys q' ih (Some (go q)) e = ih q e
  along_turn xs ys q' ih (Some (new q c)) e = ih q e
  along_turn xs ys q' ih (Some (accept x)) e = absurd (none-some q' e)

  pub along : (xs ys : List Sign) (q q' : Q) → walk ask q xs ≡ Some q' → walk ask q (xs ++ ys) ≡ walk ask q' ys
  along [] ys q q' e = let p : q ≡ q' = cc in ap (λ r. walk ask r ys) p
  along (x ∷ xs) ys q q' e = along_turn xs ys q' (λ r. along xs ys r q') (among (ask q) x) e
