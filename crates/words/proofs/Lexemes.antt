-- What begins at a byte has at least one byte and no more than are left.
use Rattle.std.proofs.Common.{◌≡◌, ℕ, ◌+◌, ◌<◌, ◌≤◌, Bool, true, eqb, ltb, List, [], ◌∷◌, length, get_or, take, drop, Some, None, Option, sym, refl, ap, ◌∙◌, inl, inr, find, arith}
use Rattle.std.specs.List.{prefix_len}
use Rattle.std.specs.Str.{bytes_eq}
use Rattle.std.proofs.lemmas.Slice.Eq.{bytes_eq-Decides}
use Rattle.std.proofs.lemmas.List.Sums.{prefix_len-le-length}
use Rattle.std.proofs.lemmas.List.{length-take-le, get_or-drop, length-drop, get_or_past}
use Rattle.std.proofs.lemmas.Bool.{cond_both, ltb-false, eqb-true, cases_lt, or_left}
use Rattle.words.specs.declared.name.Ident.{Ident}
use Rattle.words.specs.declared.word.Keyword.{Keyword}
use Rattle.words.specs.declared.word.Mark.TheVariants as m
use Rattle.words.specs.Runs.{letter, digit, in_name}
use Rattle.words.specs.Signs.{Sign, Numeral, spelling, size_of, name_of}
use Rattle.words.specs.Signs as s
use Rattle.words.specs.Stream.{Lexeme, one, none, keywords, reserved, key_or_name, name_lexeme, number_lexeme, minus_lexeme, mark_lexeme, lexeme}

-- a name says the place p and has at most 16 bytes
abbrev pub NameAt : ℕ → Sign → Type 0
NameAt p x = (i : Ident) → x ≡ s.Name i → (i.place ≡ p) × (i.name.len ≤ 16)

-- a number says the place p
abbrev pub NumberAt : ℕ → Sign → Type 0
NumberAt p x = (i : Numeral) → x ≡ s.Number i → i.place ≡ p

-- a word at the place p has at least one and at most n bytes
abbrev pub Fitting : ℕ → ℕ → Lexeme → Type 0
Fitting n p (one x) = (1 ≤ size_of x) × (size_of x ≤ n) × NameAt p x × NumberAt p x
Fitting n p (none l) = Unit {0}

prefix_len-first : (P : ℕ → Bool) (bs : List ℕ) → 1 ≤ length bs → P (get_or bs 0 0) ≡ true → 1 ≤ prefix_len P bs
prefix_len-first P [] h e = omega arith
prefix_len-first P (b ∷ bs) h e = rw e (omega arith)

-- a reserved word or a name has the bytes that it was made from
key-size : (p : ℕ) (bs : List ℕ) (ks : List Keyword) → size_of (key_or_name (find (λ x. bytes_eq bs (spelling x)) ks) bs p) ≡ length bs
key-size p bs [] = refl
key-size p bs (x ∷ xs) =
    cond_both (bytes_eq bs (spelling x)) (Some x) (find (λ y. bytes_eq bs (spelling y)) xs) (λ o. size_of (key_or_name o bs p) ≡ length bs)
    (λ e. ap length (sym ((bytes_eq-Decides bs (spelling x)).0 e))) (λ _. key-size p bs xs)

key-name : (p : ℕ) (bs : List ℕ) → length bs ≤ 16 → (o : Option Keyword) → NameAt p (key_or_name o bs p)
key-name p bs h (Some x) i e = let z : ◌≡◌ {A = ℕ} 0 1 = cc in omega arith
key-name p bs h None i e =
    let q : i ≡ record { place = p; name = name_of bs } = cc in
    (ap (λ j. j.place) q, omega (arith, ap (λ j. j.name.len) q))

key_no_number : (p : ℕ) (bs : List ℕ) (o : Option Keyword) → NumberAt p (key_or_name o bs p)
key_no_number p bs (Some x) i e = let z : ◌≡◌ {A = ℕ} 0 1 = cc in absurd (omega arith)
key_no_number p bs None i e = let z : ◌≡◌ {A = ℕ} 0 1 = cc in absurd (omega arith)

module _ (n p : ℕ) where
  abbrev Fits : Lexeme → Type 0
  Fits = Fitting n p

  pub name_fits : (bs : List ℕ) (k : ℕ) → n ≡ length bs → 1 ≤ k → k ≤ n → Fits (name_lexeme bs k p)
  name_fits bs k e l h =
      let w = take k bs in
      let t : length w ≡ k = length-take-le k bs (omega arith) in
      let z : size_of (key_or_name (reserved w) w p) ≡ k = key-size p w keywords ∙ t in
      cond_both (ltb 16 k) (none k) (one (key_or_name (reserved w) w p)) Fits (λ _. tt)
      (λ q. (omega arith, omega arith, key-name p w (omega (arith, ltb-false 16 k q)) (reserved w), key_no_number p w (reserved w)))

  pub number_fits : (bs : List ℕ) (a d : ℕ) → n ≡ length bs → 1 ≤ d → a + d ≤ n → Fits (number_lexeme bs a d p)
  number_fits bs a d e l h =
      let w = take (a + d) bs in
      let t : length w ≡ a + d = length-take-le (a + d) bs (omega arith) in
      cond_both (ltb 3 d) (none (a + d)) (one (s.Number (record { place = p; bytes = w }))) Fits (λ _. tt)
      (λ q. (omega arith, omega arith, (λ i g. let z : ◌≡◌ {A = ℕ} 0 1 = cc in absurd (omega arith)), λ i g. let e : record { place = p; bytes = w } ≡ i = cc in ap (λ j. j.place) (sym e)))

  mark_fits_one : (x : m.the_data) → 1 ≤ size_of (s.Mark x) → size_of (s.Mark x) ≤ n → Fits (one (s.Mark x))
  mark_fits_one x l h = (l, h, (λ i g. let z : ◌≡◌ {A = ℕ} 0 1 = cc in absurd (omega arith)), λ i g. let z : ◌≡◌ {A = ℕ} 0 1 = cc in absurd (omega arith))

  pub mark_fits : 1 ≤ n → (b : ℕ) → Fits (mark_lexeme b)
  mark_fits h b =
      cond_both (eqb b 123) _ _ Fits (λ _. mark_fits_one m.OpenBrace (omega arith) h)
      (λ _. cond_both (eqb b 125) _ _ Fits (λ _. mark_fits_one m.CloseBrace (omega arith) h)
      (λ _. cond_both (eqb b 59) _ _ Fits (λ _. mark_fits_one m.Semicolon (omega arith) h)
      (λ _. cond_both (eqb b 33) _ _ Fits (λ _. mark_fits_one m.Bang (omega arith) h)
      (λ _. cond_both (eqb b 63) _ _ Fits (λ _. mark_fits_one m.Question (omega arith) h) (λ _. tt)))))

-- a byte that is not 0 stands within the list
within_from_byte : (bs : List ℕ) (i : ℕ) → (get_or bs i 0 ≡ 0 → ⊥) → i < length bs
within_from_byte bs i h = elim (cases_lt i (length bs)) [ inl l ↦ l | inr l ↦ absurd (h (get_or_past bs i 0 l)) ]

byte-within : (bs : List ℕ) (i v : ℕ) → 1 ≤ v → eqb (get_or bs i 0) v ≡ true → i < length bs
byte-within bs i v h e = within_from_byte bs i (λ z. omega (arith, eqb-true (get_or bs i 0) v e))

digit-within : (bs : List ℕ) (i : ℕ) → digit (get_or bs i 0) ≡ true → i < length bs
digit-within bs i e = within_from_byte bs i (λ z. let q : digit 0 ≡ true = ap digit (sym z) ∙ e in let y : ◌≡◌ {A = ℕ} 0 1 = cc in omega arith)

pub minus_fits : (bs : List ℕ) (p : ℕ) → 1 ≤ length bs → Fitting (length bs) p (minus_lexeme bs p)
minus_fits bs p h =
    let n = length bs in
    cond_both (eqb (get_or bs 1 0) 62) _ _ (Fitting n p)
    (λ e. mark_fits_one n p m.Arrow (omega arith) (omega (arith, byte-within bs 1 62 (omega arith) e)))
    (λ _. cond_both (digit (get_or bs 1 0)) _ _ (Fitting n p)
    (λ e.
    let d = digit-within bs 1 e in
    let g : digit (get_or (drop 1 bs) 0 0) ≡ true = ap digit (get_or-drop 1 bs 0 0) ∙ e in
    let l = length-drop 1 bs in
    number_fits n p bs 1 (prefix_len digit (drop 1 bs)) refl (prefix_len-first digit (drop 1 bs) (omega arith) g) (omega (arith, prefix_len-le-length digit (drop 1 bs))))
    (λ _. tt))

pub lexeme_fits : (bs : List ℕ) (p : ℕ) → 1 ≤ length bs → Fitting (length bs) p (lexeme bs p)
lexeme_fits bs p h =
    let n = length bs in
    cond_both (letter (get_or bs 0 0)) _ _ (Fitting n p)
    (λ e. name_fits n p bs (prefix_len in_name bs) refl (prefix_len-first in_name bs h (or_left (letter (get_or bs 0 0)) _ e)) (prefix_len-le-length in_name bs))
    (λ _. cond_both (digit (get_or bs 0 0)) _ _ (Fitting n p)
    (λ e. number_fits n p bs 0 (prefix_len digit bs) refl (prefix_len-first digit bs h e) (omega (arith, prefix_len-le-length digit bs)))
    (λ _. cond_both (eqb (get_or bs 0 0) 45) _ _ (Fitting n p) (λ _. minus_fits bs p h) (λ _. mark_fits n p h (get_or bs 0 0))))
