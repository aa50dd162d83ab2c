-- How the words of a text go on: past bytes that are skipped, past blanks, and past what begins at a place.
use Rattle.std.proofs.Common.{◌≡◌, ℕ, zero, suc, ◌+◌, ◌-◌, ◌<◌, ◌≤◌, true, false, cond, ltb, List, [], ◌∷◌, length, drop, Ok, Err, sym, ap, ◌∙◌, subst, add-one, arith}
use Rattle.std.proofs.lemmas.List.{drop_all, drop-drop, length-drop}
use Rattle.std.proofs.lemmas.Bool.{cond_both, cond-true, lt-ltb, ltb-true, ltb-false}
use Rattle.std.specs.List.{prefix_len}
use Rattle.words.specs.Runs.{blank}
use Rattle.words.specs.Signs.{Word, size_of}
use Rattle.words.specs.Stream.{Lexeme, one, none, lexeme, Stream, stop, bad, word, fetched, stream, bytes_in, Proper, WellPlaced}
use Rattle.words.specs.Reading.{placed}
use Rattle.words.proofs.Lexemes.{Fitting, lexeme_fits}

fetched_well_placed : (n p : ℕ) (l : Lexeme) (onward : ℕ → Stream) → Fitting n p l → ((k : ℕ) → WellPlaced (onward k)) → WellPlaced (fetched l p onward)
fetched_well_placed n p (one x) onward f h = (λ i e. (f.2 i e).0, f.3, f.0, h (size_of x))
fetched_well_placed n p (none m) onward f h = tt

pub stream_well_placed : (bs : List ℕ) (k p : ℕ) → WellPlaced (stream bs k p)
stream_well_placed [] k p = tt
stream_well_placed (b ∷ bs) k p =
    cond_both (ltb 0 k) _ _ WellPlaced (λ _. stream_well_placed bs (k - 1) (p + 1))
    (λ _. cond_both (blank b) _ _ WellPlaced (λ _. stream_well_placed bs 0 (p + 1))
    (λ _. fetched_well_placed (length (b ∷ bs)) p (lexeme (b ∷ bs) p) (λ n. stream bs (n - 1) (p + 1)) (lexeme_fits (b ∷ bs) p (omega arith))
    (λ n. stream_well_placed bs (n - 1) (p + 1))))

well_placed_proper : (t : Stream) → WellPlaced t → Proper t
well_placed_proper (stop p) h = tt
well_placed_proper (bad p n) h = tt
well_placed_proper (word w r) h = (h.0, h.2, well_placed_proper r h.3)

pub stream-proper : (bs : List ℕ) (k p : ℕ) → Proper (stream bs k p)
stream-proper bs k p = well_placed_proper (stream bs k p) (stream_well_placed bs k p)

fetched-bytes : (n p : ℕ) (l : Lexeme) (onward : ℕ → Stream) → Fitting (n + 1) p l
    → ((k : ℕ) → bytes_in (onward k) ≤ n - (k - 1)) → bytes_in (fetched l p onward) ≤ n + 1
fetched-bytes n p (one x) onward f h = omega (arith, f.0, f.1, h (size_of x))
fetched-bytes n p (none m) onward f h = omega arith

pub stream-bytes : (bs : List ℕ) (k p : ℕ) → bytes_in (stream bs k p) ≤ length bs - k
stream-bytes [] k p = omega arith
stream-bytes (b ∷ bs) k p =
    cond_both (ltb 0 k) _ _ (λ x. bytes_in x ≤ length (b ∷ bs) - k)
    (λ e. omega (arith, stream-bytes bs (k - 1) (p + 1), ltb-true 0 k e))
    (λ e. cond_both (blank b) _ _ (λ x. bytes_in x ≤ length (b ∷ bs) - k)
    (λ _. omega (arith, stream-bytes bs 0 (p + 1), ltb-false 0 k e))
    (λ _.
    let f = lexeme_fits (b ∷ bs) p (omega arith) in
    let on : ℕ → Stream = λ n. stream bs (n - 1) (p + 1) in
    let l = fetched-bytes (length bs) p (lexeme (b ∷ bs) p) on (rw (add-one (length bs)) f) (λ n. stream-bytes bs (n - 1) (p + 1)) in
    omega (arith, l, ltb-false 0 k e)))

-- after k bytes
pub stream_skip : (bs : List ℕ) (k p : ℕ) → k ≤ length bs → stream bs k p ≡ stream (drop k bs) 0 (p + k)
stream_skip [] zero p h = ap stop (omega arith)
stream_skip [] (suc k) p h = absurd (omega arith)
stream_skip (b ∷ bs) zero p h = ap (λ q. stream (b ∷ bs) 0 q) (omega arith)
stream_skip (b ∷ bs) (suc k) p h =
    cond-true (ltb 0 (suc k)) _ _ (lt-ltb 0 (suc k) (omega arith)) ∙ (ap (λ j. stream bs j (p + 1)) (omega arith)
    ∙ (stream_skip bs k (p + 1) (omega arith) ∙ ap (λ q. stream (drop k bs) 0 q) (omega arith)))

-- what is fetched where no blank stands in front
abbrev pub first : List ℕ → ℕ → Stream
first [] p = stop p
first (b ∷ bs) p = fetched (lexeme (b ∷ bs) p) p (λ n. stream bs (n - 1) (p + 1))

-- one more than n
one_more : (n : ℕ) → 1 + n ≡ suc n
one_more n = omega arith

-- past the blanks
pub stream_blanks : (bs : List ℕ) (p : ℕ) → stream bs 0 p ≡ first (drop (prefix_len blank bs) bs) (p + prefix_len blank bs)
stream_blanks [] p = ap stop (omega arith)
stream_blanks (b ∷ bs) p =
    elim (blank b)
    as (λ t. cond t (stream bs 0 (p + 1)) (first (b ∷ bs) p) ≡ first (drop (cond t (1 + prefix_len blank bs) 0) (b ∷ bs)) (p + cond t (1 + prefix_len blank bs) 0)) [
      | true ↦
          rw (one_more (prefix_len blank bs)) (stream_blanks bs (p + 1) ∙ ap (λ q. first (drop (prefix_len blank bs) bs) q) (omega arith))
      | false ↦ ap (λ q. first (b ∷ bs) q) (omega arith)
    ]

module _ (n p : ℕ) where
  pub taken_fits : (l : Lexeme) (w : Word) → Ok w ≡ placed p l → Fitting n p l → Fitting n p (one w.sign)
  taken_fits (one x) w e f = let q : x ≡ w.sign = cc in subst (λ y. Fitting n p (one y)) q f
  taken_fits (none m) w e f = absurd (let z : ◌≡◌ {A = ℕ} 0 1 = cc in omega arith)

module _ (p : ℕ) (onward : ℕ → Stream) where
  taken : (l : Lexeme) (w : Word) → Ok w ≡ placed p l → fetched l p onward ≡ word w (onward (size_of w.sign))
  taken (one x) w e =
      let q : record { place = p; sign = x } ≡ w = cc in
      ap (λ v. word v (onward (size_of v.sign))) q
  taken (none m) w e = absurd (let z : ◌≡◌ {A = ℕ} 0 1 = cc in omega arith)

  refused : (l : Lexeme) (n : ℕ) → Err n ≡ placed p l → fetched l p onward ≡ bad p n
  refused (one x) n e = absurd (let z : ◌≡◌ {A = ℕ} 0 1 = cc in omega arith)
  refused (none m) n e = let q : m ≡ n = cc in ap (bad p) q

pub first_taken : (bs : List ℕ) (p : ℕ) (w : Word) → 1 ≤ length bs → Ok w ≡ placed p (lexeme bs p)
    → first bs p ≡ word w (stream (drop (size_of w.sign) bs) 0 (p + size_of w.sign))
first_taken [] p w h e = absurd (omega arith)
first_taken (b ∷ bs) p w h e =
    let n = size_of w.sign in
    let f = taken_fits (length (b ∷ bs)) p (lexeme (b ∷ bs) p) w e (lexeme_fits (b ∷ bs) p (omega arith)) in
    let k : suc (n - 1) ≡ n = omega (arith, f.0) in
    let g : stream bs (n - 1) (p + 1) ≡ stream (drop (suc (n - 1)) (b ∷ bs)) 0 (p + suc (n - 1)) =
    stream_skip bs (n - 1) (p + 1) (omega (arith, f.0, f.1)) ∙ ap (λ q. stream (drop (n - 1) bs) 0 q) (omega arith) in
    taken p (λ m. stream bs (m - 1) (p + 1)) (lexeme (b ∷ bs) p) w e ∙ ap (word w) (g ∙ ap (λ m. stream (drop m (b ∷ bs)) 0 (p + m)) k)

pub first-refused : (bs : List ℕ) (p n : ℕ) → 1 ≤ length bs → Err n ≡ placed p (lexeme bs p) → first bs p ≡ bad p n
first-refused [] p n h e = absurd (omega arith)
first-refused (b ∷ bs) p n h e = refused p (λ m. stream bs (m - 1) (p + 1)) (lexeme (b ∷ bs) p) n e

-- a reader that has come to `at`, with the place behind the blanks there
module _ (text : List ℕ) (at place : ℕ) (e : place ≡ at + prefix_len blank (drop at text)) where
  at_place : stream (drop at text) 0 at ≡ first (drop place text) place
  at_place =
      let n = prefix_len blank (drop at text) in
      stream_blanks (drop at text) at ∙ (ap (λ bs. first bs (at + n)) (drop-drop n at text) ∙ ap (λ q. first (drop q text) q) (sym e))

  pub read_end : length text ≤ place → stream (drop at text) 0 at ≡ stop place
  read_end h = at_place ∙ ap (λ bs. first bs place) (drop_all place text h)

  pub read_one : (w : Word) → place < length text → Ok w ≡ placed place (lexeme (drop place text) place)
      → stream (drop at text) 0 at ≡ word w (stream (drop (place + size_of w.sign) text) 0 (place + size_of w.sign))
  read_one w h g =
      at_place ∙ (first_taken (drop place text) place w (omega (arith, length-drop place text)) g
      ∙ ap (λ bs. word w (stream bs 0 (place + size_of w.sign))) (drop-drop (size_of w.sign) place text))

  pub read_none : (n : ℕ) → place < length text → Err n ≡ placed place (lexeme (drop place text) place) → stream (drop at text) 0 at ≡ bad place n
  read_none n h g = at_place ∙ first-refused (drop place text) place n (omega (arith, length-drop place text)) g
