-- A file's words, each of which has passed, are accepted as that file.
use Rattle.std.proofs.Common.{◌≡◌, ℕ, List, [], ◌∷◌, ◌++◌, Some, Ok, Err, Result, sym, refl, ap, ◌∙◌, subst, append_assoc, append-nil, arith}
use Rattle.std.proofs.lemmas.List.{map-append}
use Rattle.words.specs.declared.fault.Source.{Source}
use Rattle.words.specs.Signs.{Sign, Word}
use Rattle.words.specs.Signs as s
use Rattle.words.specs.Stream.{Stream, stop, bad, word}
use Rattle.grammar.specs.declared.fault.GrammarFault.{GrammarFault}
use Rattle.grammar.specs.Laws.{Limit, joins, signs, Passed, Clean, Lowest, unexpected, limited, Wrong, Right, Exact}
use Rattle.grammar.specs.Table.{Alt, accept, among}
use Rattle.grammar.proofs.Grammars.{Tabled}

-- two ways to begin one text that ends
split : (us : List Word) (t : Stream) (ws : List Word) (p : ℕ) → joins us t ≡ joins ws (stop p) → (more : List Word) × (ws ≡ us ++ more) × (t ≡ joins more (stop p))
split [] t ws p e = (ws, refl, e)
split (u ∷ us) t [] p e = let z : ◌≡◌ {A = ℕ} 0 1 = cc in absurd (omega arith)
split (u ∷ us) t (w ∷ ws) p e =
    let a : u ≡ w = cc in
    let b : joins us t ≡ joins ws (stop p) = cc in
    let h = split us t ws p b in
    (h.0, (let c = h.1 in cc), h.2)

module _ {F : Type 0} (Spells : List Sign → F → Type 0) (Held : Limit → List Sign → Sign → Type 0) where
  pub clean_at : (seen xs : List Sign) (x : Sign) (ys : List Sign) → Clean Spells Held seen (xs ++ x ∷ ys) → Passed Spells Held (seen ++ xs) x
  clean_at seen [] x ys h = rw append-nil h.0
  clean_at seen (y ∷ xs) x ys h = rw append_assoc at (clean_at (seen ++ y ∷ []) xs x ys h.1)

  not_lowest : (from : Source) (ws : List Sign) (w : Word) (f : GrammarFault) → Passed Spells Held ws w.sign → Lowest Spells Held from ws w f → ⊥
  not_lowest from ws w f h (unexpected e v u) = u h.allowed
  not_lowest from ws w f h (limited l e v b n) = h.kept l b

  module _ (from : Source) (ws : List Word) (p : ℕ) (f : F) (clean : Clean Spells Held [] (signs ws)) (spells : Spells (signs ws) f) where
    no_fault : (us : List Word) (t : Stream) (e : GrammarFault) (more : List Word) → ws ≡ us ++ more → t ≡ joins more (stop p) → Wrong Spells Held from (signs us) t e → ⊥
    no_fault us (stop i) f' [] e g h = h.2 f (subst (λ l. Spells (signs l) f) (e ∙ append-nil us) spells)
    no_fault us (stop i) f' (w ∷ more) e g h = let z : ◌≡◌ {A = ℕ} 0 1 = cc in omega arith
    no_fault us (bad i n) f' [] e g h = let z : ◌≡◌ {A = ℕ} 0 1 = cc in omega arith
    no_fault us (bad i n) f' (w ∷ more) e g h = let z : ◌≡◌ {A = ℕ} 0 1 = cc in omega arith
    no_fault us (word v r) f' [] e g h = let z : ◌≡◌ {A = ℕ} 0 1 = cc in omega arith
    no_fault us (word v r) f' (w ∷ more) e g h =
        let a : w ≡ v = cc in
        let b : Clean Spells Held [] (signs us ++ w.sign ∷ signs more) = subst (λ l. Clean Spells Held [] l) (ap signs e ∙ map-append (λ x. x.sign) us (w ∷ more)) clean in
        not_lowest from (signs us) v f' (subst (λ x. Passed Spells Held (signs us) x.sign) a (clean_at [] (signs us) w.sign (signs more) b)) h

-- what a table ends with is the result of one file alone
module _ {Q R F T : Type 0} (Spells : List Sign → F → Type 0) (Held : Limit → List Sign → Sign → Type 0) (result : F → R) (at : T → Q) (spelled : T → List Sign)
    (ask : Q → List (Alt Q R)) (g : Tabled Spells Held result at spelled ask) where
  one_result : (ws : List Sign) (a b : F) → Spells ws a → Spells ws b → result a ≡ result b
  one_result ws a b h k =
      let p : Some (g.last a) ≡ Some (g.last b) = sym (g.whole ws a h) ∙ g.whole ws b k in
      let q : g.last a ≡ g.last b = cc in
      let e : Some (accept (result a)) ≡ Some (accept (result b)) = sym (g.ends a) ∙ ap (λ r. among (ask r) s.End) q ∙ g.ends b in
      cc

  module _ (from : Source) (ws : List Word) (p : ℕ) (f : F) (clean : Clean Spells Held [] (signs ws)) (spells : Spells (signs ws) f) where
    same : (d : F) (vs : List Word) (i : ℕ) (more : List Word) → ws ≡ vs ++ more → stop i ≡ joins more (stop p) → Spells (signs vs) d → result d ≡ result f
    same d vs i [] e k h = one_result (signs ws) d f (subst (λ l. Spells (signs l) d) (sym (e ∙ append-nil vs)) h) spells
    same d vs i (w ∷ more) e k h = let z : ◌≡◌ {A = ℕ} 0 1 = cc in absurd (omega arith)

    accepted : (o : Result R GrammarFault) → Right Spells Held from result (joins ws (stop p)) o → o ≡ Ok (result f)
    accepted (Ok d) us =
        let h = split us.0 (stop us.1) ws p (sym us.3) in
        ap Ok (us.6 ∙ same us.2 us.0 us.1 h.0 h.1 h.2 us.5)
    accepted (Err e) us =
        let h = split us.0 us.1 ws p (sym us.2) in
        absurd (no_fault Spells Held from ws p f clean spells us.0 us.1 e h.0 h.1 h.2 us.4)

  pub exact : (from : Source) (t : Stream) (o : Result R GrammarFault) → Right Spells Held from result t o → Exact Spells Held result t o
  exact from t o r ws p f e clean spells = accepted from ws p f clean spells o (subst (λ x. Right Spells Held from result x o) e r)
