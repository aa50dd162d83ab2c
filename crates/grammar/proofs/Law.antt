-- A table that keeps to its grammar is right about every text: what it accepts is a file, and what it refuses is at fault where
-- and as it says.
use Rattle.std.proofs.Common.{◌≡◌, ℕ, ◌<◌, ◌≤◌, List, [], ◌∷◌, ◌++◌, length, Some, None, Err, Option, sym, refl, ap, ◌∙◌, subst, append_assoc, append-nil, arith}
use Rattle.std.proofs.lemmas.List.{map_push}
use Rattle.words.specs.declared.name.Ident.{Ident}
use Rattle.words.specs.declared.fault.Source.{Source}
use Rattle.words.specs.Signs.{Sign, Word, Numeral, size_of}
use Rattle.words.specs.Signs as s
use Rattle.words.specs.Stream.{Stream, stop, bad, word, WellPlaced}
use Rattle.grammar.specs.declared.fault.GrammarFault.{GrammarFault}
use Rattle.grammar.specs.declared.fault.GrammarFault.TheVariants as fault
use Rattle.grammar.specs.Laws.{Limit, range, room, once, limit_number, limit_fault, joins, signs, span_of, Viable, Passed, Clean, Lowest, unexpected, limited, Right}
use Rattle.grammar.specs.Table.{Check, fine, too_many, repeated, out_of_range, crowded, Turn, go, new, accept, Alt, among, after, run}
use Rattle.grammar.proofs.Tables.{Of, leads, onward, walk, along}
use Rattle.grammar.proofs.Grammars.{check_level, level, Onto, Steps, Tabled}

-- names say their own word's place, and so does a number that the table can find out of its range; no word is empty
module _ {Q R : Type 0} (ask : Q → List (Alt Q R)) where
  abbrev pub Placed : Stream → Type 0
  Placed (stop p) = Unit {0}
  Placed (bad p n) = Unit {0}
  Placed (word w r) =
      ((n : Ident) → w.sign ≡ s.Name n → n.place ≡ w.place)
      × ((n : Numeral) → w.sign ≡ s.Number n → (a b : Q) (m : Numeral) → among (ask a) (s.Number n) ≡ Some (new b (out_of_range m)) → n.place ≡ w.place)
      × (1 ≤ size_of w.sign) × Placed r

  pub placed : (t : Stream) → WellPlaced t → Placed t
  placed (stop p) h = tt
  placed (bad p n) h = tt
  placed (word w r) h = (h.0, λ n e a b m o. h.1 n e, h.2, placed r h.3)

module _ {Q R F T : Type 0} (Spells : List Sign → F → Type 0) (Held : Limit → List Sign → Sign → Type 0) (result : F → R) (at : T → Q) (spelled : T → List Sign)
    (ask : Q → List (Alt Q R)) (from : Source) (g : Tabled Spells Held result at spelled ask) where
  abbrev Origin : Q
  Origin = at g.origin

  steps : (N : T) (x : Sign) → Of (among (ask (at N)) x) (Steps Spells Held result at spelled N x)
  steps N x = leads (Steps Spells Held result at spelled N) (ask (at N)) (g.edges N) x

  -- a word that may not stand next cannot be continued from
  stuck : (ws : List Sign) (a : Q) (x : Sign) → walk ask Origin ws ≡ Some a → among (ask a) x ≡ None → Viable Spells (ws ++ x ∷ []) → ⊥
  stuck ws a x e t v =
      let w : walk ask Origin ((ws ++ x ∷ []) ++ v.0) ≡ Some (g.last v.1) = g.whole ((ws ++ x ∷ []) ++ v.0) v.1 v.2 in
      let b : walk ask Origin (ws ++ x ∷ v.0) ≡ onward (among (ask a) x) (λ r. walk ask r v.0) = along ask ws (x ∷ v.0) Origin a e in
      let c : (ws ++ x ∷ []) ++ v.0 ≡ ws ++ x ∷ v.0 = append_assoc ws (x ∷ []) v.0 in
      let n : onward (among (ask a) x) (λ r. walk ask r v.0) ≡ None = ap (λ o. onward o (λ r. walk ask r v.0)) t in
      let f : None ≡ Some (g.last v.1) = sym n ∙ sym b ∙ ap (walk ask Origin) (sym c) ∙ w in
      let z : ◌≡◌ {A = ℕ} 0 1 = cc in omega arith

  -- a text that ends where no file ends is none
  unfinished : (ws : List Sign) (a : Q) → walk ask Origin ws ≡ Some a → among (ask a) s.End ≡ None → (f : F) → Spells ws f → ⊥
  unfinished ws a e t f h =
      let w = g.whole ws f h in
      let p : a ≡ g.last f = cc in
      let b = ap (λ r. among (ask r) s.End) p in
      let d = g.ends f in
      let z : ◌≡◌ {A = ℕ} 0 1 = cc in omega arith

  clean-push : (seen xs : List Sign) (x : Sign) → Clean Spells Held seen xs → Passed Spells Held (seen ++ xs) x → Clean Spells Held seen (xs ++ x ∷ [])
  clean-push seen [] x h p = (rw append-nil at p, tt)
  clean-push seen (y ∷ xs) x h p = (h.0, clean-push (seen ++ y ∷ []) xs x h.1 (rw append_assoc p))

  -- ws was read and led to N, and nothing is at fault so far
  record Here (ws : List Sign) (N : T) : Type 0 where
    pub led : walk ask Origin ws ≡ Some (at N)
    pub said : spelled N ≡ ws
    pub clean : Clean Spells Held [] ws

  -- a limit refuses a word only where the table says so
  not_held : (ws : List Sign) (N : T) (x : Sign) → Here ws N → level (among (ask (at N)) x) ≡ 0 → (l : Limit) → Held l ws x → ⊥
  not_held ws N x here z l h = let b = g.held ws (at N) x l here.led h in omega arith

  module _ (ws : List Sign) (N : T) (x : Sign) (here : Here ws N) (a : Q) (o : Onto at spelled N x a) where
    said' : spelled o.to ≡ ws ++ x ∷ []
    said' = o.adds ∙ ap (λ l. l ++ x ∷ []) here.said

    allowed' : Viable Spells (ws ++ x ∷ [])
    allowed' = subst (Viable Spells) said' (g.fill o.to)

    next : (t : Turn Q R) → among (ask (at N)) x ≡ Some t → level (Some t) ≡ 0 → onward (Some t) (λ r. Some r) ≡ Some a → Here (ws ++ x ∷ []) o.to
    next t e z on = record {
      led = along ask ws (x ∷ []) Origin (at N) here.led ∙ ap (λ u. onward u (λ r. Some r)) e ∙ on ∙ ap (λ b. Some b) (sym o.stands);
      said = said';
      clean = clean-push [] ws x here.clean (record { allowed = allowed'; kept = not_held ws N x here (ap level e ∙ z) });
    }

  -- a text that ends here
  module _ (ws : List Word) (p : ℕ) (N : T) (here : Here (signs ws) N) where
    on_end : (o : Option (Turn Q R)) → among (ask (at N)) s.End ≡ o → Of o (Steps Spells Held result at spelled N s.End)
        → Right Spells Held from result (joins ws (stop p)) (after from o (record { place = p; sign = s.End }) (λ _. Err (fault.Unexpected (record { source = from; place = p; len = 0 }))))
    on_end None e h =
        (ws, stop p, refl, here.clean, (refl, subst (Viable Spells) here.said (g.fill N), unfinished (signs ws) (at N) here.led e))
    on_end (Some (go a)) e h = absurd h.1
    on_end (Some (new a c)) e h = absurd h.1
    on_end (Some (accept r)) e h = (ws, p, h.1, refl, here.clean, subst (λ l. Spells l h.1) here.said h.2, h.3)

  joins-push : (ws : List Word) (w : Word) (r : Stream) → joins (ws ++ w ∷ []) r ≡ joins ws (word w r)
  joins-push [] w r = refl
  joins-push (v ∷ ws) w r = ap (word v) (joins-push ws w r)

  -- a text that goes on with a word
  module _ (ws : List Word) (N : T) (w : Word) (r : Stream) (here : Here (signs ws) N)
      (named : (n : Ident) → w.sign ≡ s.Name n → n.place ≡ w.place)
      (counted : (n : Numeral) → w.sign ≡ s.Number n → (a b : Q) (m : Numeral) → among (ask a) (s.Number n) ≡ Some (new b (out_of_range m)) → n.place ≡ w.place) (sized : 1 ≤ size_of w.sign)
      (ih : (M : T) → Here (signs ws ++ w.sign ∷ []) M → Right Spells Held from result (joins ws (word w r)) (run ask from (at M) r)) where
    found : (n : Ident) → w.sign ≡ s.Name n → ◌≡◌ (record { source = from; place = n.place; len = n.name.len }) (span_of from w)
    found n e = let p = named n e in let z : size_of w.sign ≡ n.name.len = ap size_of e in cc

    numbered : (n : Numeral) → w.sign ≡ s.Number n → (b : Q) (m : Numeral) → among (ask (at N)) w.sign ≡ Some (new b (out_of_range m))
        → ◌≡◌ (record { source = from; place = n.place; len = length n.bytes }) (span_of from w)
    numbered n e b m o =
        let p = counted n e (at N) b m (ap (λ x. among (ask (at N)) x) (sym e) ∙ o) in
        let z : size_of w.sign ≡ length n.bytes = ap size_of e in cc

    no_end : w.sign ≡ s.End → ⊥
    no_end e = let z : size_of w.sign ≡ 0 = ap size_of e in omega arith

    wrong : (f : GrammarFault) → Lowest Spells Held from (signs ws) w f → Right Spells Held from result (joins ws (word w r)) (Err f)
    wrong f h = (ws, word w r, refl, here.clean, h)

    going : (a : Q) (o : Onto at spelled N w.sign a) → Here (signs ws ++ w.sign ∷ []) o.to → Right Spells Held from result (joins ws (word w r)) (run ask from a r)
    going a o h = subst (λ b. Right Spells Held from result (joins ws (word w r)) (run ask from b r)) o.stands (ih o.to h)

    -- the limit that the table names refuses the word, and none with a lower number does
    refusing : (l : Limit) (a : Q) (c : Check) (f : GrammarFault) → among (ask (at N)) w.sign ≡ Some (new a c) → check_level c ≡ limit_number l → f ≡ limit_fault l (span_of from w)
        → Onto at spelled N w.sign a → Held l (spelled N) w.sign → Right Spells Held from result (joins ws (word w r)) (Err f)
    refusing l a c f e z same o h =
        wrong f (limited l same (allowed' (signs ws) N w.sign here a o) (subst (λ xs. Held l xs w.sign) here.said h) lower)
      where
        lower : (k : Limit) → limit_number k < limit_number l → Held k (signs ws) w.sign → ⊥
        lower k b q =
            let u = g.held (signs ws) (at N) w.sign k here.led q in
            let v : level (among (ask (at N)) w.sign) ≡ limit_number l = ap level e ∙ z in
            omega arith

    on : (u : Option (Turn Q R)) → among (ask (at N)) w.sign ≡ u → Of u (Steps Spells Held result at spelled N w.sign)
        → Right Spells Held from result (joins ws (word w r)) (after from u w (λ b. run ask from b r))
    on None e h = wrong _ (unexpected refl (subst (Viable Spells) here.said (g.fill N)) (stuck (signs ws) (at N) w.sign here.led e))
    on (Some (go a)) e h = going a h.0 (next (signs ws) N w.sign here a h.0 (go a) e refl refl)
    on (Some (new a fine)) e h = going a h.0 (next (signs ws) N w.sign here a h.0 (new a fine) e refl refl)
    on (Some (new a (too_many n))) e h = refusing room a (too_many n) _ e refl (ap fault.TooMany (found n h.2.0)) h.0 h.2.1
    on (Some (new a (repeated n))) e h = refusing once a (repeated n) _ e refl (ap fault.Repeated (found n h.2.0)) h.0 h.2.1
    on (Some (new a (out_of_range n))) e h = refusing range a (out_of_range n) _ e refl (ap fault.OutOfRange (numbered n h.2.0 a n e)) h.0 h.2.1
    on (Some (new a crowded)) e h = refusing room a crowded _ e refl refl h.0 h.2
    on (Some (accept c)) e h = absurd (no_end h.0)

  right_from : (t : Stream) (N : T) (ws : List Word) → Here (signs ws) N → Placed ask t → Right Spells Held from result (joins ws t) (run ask from (at N) t)
  right_from (stop p) N ws here h = on_end ws p N here (among (ask (at N)) s.End) refl (steps N s.End)
  right_from (bad p n) N ws here h = (ws, bad p n, refl, here.clean, refl)
  right_from (word w r) N ws here h =
      on ws N w r here h.0 h.1 h.2
      (λ M k. subst (λ l. Right Spells Held from result l (run ask from (at M) r)) (joins-push ws w r)
      (right_from r M (ws ++ w ∷ []) (subst (λ l. Here l M) (sym (map_push (λ v. v.sign) ws w)) k) h.3))
      (among (ask (at N)) w.sign) refl (steps N w.sign)

  pub right_placed : (t : Stream) → Placed ask t → Right Spells Held from result t (run ask from Origin t)
  right_placed t h = right_from t g.origin [] (record { led = refl; said = g.none; clean = tt }) h

  pub right : (t : Stream) → WellPlaced t → Right Spells Held from result t (run ask from Origin t)
  right t h = right_placed t (placed ask t h)
