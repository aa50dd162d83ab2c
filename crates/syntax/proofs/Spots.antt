-- What the checks of names mean: limits (6) and second names (7).
use Rattle.std.proofs.Common.{◌≡◌, ℕ, ◌≤◌, List, [], ◌∷◌, ◌++◌, Some, sym, refl, ap, ◌∙◌, arith}
use Rattle.words.specs.declared.name.Ident.{Ident}
use Rattle.words.specs.declared.word.Keyword.TheVariants as k
use Rattle.words.specs.Signs.{Sign}
use Rattle.words.specs.Signs as s
use Rattle.grammar.specs.Laws.{Limit, range, room, once, limit_number}
use Rattle.grammar.specs.Spelling.{each}
use Rattle.grammar.specs.Table.{admission, new, among}
use Rattle.grammar.proofs.Admissions.{level_beyond, level_second}
use Rattle.grammar.proofs.Grammars.{level}
use Rattle.syntax.specs.declared.tree.Mark.{Mark}
use Rattle.syntax.specs.declared.tree.Mark.TheVariants.{Out, In}
use Rattle.syntax.specs.declared.tree.Message.{Message}
use Rattle.syntax.specs.Trees.{ContractTree, parts_of}
use Rattle.syntax.specs.Grammar.{way_word, state_words, file_words, Stated}
use Rattle.syntax.specs.Laws.{Family, contracts, messages, states, head_words, Held}
use Rattle.syntax.specs.Machine.{At, ask}
use Rattle.syntax.specs.Machine as q
use Rattle.syntax.proofs.Trails.{Opened, progress}
use Rattle.syntax.proofs.Steps.{heads-named}
use Rattle.syntax.proofs.Back.{over, origin, over_file, over_head, to-state}

abbrev opened_at : (cs : List ContractTree) → Stated cs → Ident → List Message → Opened
opened_at cs st n ms = record { before = cs; stated = st; ident = n; messages = ms }

-- where the next name of a family stands
at_head : (cs : List ContractTree) (st : Stated cs) (n : Ident) (ms : List Message) (ys : List Sign)
    → over origin (file_words cs ++ (head_words n ms ++ ys)) ≡ over (q.messages (progress (opened_at cs st n ms) [])) ys
at_head cs st n ms ys = over_file cs st _ ∙ over_head cs st n ms ys

at-message : (h : Opened) (way : Mark) → over (q.messages (progress h [])) (way_word way ∷ []) ≡ Some (q.message (progress h []) way)
at-message h Out = refl
at-message h In = refl

-- the turn at a name of a family goes by its check
Turned : At → List Ident → ℕ → Ident → Type 0
Turned a ns limit n = (r : At) × (among (ask a) (s.Name n) ≡ Some (new r (admission limit ns n)))

module _ (ws : List Sign) (a : At) (led : over origin ws ≡ Some a) where
  here : (b : At) → over origin ws ≡ Some b → a ≡ b
  here b e = cc

  turned : (ns : List Ident) (limit : ℕ) → Family ws ns limit → (n : Ident) → Turned a ns limit n
  unfolding Turned
  turned ns limit (contracts cs st e f l) n =
      let p : a ≡ q.heading (parts_of cs) = here _ (ap (over origin) e ∙ over_file cs st []) in
      (q.opening (parts_of cs) n, ap (λ b. among (ask b) (s.Name n)) p ∙ ap (λ ms. Some (new (q.opening (parts_of cs) n) (admission 8 ms n))) (heads-named cs ∙ sym f) ∙ ap (λ i. Some (new (q.opening (parts_of cs) n) (admission i ns n))) (sym l))
  turned ns limit (messages cs m ms way st e f l) n =
      let h = opened_at cs st m ms in
      let p : a ≡ q.message (progress h []) way = here _ (ap (over origin) e ∙ at_head cs st m ms (way_word way ∷ []) ∙ at-message h way) in
      (q.called (progress h []) way n, ap (λ b. among (ask b) (s.Name n)) p ∙ ap (λ i. Some (new (q.called (progress h []) way n) (admission 16 i n))) (sym f) ∙ ap (λ i. Some (new (q.called (progress h []) way n) (admission i ns n))) (sym l))
  turned ns limit (states cs m ms ss st e f l) n =
      let h = opened_at cs st m ms in
      let p : a ≡ q.state (progress h ss) = here _ (ap (over origin) e ∙ at_head cs st m ms (each state_words ss ++ s.Key k.State ∷ []) ∙ to-state h ss []) in
      let r = q.entering (q.add_state (progress h ss) n) in
      (r, ap (λ b. among (ask b) (s.Name n)) p ∙ ap (λ i. Some (new r (admission 16 i n))) (sym f) ∙ ap (λ i. Some (new r (admission i ns n))) (sym l))

  pub held : (x : Sign) (l : Limit) → Held l ws x → (5 ≤ level (among (ask a) x)) × (level (among (ask a) x) ≤ limit_number l)
  unfolding Turned
  held x range h = absurd h
  held x room (n, ns, limit, e, f, b) =
      let t = turned ns limit f n in
      let l = level_beyond (among (ask a) (s.Name n)) t.0 n ns limit t.1 b in
      let c = ap (λ y. level (among (ask a) y)) e in
      (omega arith, omega arith)
  held x once (n, ns, limit, e, f, b) =
      let t = turned ns limit f n in
      let l = level_second (among (ask a) (s.Name n)) t.0 n ns limit t.1 b in
      let c = ap (λ y. level (among (ask a) y)) e in
      (omega arith, omega arith)
