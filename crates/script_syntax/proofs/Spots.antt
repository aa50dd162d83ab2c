-- What the checks mean: ranges of numbers (5), limits (6) and second names (7).
use Rattle.std.proofs.Common.{◌≡◌, ℕ, ◌≤◌, Bool, true, false, cond, List, [], ◌∷◌, ◌++◌, length, ℤ, Some, sym, refl, ap, ◌∙◌, inl, inr, append-nil, arith, le-leb}
use lib.ListN.{length-map}
use lib.Signed.{le_z}
use Rattle.words.specs.declared.name.Ident.{Ident}
use Rattle.words.specs.Signs.{Sign, Numeral}
use Rattle.words.specs.Signs as s
use Rattle.grammar.specs.Laws.{Limit, range, room, once, limit_number}
use Rattle.grammar.specs.Table.{fine, crowded, out_of_range, admission, new, among}
use Rattle.grammar.proofs.Admissions.{level_beyond, level_second}
use Rattle.grammar.proofs.Grammars.{check_level, level}
use Rattle.script_syntax.specs.declared.opcode.Opcode.{Opcode}
use Rattle.script_syntax.specs.declared.opcode.Opcode.TheVariants as o
use Rattle.script_syntax.specs.Numbers.{value_of, is_in_range}
use Rattle.script_syntax.specs.Opcodes.{word_of, kinds}
use Rattle.script_syntax.specs.Opcodes as j
use Rattle.script_syntax.specs.Grammar.{statement_of, head_words, parts_of}
use Rattle.script_syntax.specs.Laws.{Family, processes, Operand, Outside, Held}
use Rattle.script_syntax.specs.Machine.{At, Progress, ask, spare, ranged}
use Rattle.script_syntax.specs.Machine as q
use Rattle.script_syntax.proofs.Trails.{Inside, progress}
use Rattle.script_syntax.proofs.Steps.{parts-named}
use Rattle.script_syntax.proofs.Back.{over, origin, begins, over_operands, over_head, over_file}

-- a number outside its range is told so
pub ranged_level : (low high : ℤ) (n : Numeral) → Outside low high (value_of n.bytes) → check_level (ranged low high n) ≡ 5
ranged_level low high n out = at_bool (is_in_range low high (value_of n.bytes)) refl
  where
    inside : (a b : Bool) → le_z low (value_of n.bytes) ≡ a → le_z (value_of n.bytes) high ≡ b → is_in_range low high (value_of n.bytes) ≡ true → ⊥
    inside true true e f h = out (record { le = rw e tt }, record { le = rw f tt })
    inside true false e f h = grind arith
    inside false true e f h = grind arith
    inside false false e f h = grind arith

    at_bool : (b : Bool) → is_in_range low high (value_of n.bytes) ≡ b → check_level (cond b fine (out_of_range n)) ≡ 5
    at_bool true e = absurd (inside (le_z low (value_of n.bytes)) (le_z (value_of n.bytes) high) refl refl e)
    at_bool false e = refl

-- the turn at an instruction word
turn_at : (p : Progress) (op : Opcode) → among (ask (q.body p)) (s.Key (word_of op)) ≡ Some (new (q.operands p op [] (kinds op)) (spare p))
turn_at p o.New = refl
turn_at p o.Put = refl
turn_at p o.Free = refl
turn_at p o.Open = refl
turn_at p o.Close = refl
turn_at p o.Send = refl
turn_at p o.Pass = refl
turn_at p o.Receive = refl
turn_at p o.Case = refl
turn_at p o.Lost = refl
turn_at p o.Jump = refl
turn_at p o.End = refl

spare_level : (p : Progress) → 64 ≤ length p.statements → check_level (spare p) ≡ 6
spare_level p h = ap (λ b. check_level (cond b crowded fine)) (le-leb 64 (length p.statements) h)

Turned : At → List Ident → ℕ → Ident → Type 0
Turned a ns limit n = (r : At) × (among (ask a) (s.Name n) ≡ Some (new r (admission limit ns n)))

module _ (ws : List Sign) (a : At) (led : over origin ws ≡ Some a) where
  here : (b : At) → over origin ws ≡ Some b → a ≡ b
  here b e = cc

  turned : (ns : List Ident) (limit : ℕ) → Family ws ns limit → (n : Ident) → Turned a ns limit n
  unfolding Turned
  turned ns limit (processes ps fm e f l) n =
      let p : a ≡ q.heading (parts_of ps) = here _ (ap (over origin) e ∙ over_file ps fm []) in
      let r = q.opening (parts_of ps) n in
      (r, ap (λ b. among (ask b) (s.Name n)) p ∙ ap (λ ms. Some (new r (admission 8 ms n))) (parts-named ps ∙ sym f) ∙ ap (λ i. Some (new r (admission i ns n))) (sym l))

  -- where an operand stands
  abbrev inside_of : {i : j.Kind} → Operand ws i → Inside
  inside_of w = record { before = w.before; formed = w.formed; ident = w.ident; statements = w.statements; shaped = w.shaped }

  at-operand : {i : j.Kind} (w : Operand ws i) → a ≡ q.operands (progress (inside_of w)) w.opcode w.operands (i ∷ w.left)
  at-operand {i} w =
      here _ (ap (over origin) w.words ∙ over_file w.before w.formed _ ∙ over_head w.before w.formed w.ident w.statements w.shaped (s.Key (word_of w.opcode) ∷ w.operands)
      ∙ begins (progress (inside_of w)) w.opcode w.operands
      ∙ ap (λ ks. over (q.operands (progress (inside_of w)) w.opcode [] ks) w.operands) w.kind
      ∙ ap (over (q.operands (progress (inside_of w)) w.opcode [] (w.passed ++ i ∷ w.left))) (sym (append-nil w.operands))
      ∙ over_operands (progress (inside_of w)) w.opcode [] w.passed (i ∷ w.left) w.operands w.stand [])

  pub held : (x : Sign) (l : Limit) → Held l ws x → (5 ≤ level (among (ask a) x)) × (level (among (ask a) x) ≤ limit_number l)
  unfolding Turned
  held x range (low, high, n, e, w, out) =
      let c = ap (λ y. level (among (ask a) y)) e in
      let d = ap (λ b. level (among (ask b) (s.Number n))) (at-operand w) in
      let f = ranged_level low high n out in
      (omega arith, omega arith)
  held x room (inl (n, ns, limit, e, f, b)) =
      let t = turned ns limit f n in
      let l = level_beyond (among (ask a) (s.Name n)) t.0 n ns limit t.1 b in
      let c = ap (λ y. level (among (ask a) y)) e in
      (omega arith, omega arith)
  held x room (inr w) =
      let h : Inside = record { before = w.before; formed = w.formed; ident = w.ident; statements = w.statements; shaped = w.shaped } in
      let p : a ≡ q.body (progress h) =
      here _ (ap (over origin) w.words ∙ over_file w.before w.formed _ ∙ ap (over (q.more (parts_of w.before))) (sym (append-nil (head_words w.ident w.statements))) ∙ over_head w.before w.formed w.ident w.statements w.shaped []) in
      let c = ap (λ y. level (among (ask a) y)) w.next in
      let d = ap (λ b. level (among (ask b) (s.Key (word_of w.opcode)))) p in
      let e = ap level (turn_at (progress h) w.opcode) in
      let m = length-map w.statements statement_of in
      let n = w.many in
      let f = spare_level (progress h) (omega arith) in
      (omega arith, omega arith)
  held x once (n, ns, limit, e, f, b) =
      let t = turned ns limit f n in
      let l = level_second (among (ask a) (s.Name n)) t.0 n ns limit t.1 b in
      let c = ap (λ y. level (among (ask a) y)) e in
      (omega arith, omega arith)
