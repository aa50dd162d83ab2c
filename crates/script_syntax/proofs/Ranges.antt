-- A file with no word at fault keeps the limits, its numbers are in their ranges, and no name stands twice.
use Rattle.std.proofs.Common.{◌≡◌, ℕ, zero, suc, ◌<◌, ◌≤◌, Bool, true, false, List, [], ◌∷◌, ◌++◌, map, length, get_or, ℤ, pos, negsuc, ◌≤ℤ◌, sym, refl, ap, ◌∙◌, subst, inl, inr, append_assoc, arith}
use lib.ListN.{length-map, get_or-map}
use Rattle.words.specs.declared.word.Keyword.TheVariants as k
use Rattle.words.specs.declared.word.Mark.TheVariants as m
use Rattle.words.specs.Signs.{Sign, Numeral}
use Rattle.words.specs.Signs as s
use Rattle.grammar.specs.Families.{no_ident, Once}
use Rattle.grammar.specs.Laws.{range, room, once, Passed}
use Rattle.grammar.specs.Spelling.{each}
use Rattle.grammar.proofs.Admissions.{Admitted, once-each}
use Rattle.grammar.proofs.Exact.{clean_at}
use Rattle.grammar.proofs.Spelled.{each_append, each_mapped, at_most, few}
use Rattle.script_syntax.specs.declared.opcode.Opcode.{Opcode}
use Rattle.script_syntax.specs.declared.opcode.Opcode.TheVariants as o
use Rattle.script_syntax.specs.declared.tree.Statement.TheVariants as t
use Rattle.script_syntax.specs.Numbers.{value_of, is_in_range, natural_of}
use Rattle.script_syntax.specs.Opcodes.{word_of, Kind, kinds}
use Rattle.script_syntax.specs.Opcodes as j
use Rattle.script_syntax.specs.Trees.{ProcessParts, no_process, Within, Ranged, Distinct}
use Rattle.script_syntax.specs.Grammar.{StatementTree, ProcessTree, Operands, Formed, FormedAll, Spells, numeral_in, typed, statement_of, statement_words, head_words, process_words, file_words, process_parts, parts_of}
use Rattle.script_syntax.specs.Laws.{processes, Held, Clean}
use Rattle.script_syntax.proofs.Steps.{operands_push, out_of_range_lem, parts-named}

-- the numbers of an instruction whose operands are in their ranges
small : (n : ℕ) (v : ℤ) → is_in_range (pos 0) (pos n) v ≡ true → natural_of v ≤ n
small n (pos i) e = grind arith
small n (negsuc i) e = omega arith

far : (v : ℤ) → is_in_range (negsuc 126) (pos 127) v ≡ true → (negsuc 126 ≤ℤ v) × (v ≤ℤ pos 127)
far v e = (record { le = grind arith }, record { le = grind arith })

abbrev said : List Sign → ℕ → ℤ
said xs i = value_of (numeral_in (get_or xs i s.End)).bytes

abbrev Fitting : Opcode → List Sign → Type 0
Fitting op xs = (i : ℕ) (low high : ℤ) → get_or (kinds op) i j.name ≡ j.number low high → is_in_range low high (value_of (numeral_in (get_or xs i s.End)).bytes) ≡ true

within : (op : Opcode) (xs : List Sign) → Fitting op xs → Within (typed op xs)
within o.New xs h = (let a = small 7 (said xs 0) (h 0 (pos 0) (pos 7) refl) in omega arith)
within o.Put xs h =
    let a = small 7 (said xs 0) (h 0 (pos 0) (pos 7) refl) in
    let b = small 63 (said xs 1) (h 1 (pos 0) (pos 63) refl) in
    let c = small 255 (said xs 2) (h 2 (pos 0) (pos 255) refl) in
    (omega arith, omega arith, omega arith)
within o.Free xs h = (let a = small 7 (said xs 0) (h 0 (pos 0) (pos 7) refl) in omega arith)
within o.Open xs h =
    let a = small 7 (said xs 1) (h 1 (pos 0) (pos 7) refl) in
    let b = small 7 (said xs 2) (h 2 (pos 0) (pos 7) refl) in
    (omega arith, omega arith)
within o.Close xs h = (let a = small 7 (said xs 0) (h 0 (pos 0) (pos 7) refl) in omega arith)
within o.Send xs h = (let a = small 7 (said xs 0) (h 0 (pos 0) (pos 7) refl) in omega arith)
within o.Pass xs h =
    let a = small 7 (said xs 0) (h 0 (pos 0) (pos 7) refl) in
    let b = small 7 (said xs 3) (h 3 (pos 0) (pos 7) refl) in
    (omega arith, omega arith)
within o.Receive xs h =
    let a = small 7 (said xs 0) (h 0 (pos 0) (pos 7) refl) in
    let b = small 7 (said xs 1) (h 1 (pos 0) (pos 7) refl) in
    (omega arith, omega arith)
within o.Case xs h = far (said xs 2) (h 2 (negsuc 126) (pos 127) refl)
within o.Lost xs h = far (said xs 0) (h 0 (negsuc 126) (pos 127) refl)
within o.Jump xs h = far (said xs 0) (h 0 (negsuc 126) (pos 127) refl)
within o.End xs h = tt

formed-at : (us : List StatementTree) (x : StatementTree) (vs : List StatementTree) → Formed (us ++ x ∷ vs) → Formed us × Operands (kinds x.opcode) x.operands
formed-at [] x vs h = (tt, h.0)
formed-at (u ∷ us) x vs h = let r = formed-at us x vs h.1 in ((h.0, r.0), r.1)

all-at : (us : List ProcessTree) (p : ProcessTree) (vs : List ProcessTree) → FormedAll (us ++ p ∷ vs) → FormedAll us × Formed p.statements
all-at [] p vs h = (tt, h.0)
all-at (u ∷ us) p vs h = let r = all-at us p vs h.1 in ((h.0, r.0), r.1)

passed : (ws : List Sign) (x : Sign) (rest all : List Sign) → all ≡ ws ++ x ∷ rest → Clean [] all → Passed Spells Held ws x
passed ws x rest all e clean = clean_at Spells Held [] ws x rest (subst (λ l. Clean [] l) e clean)

module _ (pre : List ProcessTree) (p : ProcessTree) (post : List ProcessTree) (fm : FormedAll (pre ++ p ∷ post)) (clean : Clean [] (file_words (pre ++ p ∷ post))) where
  formed : FormedAll pre × Formed p.statements
  formed = all-at pre p post fm

  name-admitted : Admitted p.ident (map (λ x. x.ident) pre) 8
  name-admitted =
      let w = passed (file_words pre ++ s.Key k.Process ∷ []) (s.Name p.ident) _ _ (each_append process_words pre (p ∷ post) ∙ sym (append_assoc (file_words pre) (s.Key k.Process ∷ []) _)) clean in
      let f = processes pre formed.0 refl refl refl in
      let below : (8 ≤ length (map (λ x. x.ident) pre) → ⊥) → length (map (λ x. x.ident) pre) < 8 = λ h. omega arith in
      record { room = below (λ b. w.kept room (inl (p.ident, _, 8, refl, f, b))); fresh = λ h. w.kept once (p.ident, _, 8, refl, f, h) }

  -- the words of the file up to an instruction
  split : (us : List StatementTree) (x : StatementTree) (vs : List StatementTree) → p.statements ≡ us ++ x ∷ vs
      → file_words (pre ++ p ∷ post) ≡ (file_words pre ++ head_words p.ident us) ++ (statement_words x ++ (each statement_words vs ++ (s.Mark m.CloseBrace ∷ file_words post)))
  split us x vs e =
      each_append process_words pre (p ∷ post)
      ∙ ap (λ l. file_words pre ++ ((head_words p.ident l ++ s.Mark m.CloseBrace ∷ []) ++ file_words post)) e
      ∙ ap (λ l. file_words pre ++ (((s.Key k.Process ∷ s.Name p.ident ∷ s.Mark m.OpenBrace ∷ l) ++ s.Mark m.CloseBrace ∷ []) ++ file_words post)) (each_append statement_words us (x ∷ vs))
      ∙ simp append_assoc

  module _ (us : List StatementTree) (x : StatementTree) (vs : List StatementTree) (e : p.statements ≡ us ++ x ∷ vs) where
    shaped : Formed us × Operands (kinds x.opcode) x.operands
    shaped = formed-at us x vs (subst Formed e formed.1)

    few-before : length us < 64
    few-before =
        let w = passed (file_words pre ++ head_words p.ident us) (s.Key (word_of x.opcode)) _ _ (split us x vs e) clean in
        let below : (64 ≤ length us → ⊥) → length us < 64 = λ h. omega arith in
        below (λ b. w.kept room (inr (record { before = pre; formed = formed.0; ident = p.ident; statements = us; shaped = shaped.0; opcode = x.opcode; words = refl; next = refl; many = b })))

    -- a number that passed is in its range
    number_fits : (passed' left : List Kind) (done rest : List Sign) (low high : ℤ) (n : Numeral) → kinds x.opcode ≡ passed' ++ j.number low high ∷ left → x.operands ≡ done ++ s.Number n ∷ rest → Operands passed' done
        → is_in_range low high (value_of n.bytes) ≡ true
    number_fits passed' left done rest low high n g f st = decide (is_in_range low high (value_of n.bytes)) refl
      where
        words : file_words (pre ++ p ∷ post) ≡ (file_words pre ++ (head_words p.ident us ++ s.Key (word_of x.opcode) ∷ done)) ++ s.Number n ∷ ((rest ++ s.Mark m.Semicolon ∷ []) ++ (each statement_words vs ++ (s.Mark m.CloseBrace ∷ file_words post)))
        words =
            split us x vs e
            ∙ ap (λ l. (file_words pre ++ head_words p.ident us) ++ ((s.Key (word_of x.opcode) ∷ (l ++ s.Mark m.Semicolon ∷ [])) ++ (each statement_words vs ++ (s.Mark m.CloseBrace ∷ file_words post)))) f
            ∙ simp append_assoc

        decide : (b : Bool) → is_in_range low high (value_of n.bytes) ≡ b → b ≡ true
        decide true q = refl
        decide false q =
            absurd ((passed _ (s.Number n) _ _ words clean).kept range (
              low,
              high,
              n,
              refl,
              record {
                before = pre;
                formed = formed.0;
                ident = p.ident;
                statements = us;
                shaped = shaped.0;
                opcode = x.opcode;
                passed = passed';
                left = left;
                kind = g;
                operands = done;
                stand = st;
                words = refl;
              },
              out_of_range_lem low high (value_of n.bytes) q,
            ))

    fits : (passed' left : List Kind) (done rest : List Sign) → kinds x.opcode ≡ passed' ++ left → x.operands ≡ done ++ rest → Operands passed' done → Operands left rest
        → (i : ℕ) (low high : ℤ) → get_or left i j.name ≡ j.number low high → is_in_range low high (value_of (numeral_in (get_or rest i s.End)).bytes) ≡ true
    fits passed' [] done rest g f st sr i low high q = absurd (cc)
    fits passed' (i₀ ∷ ks) done [] g f st sr i low high q = absurd sr
    fits passed' (j.name ∷ ks) done (y ∷ ys) g f st sr zero low high q = absurd (cc)
    fits passed' (j.number a b ∷ ks) done (y ∷ ys) g f st sr zero low high q =
        let n = sr.0.0 in
        let u : a ≡ low = cc in
        let v : b ≡ high = cc in
        let r = number_fits passed' ks done ys a b n g (f ∙ ap (λ z. done ++ z ∷ ys) sr.0.1) st in
        ap (λ z. is_in_range low high (value_of (numeral_in z).bytes)) sr.0.1 ∙ ap (λ z. is_in_range z high (value_of n.bytes)) (sym u) ∙ ap (λ z. is_in_range a z (value_of n.bytes)) (sym v) ∙ r
    fits passed' (i₀ ∷ ks) done (y ∷ ys) g f st sr (suc i) low high q =
        fits (passed' ++ i₀ ∷ []) ks (done ++ y ∷ []) ys (g ∙ sym (append_assoc passed' (i₀ ∷ []) ks)) (f ∙ sym (append_assoc done (y ∷ []) ys)) (operands_push passed' done i₀ y st sr.0) sr.1 i low high q

    statement_within : Within (statement_of x)
    statement_within = within x.opcode x.operands (fits [] (kinds x.opcode) [] x.operands refl refl tt shaped.1)

  short : length p.statements ≤ 64
  short = at_most 64 p.statements (λ us x vs e. few-before us x vs e)

-- what holds of each process
pub record Kept (p : ProcessParts) : Type 0 where
  pub short : length p.statements ≤ 64
  pub within : (i : ℕ) → i < length p.statements → Within (get_or p.statements i t.End)

module _ (ps : List ProcessTree) (fm : FormedAll ps) (clean : Clean [] (file_words ps)) where
  module _ (us : List ProcessTree) (p : ProcessTree) (vs : List ProcessTree) (e : ps ≡ us ++ p ∷ vs) where
    formed_of : FormedAll (us ++ p ∷ vs)
    formed_of = subst FormedAll e fm

    clean_of : Clean [] (file_words (us ++ p ∷ vs))
    clean_of = subst (λ l. Clean [] (file_words l)) e clean

    pub admitted-at : Admitted p.ident (map (λ x. x.ident) us) 8
    admitted-at = name-admitted us p vs formed_of clean_of

    kept_at : Kept (process_parts p)
    kept_at = record {
      short = (let l = length-map p.statements statement_of in let b = short us p vs formed_of clean_of in omega arith);
      within = λ i l. each_mapped statement_of Within t.End tt [] p.statements (λ xs x ys f. statement_within us p vs formed_of clean_of xs x ys f) i;
    }

  pub kept : (i : ℕ) → Kept (get_or (parts_of ps) i no_process)
  kept = each_mapped process_parts Kept no_process (record { short = omega arith; within = λ i l. absurd (omega arith) }) [] ps kept_at

above : {X : Type 0} (xs : List X) → (xs ≡ [] → ⊥) → 0 < length xs
above [] h = absurd (h refl)
above (x ∷ xs) h = omega arith

module _ (ws : List Sign) (ps : List ProcessTree) (h : Spells ws ps) (clean : Clean [] ws) where
  clean_file : Clean [] (file_words ps)
  clean_file = subst (λ l. Clean [] l) h.words clean

  pub ranged : Ranged (parts_of ps)
  ranged = record {
    some = (let l = length-map ps process_parts in let b = above ps h.some in omega arith);
    few = (let l = length-map ps process_parts in let b = few (λ (p : ProcessTree). p.ident) 8 ps (admitted-at ps h.formed clean_file) in omega arith);
    short = λ i. (kept ps h.formed clean_file i).short;
    within = λ i j l. (kept ps h.formed clean_file i).within j l;
  }

  names_once : Once (map (λ p. p.ident) (parts_of ps))
  names_once = subst Once (sym (parts-named ps)) (once-each (λ (p : ProcessTree). p.ident) 8 ps (admitted-at ps h.formed clean_file))

  pub distinct : Distinct (parts_of ps)
  distinct i j l b e =
      let n = length-map (parts_of ps) (λ p. p.ident) in
      names_once i j (omega arith) (omega arith) (ap (λ v. v.name) (named i) ∙ e ∙ ap (λ v. v.name) (sym (named j)))
    where
      named : (i : ℕ) → get_or (map (λ p. p.ident) (parts_of ps)) i no_ident ≡ (get_or (parts_of ps) i no_process).ident
      named i = get_or-map (λ p. p.ident) (parts_of ps) i no_process
