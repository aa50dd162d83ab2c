-- The words of a part lead over that part.
use Rattle.std.proofs.Common.{◌≡◌, List, [], ◌∷◌, ◌++◌, Some, Option, sym, refl, ap, ◌∙◌, append_assoc, append-nil}
use Rattle.words.specs.declared.name.Ident.{Ident}
use Rattle.words.specs.declared.word.Keyword.TheVariants as k
use Rattle.words.specs.declared.word.Mark.TheVariants as m
use Rattle.words.specs.Signs.{Sign}
use Rattle.words.specs.Signs as s
use Rattle.grammar.specs.Spelling.{each}
use Rattle.grammar.proofs.Tables.{walk}
use Rattle.script_syntax.specs.declared.opcode.Opcode.{Opcode}
use Rattle.script_syntax.specs.declared.opcode.Opcode.TheVariants as o
use Rattle.script_syntax.specs.Opcodes.{word_of, Kind, kinds}
use Rattle.script_syntax.specs.Opcodes as j
use Rattle.script_syntax.specs.Grammar.{StatementTree, ProcessTree, Operands, Formed, FormedAll, Spells, statement_of, statement_words, head_words, process_words, file_words, parts_of}
use Rattle.script_syntax.specs.Machine.{At, Progress, added, ask}
use Rattle.script_syntax.specs.Machine as q
use Rattle.script_syntax.proofs.Trails.{Inside, progress, with_statement, add_statement, end-process, all_push}

abbrev pub over : At → List Sign → Option At
over a xs = walk ask a xs

-- an instruction word leads to its operands
pub begins : (p : Progress) (op : Opcode) (ys : List Sign) → over (q.body p) (s.Key (word_of op) ∷ ys) ≡ over (q.operands p op [] (kinds op)) ys
begins p o.New ys = refl
begins p o.Put ys = refl
begins p o.Free ys = refl
begins p o.Open ys = refl
begins p o.Close ys = refl
begins p o.Send ys = refl
begins p o.Pass ys = refl
begins p o.Receive ys = refl
begins p o.Case ys = refl
begins p o.Lost ys = refl
begins p o.Jump ys = refl
begins p o.End ys = refl

-- operands lead on to those that are left
module _ (p : Progress) (op : Opcode) where
  pub over_operands : (xs : List Sign) (passed left : List Kind) (zs : List Sign) → Operands passed zs → (ys : List Sign)
      → over (q.operands p op xs (passed ++ left)) (zs ++ ys) ≡ over (q.operands p op (xs ++ zs) left) ys
  over_operands xs [] left [] h ys = ap (λ l. over (q.operands p op l left) ys) (sym (append-nil xs))
  over_operands xs [] left (z ∷ zs) h ys = absurd h
  over_operands xs (i ∷ ks) left [] h ys = absurd h
  over_operands xs (j.name ∷ ks) left (z ∷ zs) h ys =
      ap (λ w. over (q.operands p op xs (j.name ∷ (ks ++ left))) (w ∷ (zs ++ ys))) h.0.1
      ∙ over_operands (xs ++ s.Name h.0.0 ∷ []) ks left zs h.1 ys
      ∙ ap (λ l. over (q.operands p op l left) ys) (append_assoc xs (s.Name h.0.0 ∷ []) zs)
      ∙ ap (λ w. over (q.operands p op (xs ++ w ∷ zs) left) ys) (sym h.0.1)
  over_operands xs (j.number low high ∷ ks) left (z ∷ zs) h ys =
      ap (λ w. over (q.operands p op xs (j.number low high ∷ (ks ++ left))) (w ∷ (zs ++ ys))) h.0.1
      ∙ over_operands (xs ++ s.Number h.0.0 ∷ []) ks left zs h.1 ys
      ∙ ap (λ l. over (q.operands p op l left) ys) (append_assoc xs (s.Number h.0.0 ∷ []) zs)
      ∙ ap (λ w. over (q.operands p op (xs ++ w ∷ zs) left) ys) (sym h.0.1)

one_statement : (p : Progress) (x : StatementTree) → Operands (kinds x.opcode) x.operands → (ys : List Sign)
    → over (q.body p) (statement_words x ++ ys) ≡ over (q.body (added p (statement_of x))) ys
one_statement p x h ys =
    begins p x.opcode ((x.operands ++ s.Mark m.Semicolon ∷ []) ++ ys)
    ∙ ap (over (q.operands p x.opcode [] (kinds x.opcode))) (append_assoc x.operands (s.Mark m.Semicolon ∷ []) ys)
    ∙ ap (λ ks. over (q.operands p x.opcode [] ks) (x.operands ++ s.Mark m.Semicolon ∷ ys)) (sym (append-nil (kinds x.opcode)))
    ∙ over_operands p x.opcode [] (kinds x.opcode) [] x.operands h (s.Mark m.Semicolon ∷ ys)

abbrev with_statements : Inside → (ss : List StatementTree) → Formed ss → Inside
with_statements h ss f = record { before = h.before; formed = h.formed; ident = h.ident; statements = ss; shaped = f }

pub over_statements : (h : Inside) (ss : List StatementTree) → Formed ss → (fs : Formed (h.statements ++ ss)) (ys : List Sign)
    → over (q.body (progress h)) (each statement_words ss ++ ys) ≡ over (q.body (progress (with_statements h (h.statements ++ ss) fs))) ys
over_statements h [] f fs ys = rw append-nil refl
over_statements h (x ∷ ss) f fs ys =
    ap (over (q.body (progress h))) (append_assoc (statement_words x) (each statement_words ss) ys)
    ∙ one_statement (progress h) x f.0 (each statement_words ss ++ ys)
    ∙ ap (λ p. over (q.body p) (each statement_words ss ++ ys)) (sym (add_statement h x f.0))
    ∙ over_statements (with_statement h x f.0) ss f.1 (formed_assoc h.statements x ss fs) ys ∙ rw append_assoc refl
  where
    formed_assoc : (pre : List StatementTree) (y : StatementTree) (post : List StatementTree) → Formed (pre ++ y ∷ post) → Formed ((pre ++ y ∷ []) ++ post)
    formed_assoc pre y post g = rw append_assoc g

-- after the word "process"
pub over_head : (ps : List ProcessTree) (fm : FormedAll ps) (n : Ident) (ss : List StatementTree) (f : Formed ss) (ys : List Sign)
    → over (q.more (parts_of ps)) (head_words n ss ++ ys) ≡ over (q.body (progress (record { before = ps; formed = fm; ident = n; statements = ss; shaped = f }))) ys
over_head ps fm n ss f ys = over_statements (record { before = ps; formed = fm; ident = n; statements = []; shaped = tt }) ss f f ys

one-process : (ps : List ProcessTree) → FormedAll ps → (p : ProcessTree) → Formed p.statements → (ys : List Sign)
    → over (q.more (parts_of ps)) (process_words p ++ ys) ≡ over (q.more (parts_of (ps ++ p ∷ []))) ys
one-process ps fm p f ys =
    ap (over (q.more (parts_of ps))) (append_assoc (head_words p.ident p.statements) (s.Mark m.CloseBrace ∷ []) ys)
    ∙ over_head ps fm p.ident p.statements f (s.Mark m.CloseBrace ∷ ys)
    ∙ ap (λ r. over (q.more r) ys) (end-process (record { before = ps; formed = fm; ident = p.ident; statements = p.statements; shaped = f }))

over_processes : (pre xs : List ProcessTree) → FormedAll pre → FormedAll xs → (ys : List Sign)
    → over (q.more (parts_of pre)) (file_words xs ++ ys) ≡ over (q.more (parts_of (pre ++ xs))) ys
over_processes pre [] st h ys = rw append-nil refl
over_processes pre (x ∷ xs) st h ys =
    ap (over (q.more (parts_of pre))) (append_assoc (process_words x) (file_words xs) ys)
    ∙ one-process pre st x h.0 (file_words xs ++ ys) ∙ over_processes (pre ++ x ∷ []) xs (all_push pre x st h.0) h.1 ys ∙ rw append_assoc refl

abbrev pub origin : At
origin = q.start []

-- a file's words lead to it
pub spells_whole : (ws : List Sign) (ps : List ProcessTree) → Spells ws ps → over origin ws ≡ Some (q.more (parts_of ps))
spells_whole ws [] h = absurd (h.some refl)
spells_whole ws (p ∷ ps) h =
    ap (over origin) (h.words ∙ sym (append-nil (file_words (p ∷ ps)))) ∙ over_processes [] (p ∷ ps) tt h.formed []

-- processes, and the word "process"
pub over_file : (ps : List ProcessTree) → FormedAll ps → (ys : List Sign) → over origin (file_words ps ++ s.Key k.Process ∷ ys) ≡ over (q.heading (parts_of ps)) ys
over_file [] fm ys = refl
over_file (p ∷ ps) fm ys = over_processes [] (p ∷ ps) tt fm (s.Key k.Process ∷ ys)
