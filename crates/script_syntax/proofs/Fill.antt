-- What led to a spot can be continued to a file.
use Rattle.std.proofs.Common.{◌≡◌, List, [], ◌∷◌, ◌++◌, map, sym, refl, ap, ◌∙◌, subst, append_assoc, append-nil}
use Rattle.words.specs.declared.name.Ident.{Ident}
use Rattle.words.specs.declared.word.Keyword.TheVariants as k
use Rattle.words.specs.declared.word.Mark.TheVariants as m
use Rattle.words.specs.Signs.{Sign}
use Rattle.words.specs.Signs as s
use Rattle.grammar.specs.Families.{no_ident}
use Rattle.grammar.specs.Laws.{Viable}
use Rattle.grammar.proofs.Spelled.{each-push, pushed}
use Rattle.script_syntax.specs.declared.opcode.Opcode.{Opcode}
use Rattle.script_syntax.specs.Opcodes.{Kind, kinds}
use Rattle.script_syntax.specs.Opcodes as j
use Rattle.script_syntax.specs.Grammar.{ProcessTree, StatementTree, Operands, FormedAll, Spells, file_words}
use Rattle.script_syntax.proofs.Trails.{Inside, Trail, start, heading, opening, body, operands, more, spelled, process_of, with_statement, all_push}

-- what can be continued after more words can be continued
via : (ws us vs : List Sign) → ws ++ us ≡ vs → Viable Spells vs → Viable Spells ws
via ws us vs e v = (us ++ v.0, v.1, subst (λ l. Spells l v.1) (ap (λ l. l ++ v.0) (sym e) ∙ append_assoc ws us v.0) v.2)

fill_more : (ps : List ProcessTree) (fm : FormedAll ps) → (ps ≡ [] → ⊥) → Viable Spells (file_words ps)
fill_more ps fm e = ([], ps, record { words = append-nil (file_words ps); some = e; formed = fm })

fill_body : (h : Inside) → Viable Spells (spelled (body h))
fill_body h =
    via (spelled (body h)) (s.Mark m.CloseBrace ∷ []) (file_words (h.before ++ process_of h ∷ [])) (simp (append_assoc, each-push))
    (fill_more (h.before ++ process_of h ∷ []) (all_push h.before (process_of h) h.formed h.shaped) (pushed h.before (process_of h)))

-- some operand of each kind
some : Kind → Sign
some j.name = s.Name no_ident
some (j.number low high) = s.Number (record { place = 0; bytes = [] })

fillers : (passed left : List Kind) (xs : List Sign) → Operands passed xs → Operands (passed ++ left) (xs ++ map some left)
unfolding some
fillers [] [] [] h = tt
fillers [] (j.name ∷ ks) [] h = ((no_ident, refl), fillers [] ks [] tt)
fillers [] (j.number low high ∷ ks) [] h = ((record { place = 0; bytes = [] }, refl), fillers [] ks [] tt)
fillers [] left (x ∷ xs) h = absurd h
fillers (i ∷ ks) left [] h = absurd h
fillers (i ∷ ks) left (x ∷ xs) h = (h.0, fillers ks left xs h.1)

fill_operands : (h : Inside) (op : Opcode) (xs : List Sign) (passed left : List Kind) (e : kinds op ≡ passed ++ left) (st : Operands passed xs) → Viable Spells (spelled (operands h op xs passed left e st))
fill_operands h op xs passed left e st =
    let x : StatementTree = record { opcode = op; operands = xs ++ map some left } in
    let f : Operands (kinds op) (xs ++ map some left) = subst (λ ks. Operands ks (xs ++ map some left)) (sym e) (fillers passed left xs st) in
    via (spelled (operands h op xs passed left e st)) (map some left ++ s.Mark m.Semicolon ∷ []) (spelled (body (with_statement h x f))) (simp (append_assoc, each-push)) (fill_body (with_statement h x f))

fill_opening : (ps : List ProcessTree) (fm : FormedAll ps) (n : Ident) → Viable Spells (spelled (opening ps fm n))
fill_opening ps fm n =
    let h : Inside = record { before = ps; formed = fm; ident = n; statements = []; shaped = tt } in
    via (spelled (opening ps fm n)) (s.Mark m.OpenBrace ∷ []) (spelled (body h)) (simp append_assoc) (fill_body h)

fill_heading : (ps : List ProcessTree) (fm : FormedAll ps) → Viable Spells (spelled (heading ps fm))
fill_heading ps fm = via (spelled (heading ps fm)) (s.Name no_ident ∷ []) (spelled (opening ps fm no_ident)) (simp append_assoc) (fill_opening ps fm no_ident)

pub fill : (N : Trail) → Viable Spells (spelled N)
fill start = via [] (s.Key k.Process ∷ []) (spelled (heading [] tt)) refl (fill_heading [] tt)
fill (heading ps fm) = fill_heading ps fm
fill (opening ps fm n) = fill_opening ps fm n
fill (body h) = fill_body h
fill (operands h op xs passed left e st) = fill_operands h op xs passed left e st
fill (more ps fm e) = fill_more ps fm e
