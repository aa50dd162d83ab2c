-- Each word that may stand next: the trees that it leads to, the words so far, and what a check says of it.
use Rattle.std.proofs.Common.{◌≡◌, ℕ, Bool, true, false, cond, leb, List, [], ◌∷◌, ◌++◌, map, length, ℤ, Some, None, Option, sym, refl, ap, ◌∙◌, subst, inl, inr, append_assoc, append-nil, arith, leb-true}
use lib.ListN.{length-map}
use Rattle.words.specs.declared.name.Ident.{Ident}
use Rattle.words.specs.declared.word.Keyword.{Keyword}
use Rattle.words.specs.declared.word.Keyword.TheVariants as k
use Rattle.words.specs.Signs.{Sign, Numeral}
use Rattle.words.specs.Signs as s
use Rattle.grammar.specs.Table.{crowded, fine, out_of_range, new, opt, admission}
use Rattle.grammar.proofs.Admissions.{told as admitted}
use Rattle.grammar.proofs.Grammars.{Says, Steps}
use Rattle.grammar.proofs.Spelled.{each-push, pushed}
use Rattle.grammar.proofs.Tables.{Edges, Of}
use Rattle.script_syntax.specs.declared.opcode.Opcode.{Opcode}
use Rattle.script_syntax.specs.declared.opcode.Opcode.TheVariants as o
use Rattle.script_syntax.specs.Numbers.{value_of, is_in_range}
use Rattle.script_syntax.specs.Opcodes.{word_of, Kind, kinds, opcode_of}
use Rattle.script_syntax.specs.Opcodes as j
use Rattle.script_syntax.specs.Grammar.{StatementTree, ProcessTree, Operands, Stands, Spells, head_words, file_words, statement_of, parts_of}
use Rattle.script_syntax.specs.Laws.{Family, processes, Outside, Held}
use Rattle.script_syntax.specs.Machine.{ask, spare, ranged}
use Rattle.script_syntax.specs.Machine as q
use Rattle.script_syntax.proofs.Trails.{Inside, Trail, start, heading, opening, body, operands, more, spelled, progress, at, all_push, process_of, with_statement, add_statement, end-process}

-- the check of the next name of a family
pub told : (ws : List Sign) (ns : List Ident) (limit : ℕ) → Family ws ns limit → (n : Ident) → Says Held (admission limit ns n) (s.Name n) ws
told ws ns limit f n = admitted Held ws n ns limit (λ b. inl (n, ns, limit, refl, f, b)) (λ h. (n, ns, limit, refl, f, h))

pub parts-named : (ps : List ProcessTree) → map (λ p. p.ident) (parts_of ps) ≡ map (λ p. p.ident) ps
parts-named [] = refl
parts-named (p ∷ ps) = ap (λ l. p.ident ∷ l) (parts-named ps)

-- an instruction word is the word of its instruction
pub word_of_lem : (y : Keyword) (op : Opcode) → opcode_of y ≡ Some op → word_of op ≡ y
word_of_lem k.Contract op e = absurd (cc)
word_of_lem k.Out op e = absurd (cc)
word_of_lem k.In op e = absurd (cc)
word_of_lem k.Block op e = absurd (cc)
word_of_lem k.Exp op e = absurd (cc)
word_of_lem k.Imp op e = absurd (cc)
word_of_lem k.State op e = absurd (cc)
word_of_lem k.Process op e = absurd (cc)
word_of_lem k.New op e = let p : op ≡ o.New = cc in ap word_of p
word_of_lem k.Put op e = let p : op ≡ o.Put = cc in ap word_of p
word_of_lem k.Free op e = let p : op ≡ o.Free = cc in ap word_of p
word_of_lem k.Open op e = let p : op ≡ o.Open = cc in ap word_of p
word_of_lem k.Close op e = let p : op ≡ o.Close = cc in ap word_of p
word_of_lem k.Send op e = let p : op ≡ o.Send = cc in ap word_of p
word_of_lem k.Pass op e = let p : op ≡ o.Pass = cc in ap word_of p
word_of_lem k.Receive op e = let p : op ≡ o.Receive = cc in ap word_of p
word_of_lem k.Case op e = let p : op ≡ o.Case = cc in ap word_of p
word_of_lem k.Lost op e = let p : op ≡ o.Lost = cc in ap word_of p
word_of_lem k.Jump op e = let p : op ≡ o.Jump = cc in ap word_of p
word_of_lem k.End op e = let p : op ≡ o.End = cc in ap word_of p

pub operands_push : (ks : List Kind) (xs : List Sign) (i : Kind) (x : Sign) → Operands ks xs → Stands i x → Operands (ks ++ i ∷ []) (xs ++ x ∷ [])
operands_push [] [] i x h f = (f, tt)
operands_push [] (y ∷ xs) i x h f = absurd h
operands_push (j ∷ ks) [] i x h f = absurd h
operands_push (j ∷ ks) (y ∷ xs) i x h f = (h.0, operands_push ks xs i x h.1 f)

pub out_of_range_lem : (low high v : ℤ) → is_in_range low high v ≡ false → Outside low high v
out_of_range_lem low high v e h = let a = h.0.le in let b = h.1.le in grind arith

module _ (h : Inside) where
  -- a word that begins an instruction
  room_for : (y : Keyword) (op : Opcode) → word_of op ≡ y → (full : Bool) → leb 64 (length (map statement_of h.statements)) ≡ full
      → Says Held (cond full crowded fine) (s.Key y) (spelled (body h))
  room_for y op w true e =
      let l = length-map h.statements statement_of in
      let b = leb-true 64 (length (map statement_of h.statements)) e in
      inr (record { before = h.before; formed = h.formed; ident = h.ident; statements = h.statements; shaped = h.shaped; opcode = op; words = refl; next = ap s.Key (sym w); many = omega arith })
  room_for y op w false e = tt

  begins : (y : Keyword) (found : Option Opcode) → opcode_of y ≡ found
      → Of (opt (λ op. new (q.operands (progress h) op [] (kinds op)) (spare (progress h))) found) (Steps Spells Held parts_of at spelled (body h) (s.Key y))
  begins y None e = tt
  begins y (Some op) e =
      let w = word_of_lem y op e in
      let F = file_words h.before in
      let H = head_words h.ident h.statements in (
        record { to = operands h op [] [] (kinds op) refl tt; stands = refl; adds = ap (λ v. F ++ (H ++ s.Key v ∷ [])) w ∙ sym (append_assoc F H (s.Key y ∷ [])) },
        tt,
        room_for y op w (leb 64 (length (map statement_of h.statements))) refl,
      )

  -- a number as an operand
  number-says : (op : Opcode) (xs : List Sign) (passed ks : List Kind) (low high : ℤ) (e : kinds op ≡ passed ++ j.number low high ∷ ks) (st : Operands passed xs) (n : Numeral)
      → (b : Bool) → is_in_range low high (value_of n.bytes) ≡ b
      → Says Held (cond b fine (out_of_range n)) (s.Number n) (spelled (operands h op xs passed (j.number low high ∷ ks) e st))
  number-says op xs passed ks low high e st n true f = tt
  number-says op xs passed ks low high e st n false f = (
    refl,
    (
      low,
      high,
      n,
      refl,
      record {
        before = h.before;
        formed = h.formed;
        ident = h.ident;
        statements = h.statements;
        shaped = h.shaped;
        opcode = op;
        passed = passed;
        left = ks;
        kind = e;
        operands = xs;
        stand = st;
        words = refl;
      },
      out_of_range_lem low high (value_of n.bytes) f,
    ),
  )

-- an instruction that is complete
abbrev statement_tree : Opcode → List Sign → StatementTree
statement_tree op xs = record { opcode = op; operands = xs }

complete : (op : Opcode) (xs : List Sign) (passed : List Kind) → kinds op ≡ passed ++ [] → Operands passed xs → Operands (kinds op) xs
complete op xs passed e st = subst (λ ks. Operands ks xs) (sym (e ∙ append-nil passed)) st

-- the kinds that were passed with one more
regroup : (op : Opcode) (passed : List Kind) (i : Kind) (ks : List Kind) → kinds op ≡ passed ++ i ∷ ks → kinds op ≡ (passed ++ i ∷ []) ++ ks
regroup op passed i ks e = e ∙ sym (append_assoc passed (i ∷ []) ks)

pub edges : (N : Trail) → Edges (ask (at N)) (Steps Spells Held parts_of at spelled N)
edges start = ((record { to = heading [] tt; stands = refl; adds = refl }, tt), tt)
edges (heading ps fm) =
    ((λ n. (record { to = opening ps fm n; stands = refl; adds = simp append_assoc }, tt, told (spelled (heading ps fm)) _ 8 (processes ps fm refl (parts-named ps) refl) n)), tt)
edges (opening ps fm n) =
    ((record { to = body (record { before = ps; formed = fm; ident = n; statements = []; shaped = tt }); stands = refl; adds = simp append_assoc }, tt), tt)
edges (body h) = (
  (λ y. begins h y (opcode_of y) refl),
  (
    (
      record {
        to = more (h.before ++ process_of h ∷ []) (all_push h.before (process_of h) h.formed h.shaped) (pushed h.before (process_of h));
        stands = ap q.more (sym (end-process h));
        adds = simp (append_assoc, each-push);
      },
      tt,
    ),
    tt,
  ),
)
edges (operands h op xs passed [] e st) = (
  (
    record {
      to = body (with_statement h (statement_tree op xs) (complete op xs passed e st));
      stands = ap q.body (add_statement h (statement_tree op xs) (complete op xs passed e st));
      adds = simp (append_assoc, each-push);
    },
    tt,
  ),
  tt,
)
edges (operands h op xs passed (j.name ∷ ks) e st) = (
  (λ n. (
    record {
      to = operands h op (xs ++ s.Name n ∷ []) (passed ++ j.name ∷ []) ks (regroup op passed j.name ks e) (operands_push passed xs j.name (s.Name n) st (n, refl));
      stands = refl;
      adds = simp append_assoc;
    },
    tt,
  )),
  tt,
)
edges (operands h op xs passed (j.number low high ∷ ks) e st) = (
  (λ n. (
    record {
      to = operands h op (xs ++ s.Number n ∷ []) (passed ++ j.number low high ∷ []) ks (regroup op passed (j.number low high) ks e) (operands_push passed xs (j.number low high) (s.Number n) st (n, refl));
      stands = refl;
      adds = simp append_assoc;
    },
    tt,
    number-says h op xs passed ks low high e st n (is_in_range low high (value_of n.bytes)) refl,
  )),
  tt,
)
edges (more ps fm e) = ((record { to = heading ps fm; stands = refl; adds = refl }, tt), ((refl, ps, record { words = refl; some = e; formed = fm }, refl), tt))
