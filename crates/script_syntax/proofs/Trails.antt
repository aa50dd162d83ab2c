-- How far a script file has been read, with the trees of what was read.
use Rattle.std.proofs.Common.{◌≡◌, List, [], ◌∷◌, ◌++◌, map, sym, ap}
use Rattle.std.proofs.lemmas.List.{map_push}
use Rattle.words.specs.declared.name.Ident.{Ident}
use Rattle.words.specs.declared.word.Keyword.TheVariants as k
use Rattle.words.specs.Signs.{Sign}
use Rattle.words.specs.Signs as s
use Rattle.script_syntax.specs.declared.opcode.Opcode.{Opcode}
use Rattle.script_syntax.specs.declared.tree.Statement.{Statement}
use Rattle.script_syntax.specs.Opcodes.{word_of, Kind, kinds}
use Rattle.script_syntax.specs.Grammar.{StatementTree, ProcessTree, Operands, Formed, FormedAll, head_words, file_words, statement_of, process_parts, parts_of}
use Rattle.script_syntax.specs.Machine.{At, Progress, begun, added, ended}
use Rattle.script_syntax.specs.Machine as q

-- the processes before, and a process's name and instructions
pub record Inside : Type 0 where
  pub before : List ProcessTree
  pub formed : FormedAll before
  pub ident : Ident
  pub statements : List StatementTree
  pub shaped : Formed statements

pub data Trail : Type 0 where
  start : Trail
  heading : (ps : List ProcessTree) → FormedAll ps → Trail
  opening : (ps : List ProcessTree) → FormedAll ps → Ident → Trail
  body : Inside → Trail
  operands : (h : Inside) (op : Opcode) (xs : List Sign) (passed left : List Kind) → kinds op ≡ passed ++ left → Operands passed xs → Trail
  more : (ps : List ProcessTree) → FormedAll ps → (ps ≡ [] → ⊥) → Trail

-- the words that led here
abbrev pub spelled : Trail → List Sign
spelled start = []
spelled (heading ps fm) = file_words ps ++ s.Key k.Process ∷ []
spelled (opening ps fm n) = file_words ps ++ s.Key k.Process ∷ s.Name n ∷ []
spelled (body h) = file_words h.before ++ head_words h.ident h.statements
spelled (operands h op xs passed left e st) = file_words h.before ++ (head_words h.ident h.statements ++ s.Key (word_of op) ∷ xs)
spelled (more ps fm e) = file_words ps

-- what the tables hold
abbrev pub progress : Inside → Progress
progress h = record { processes = parts_of h.before; ident = h.ident; statements = map statement_of h.statements }

abbrev pub at : Trail → At
at start = q.start []
at (heading ps fm) = q.heading (parts_of ps)
at (opening ps fm n) = q.opening (parts_of ps) n
at (body h) = q.body (progress h)
at (operands h op xs passed left e st) = q.operands (progress h) op xs left
at (more ps fm e) = q.more (parts_of ps)

pub formed-push : (ss : List StatementTree) (x : StatementTree) → Formed ss → Operands (kinds x.opcode) x.operands → Formed (ss ++ x ∷ [])
formed-push [] x h f = (f, tt)
formed-push (y ∷ ss) x h f = (h.0, formed-push ss x h.1 f)

pub all_push : (ps : List ProcessTree) (p : ProcessTree) → FormedAll ps → Formed p.statements → FormedAll (ps ++ p ∷ [])
all_push [] p h f = (f, tt)
all_push (x ∷ ps) p h f = (h.0, all_push ps p h.1 f)

abbrev pub process_of : Inside → ProcessTree
process_of h = record { ident = h.ident; statements = h.statements }

abbrev pub with_statement : (h : Inside) (x : StatementTree) → Operands (kinds x.opcode) x.operands → Inside
with_statement h x f = record { before = h.before; formed = h.formed; ident = h.ident; statements = h.statements ++ x ∷ []; shaped = formed-push h.statements x h.shaped f }

-- one entry more
pub add_statement : (h : Inside) (x : StatementTree) (f : Operands (kinds x.opcode) x.operands) → progress (with_statement h x f) ≡ added (progress h) (statement_of x)
add_statement h x f =
    ap (λ (l : List Statement). record { processes = parts_of h.before; ident = h.ident; statements = l }) (map_push statement_of h.statements x)

pub end-process : (h : Inside) → ended (progress h) ≡ parts_of (h.before ++ process_of h ∷ [])
end-process h = sym (map_push process_parts h.before (process_of h))
