-- The grammar of script files as a table, with what has been read so far.
--   Progress           what has been read inside a process: the processes so far, its name and its instructions
--   inside ps n ss     the processes ps were read, and of the process n the instructions ss
--   begun, added, ended     what has been read with one entry more
--   At                 how far a file has been read
--   spare p            the check of an instruction word: whether the process has room for one more
--   ranged low high n  the check of a number
--   closed p x         the word that may stand next behind the instruction x
--   operand p op xs ks the word that may stand next as an operand
--   ask q              the words that may stand next
--   turned p o         where an instruction word leads, or the end of a process
--   reading q from     what becomes of the file of which the feed has the rest, at q
--   Completes op a r b the operands of op are read off the feed a, and r is the instruction with them, or the fault; b is a after them
use Rattle.std.specs.Prelude.{◌≤◌, cond, List, [], ◌∷◌, ◌++◌, map, length, ℤ, Some, None, Option, Result, nat_le}
use Rattle.words.specs.declared.name.Ident.{Ident}
use Rattle.words.specs.declared.word.Keyword.TheVariants as k
use Rattle.words.specs.declared.word.Mark.TheVariants as m
use Rattle.words.specs.Signs.{Sign, Numeral}
use Rattle.words.specs.Signs as s
use Rattle.words.specs.Stream.{bytes_in}
use Rattle.grammar.specs.declared.fault.GrammarFault.{GrammarFault}
use Rattle.grammar.specs.declared.feed.Feed.{Feed}
use Rattle.grammar.specs.Feeds.{left, source_in}
use Rattle.grammar.specs.Table.{Check, fine, crowded, out_of_range, go, new, accept, Alt, key, keys, mark, name, number, end, opt, admission, run, Goes}
use Rattle.script_syntax.specs.declared.opcode.Opcode.{Opcode}
use Rattle.script_syntax.specs.declared.tree.Statement.{Statement}
use Rattle.script_syntax.specs.Numbers.{value_of, is_in_range}
use Rattle.script_syntax.specs.Opcodes.{Kind, kinds, opcode_of}
use Rattle.script_syntax.specs.Opcodes as j
use Rattle.script_syntax.specs.Trees.{ProcessParts}
use Rattle.script_syntax.specs.Grammar.{typed}

pub record Progress : Type 0 where
  pub processes : List ProcessParts
  pub ident : Ident
  pub statements : List Statement

abbrev pub inside : List ProcessParts → Ident → List Statement → Progress
inside ps n ss = record { processes = ps; ident = n; statements = ss }

-- a process begins
abbrev pub begun : List ProcessParts → Ident → Progress
begun ps n = inside ps n []

abbrev pub added : Progress → Statement → Progress
added p x = record { processes = p.processes; ident = p.ident; statements = p.statements ++ x ∷ [] }

-- a process ends
abbrev pub ended : Progress → List ProcessParts
ended p = p.processes ++ record { ident = p.ident; statements = p.statements } ∷ []

pub data At : Type 0 where
  start : List ProcessParts → At
  heading : List ProcessParts → At
  opening : List ProcessParts → Ident → At
  body : Progress → At
  operands : Progress → Opcode → List Sign → List Kind → At
  closing : Progress → Statement → At
  more : List ProcessParts → At

abbrev pub spare : Progress → Check
spare p = cond (nat_le 64 (length p.statements)) crowded fine

abbrev pub ranged : ℤ → ℤ → Numeral → Check
ranged low high n = cond (is_in_range low high (value_of n.bytes)) fine (out_of_range n)

-- an instruction ends
abbrev pub closed : Progress → Statement → List (Alt At (List ProcessParts))
closed p x = mark m.Semicolon (go (body (added p x))) ∷ []

-- the operands xs of op were read, and those of the kinds ks are left
abbrev pub operand : Progress → Opcode → List Sign → List Kind → List (Alt At (List ProcessParts))
operand p op xs [] = closed p (typed op xs)
operand p op xs (j.name ∷ ks) = name (λ n. go (operands p op (xs ++ s.Name n ∷ []) ks)) ∷ []
operand p op xs (j.number low high ∷ ks) = number (λ n. new (operands p op (xs ++ s.Number n ∷ []) ks) (ranged low high n)) ∷ []

abbrev pub ask : At → List (Alt At (List ProcessParts))
ask (start ps) = key k.Process (go (heading ps)) ∷ []
ask (heading ps) = name (λ n. new (opening ps n) (admission 8 (map (λ p. p.ident) ps) n)) ∷ []
ask (opening ps n) = mark m.OpenBrace (go (body (begun ps n))) ∷ []
ask (body p) = keys (λ y. opt (λ op. new (operands p op [] (kinds op)) (spare p)) (opcode_of y)) ∷ mark m.CloseBrace (go (more (ended p))) ∷ []
ask (operands p op xs ks) = operand p op xs ks
ask (closing p x) = closed p x
ask (more ps) = key k.Process (go (heading ps)) ∷ end (accept ps) ∷ []

abbrev pub turned : Progress → Option Opcode → At
turned p (Some op) = operands p op [] (kinds op)
turned p None = more (ended p)

abbrev pub reading : At → Feed → Result (List ProcessParts) GrammarFault
reading q from = run ask (source_in from) q (left from)

pub record Completes (op : Opcode) (a : Feed) (r : Result Statement GrammarFault) (b : Feed) : Type 0 where
  pub goes : (p : Progress) → Goes (reading (operands p op [] (kinds op)) a) r (λ x. reading (closing p x) b)
  pub fewer : bytes_in (left b) ≤ bytes_in (left a)
