-- The grammar of script files: the words of each part. `*` is none or more, `+` one or more.
--   scripts     = process+
--   process     = "process" name "{" (instruction ";")* "}"
--   instruction = an instruction word and its operands
--   Stands k x          the word x is an operand of the kind k
--   Operands ks xs      the words xs are operands of the kinds ks
--   StatementTree       an instruction: its word and its operands as they are written
--   ProcessTree         a process with its instructions
--   statement_words, head_words, process_words, file_words    the words of an instruction, of a process up to an instruction, of a process, of a file
--   Formed ss           each of the instructions ss has the operands of its word
--   FormedAll ps        so has each instruction of the processes ps
--   Spells ws ps        the words ws are the file of the processes ps
--   typed op xs         the instruction of the tree with this word and these operands
--   parts_of ps          the processes of the tree for the processes ps
use Rattle.std.specs.Prelude.{◌≡◌, ℕ, List, [], ◌∷◌, ◌++◌, map, length, slice_index_or}
use Rattle.words.specs.declared.name.Ident.{Ident}
use Rattle.words.specs.declared.word.Keyword.TheVariants as k
use Rattle.words.specs.declared.word.Mark.TheVariants as m
use Rattle.words.specs.Signs.{Sign, Numeral}
use Rattle.words.specs.Signs as s
use Rattle.grammar.specs.Families.{no_ident}
use Rattle.grammar.specs.Spelling.{each}
use Rattle.script_syntax.specs.declared.opcode.Opcode.{Opcode}
use Rattle.script_syntax.specs.declared.opcode.Opcode.TheVariants as o
use Rattle.script_syntax.specs.declared.tree.Distance.{Distance}
use Rattle.script_syntax.specs.declared.tree.Statement.{Statement}
use Rattle.script_syntax.specs.declared.tree.Statement.TheVariants as t
use Rattle.script_syntax.specs.Numbers.{value_of, natural_of}
use Rattle.script_syntax.specs.Opcodes.{word_of, Kind, name, number, kinds}
use Rattle.script_syntax.specs.Trees.{ProcessParts}

abbrev pub Stands : Kind → Sign → Type 0
Stands name x = (n : Ident) × (x ≡ s.Name n)
Stands (number low high) x = (n : Numeral) × (x ≡ s.Number n)

abbrev pub Operands : List Kind → List Sign → Type 0
Operands [] [] = Unit {0}
Operands [] (x ∷ xs) = ⊥
Operands (j ∷ ks) [] = ⊥
Operands (j ∷ ks) (x ∷ xs) = Stands j x × Operands ks xs

pub record StatementTree : Type 0 where
  pub opcode : Opcode
  pub operands : List Sign

pub record ProcessTree : Type 0 where
  pub ident : Ident
  pub statements : List StatementTree

abbrev pub statement_words : StatementTree → List Sign
statement_words x = s.Key (word_of x.opcode) ∷ (x.operands ++ s.Mark m.Semicolon ∷ [])

abbrev pub head_words : Ident → List StatementTree → List Sign
head_words n ss = s.Key k.Process ∷ s.Name n ∷ s.Mark m.OpenBrace ∷ each statement_words ss

abbrev pub process_words : ProcessTree → List Sign
process_words p = head_words p.ident p.statements ++ s.Mark m.CloseBrace ∷ []

abbrev pub file_words : List ProcessTree → List Sign
file_words ps = each process_words ps

abbrev pub Formed : List StatementTree → Type 0
Formed [] = Unit {0}
Formed (x ∷ ss) = Operands (kinds x.opcode) x.operands × Formed ss

abbrev pub FormedAll : List ProcessTree → Type 0
FormedAll [] = Unit {0}
FormedAll (p ∷ ps) = Formed p.statements × FormedAll ps

pub record Spells (ws : List Sign) (ps : List ProcessTree) : Type 0 where
  pub words : ws ≡ file_words ps
  pub some : ps ≡ [] → ⊥
  pub formed : FormedAll ps

-- the name and the number that a word says
abbrev pub name_in : Sign → Ident
name_in (s.Key y) = no_ident
name_in (s.Mark y) = no_ident
name_in (s.Name n) = n
name_in (s.Number n) = no_ident
name_in s.End = no_ident

abbrev pub numeral_in : Sign → Numeral
numeral_in (s.Key y) = record { place = 0; bytes = [] }
numeral_in (s.Mark y) = record { place = 0; bytes = [] }
numeral_in (s.Name n) = record { place = 0; bytes = [] }
numeral_in (s.Number n) = n
numeral_in s.End = record { place = 0; bytes = [] }

abbrev pub distance_of : Numeral → Distance
distance_of n = record { place = n.place; len = length n.bytes; value = value_of n.bytes }

-- the name, the number or the distance that is the i-th of the operands xs
abbrev pub name_at : List Sign → ℕ → Ident
name_at xs i = name_in (slice_index_or xs i s.End)

abbrev pub number_at : List Sign → ℕ → ℕ
number_at xs i = natural_of (value_of (numeral_in (slice_index_or xs i s.End)).bytes)

abbrev pub distance_at : List Sign → ℕ → Distance
distance_at xs i = distance_of (numeral_in (slice_index_or xs i s.End))

abbrev pub typed : Opcode → List Sign → Statement
typed o.New xs = t.New (number_at xs 0)
typed o.Put xs = t.Put (number_at xs 0) (number_at xs 1) (number_at xs 2)
typed o.Free xs = t.Free (number_at xs 0)
typed o.Open xs = t.Open (name_at xs 0) (number_at xs 1) (number_at xs 2)
typed o.Close xs = t.Close (number_at xs 0)
typed o.Send xs = t.Send (number_at xs 0) (name_at xs 1) (name_at xs 2)
typed o.Pass xs = t.Pass (number_at xs 0) (name_at xs 1) (name_at xs 2) (number_at xs 3)
typed o.Receive xs = t.Receive (number_at xs 0) (number_at xs 1)
typed o.Case xs = t.Case (name_at xs 0) (name_at xs 1) (distance_at xs 2)
typed o.Lost xs = t.Lost (distance_at xs 0)
typed o.Jump xs = t.Jump (distance_at xs 0)
typed o.End xs = t.End

abbrev pub statement_of : StatementTree → Statement
statement_of x = typed x.opcode x.operands

abbrev pub process_parts : ProcessTree → ProcessParts
process_parts p = record { ident = p.ident; statements = map statement_of p.statements }

abbrev pub parts_of : List ProcessTree → List ProcessParts
parts_of ps = map process_parts ps
