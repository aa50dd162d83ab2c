-- What a script file may say, and what is at fault in one that may not stand.
--   Family ws ns limit     the word after ws is the next name of a family that has the names ns and room for limit
--   Operand ws j           the word after ws is an operand of the kind j
--   Outside low high v     a number is none from low to high
--   Unranged ws x          5: x is a number outside its operand's range
--   Crowded ws x           6: x is an instruction word, and its process has 64 instructions
--   Held l ws x            the limit l refuses the word x after ws
--   Clean seen xs          no word of xs, which follow those seen, is at fault
--   Right t o              o is the file that the words t spell, or the fault at the first spot of t from the left
--   Exact t o              where the words t spell a file and none is at fault, o is that file
--   outcome r              what was read, in place of the tree that holds it
use Rattle.std.specs.Prelude.{◌≡◌, ℕ, ◌≤◌, ◌⊎◌, List, [], ◌∷◌, ◌++◌, map, length, ℤ, ◌≤ℤ◌, Ok, Err, Result}
use Rattle.words.specs.declared.name.Ident.{Ident}
use Rattle.words.specs.declared.word.Keyword.TheVariants as k
use Rattle.words.specs.declared.fault.Source.TheVariants.{Scripts}
use Rattle.words.specs.Signs.{Sign, Numeral}
use Rattle.words.specs.Signs as s
use Rattle.words.specs.Stream.{Stream}
use Rattle.grammar.specs.declared.fault.GrammarFault.{GrammarFault}
use Rattle.grammar.specs.Families.{Beyond, Second}
use Rattle.grammar.specs.Laws.{Limit, range, room, once}
use Rattle.grammar.specs.Laws as law
use Rattle.script_syntax.specs.declared.opcode.Opcode.{Opcode}
use Rattle.script_syntax.specs.declared.tree.Tree.{Tree}
use Rattle.script_syntax.specs.Numbers.{value_of}
use Rattle.script_syntax.specs.Opcodes.{word_of, Kind, number, kinds}
use Rattle.script_syntax.specs.Trees.{ProcessParts, parts}
use Rattle.script_syntax.specs.Grammar.{StatementTree, ProcessTree, Operands, Formed, FormedAll, Spells, head_words, file_words, parts_of}

-- the processes of the file
pub data Family (ws : List Sign) (ns : List Ident) (limit : ℕ) : Type 0 where
  processes : (ps : List ProcessTree) → FormedAll ps
      → ws ≡ file_words ps ++ s.Key k.Process ∷ [] → ns ≡ map (λ p. p.ident) ps → limit ≡ 8 → Family ws ns limit

-- the processes before, a process with its instructions so far, an instruction word, and its operands so far
pub record Operand (ws : List Sign) (j : Kind) : Type 0 where
  pub before : List ProcessTree
  pub formed : FormedAll before
  pub ident : Ident
  pub statements : List StatementTree
  pub shaped : Formed statements
  pub opcode : Opcode
  pub passed : List Kind
  pub left : List Kind
  pub kind : kinds opcode ≡ passed ++ j ∷ left
  pub operands : List Sign
  pub stand : Operands passed operands
  pub words : ws ≡ file_words before ++ (head_words ident statements ++ s.Key (word_of opcode) ∷ operands)

abbrev pub Outside : ℤ → ℤ → ℤ → Type 0
Outside low high v = (low ≤ℤ v) × (v ≤ℤ high) → ⊥

abbrev pub Unranged : List Sign → Sign → Type 0
Unranged ws x = (low high : ℤ) × (n : Numeral) × (x ≡ s.Number n) × Operand ws (number low high) × Outside low high (value_of n.bytes)

pub record Crowded (ws : List Sign) (x : Sign) : Type 0 where
  pub before : List ProcessTree
  pub formed : FormedAll before
  pub ident : Ident
  pub statements : List StatementTree
  pub shaped : Formed statements
  pub opcode : Opcode
  pub words : ws ≡ file_words before ++ head_words ident statements
  pub next : x ≡ s.Key (word_of opcode)
  pub many : 64 ≤ length statements

abbrev pub Held : Limit → List Sign → Sign → Type 0
Held range ws x = Unranged ws x
Held room ws x = Beyond Family ws x ⊎ Crowded ws x
Held once ws x = Second Family ws x

abbrev pub Clean : List Sign → List Sign → Type 0
Clean seen xs = law.Clean Spells Held seen xs

abbrev pub Right : Stream → Result (List ProcessParts) GrammarFault → Type 0
Right t o = law.Right Spells Held Scripts parts_of t o

abbrev pub Exact : Stream → Result (List ProcessParts) GrammarFault → Type 0
Exact t o = law.Exact Spells Held parts_of t o

abbrev pub outcome : Result Tree GrammarFault → Result (List ProcessParts) GrammarFault
outcome (Ok t) = Ok (parts t)
outcome (Err f) = Err f
