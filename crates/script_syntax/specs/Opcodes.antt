-- The instruction words, and the operands that stand behind each.
--   word_of op         the reserved word of an instruction
--   opcode_of y        the instruction of a reserved word, if it has one
--   Begins y r        r is the instruction of a reserved word, if it has one
--   Kind              what an operand is: a name, or a number from a lowest to a highest
--   register, place, byte, distance    the numbers by their ranges
--   kinds op          the operands of an instruction, in their order
use Rattle.std.specs.Prelude.{◌≡◌, List, [], ◌∷◌, ℤ, pos, negsuc, Some, None, Option, Result, MatchResult}
use Rattle.words.specs.declared.word.Keyword.{Keyword}
use Rattle.words.specs.declared.word.Keyword.TheVariants as k
use Rattle.script_syntax.specs.declared.opcode.Opcode.{Opcode}
use Rattle.script_syntax.specs.declared.opcode.Opcode.TheVariants.{New, Put, Free, Open, Close, Send, Pass, Receive, Case, Lost, Jump, End}

abbrev pub word_of : Opcode → Keyword
word_of New = k.New
word_of Put = k.Put
word_of Free = k.Free
word_of Open = k.Open
word_of Close = k.Close
word_of Send = k.Send
word_of Pass = k.Pass
word_of Receive = k.Receive
word_of Case = k.Case
word_of Lost = k.Lost
word_of Jump = k.Jump
word_of End = k.End

abbrev pub opcode_of : Keyword → Option Opcode
opcode_of k.Contract = None
opcode_of k.Out = None
opcode_of k.In = None
opcode_of k.Block = None
opcode_of k.Exp = None
opcode_of k.Imp = None
opcode_of k.State = None
opcode_of k.Process = None
opcode_of k.New = Some New
opcode_of k.Put = Some Put
opcode_of k.Free = Some Free
opcode_of k.Open = Some Open
opcode_of k.Close = Some Close
opcode_of k.Send = Some Send
opcode_of k.Pass = Some Pass
opcode_of k.Receive = Some Receive
opcode_of k.Case = Some Case
opcode_of k.Lost = Some Lost
opcode_of k.Jump = Some Jump
opcode_of k.End = Some End

-- r is the instruction that the reserved word y begins, if it begins one
abbrev pub Begins : {E : Type 0} → Keyword → Result Opcode E → Type 0
Begins y r = MatchResult r (λ op. opcode_of y ≡ Some op) (λ _. opcode_of y ≡ None)

pub data Kind : Type 0 where
  name : Kind
  number : ℤ → ℤ → Kind

abbrev pub register : Kind
register = number (pos 0) (pos 7)

abbrev pub place : Kind
place = number (pos 0) (pos 63)

abbrev pub byte : Kind
byte = number (pos 0) (pos 255)

abbrev pub distance : Kind
distance = number (negsuc 126) (pos 127)

abbrev pub kinds : Opcode → List Kind
kinds New = register ∷ []
kinds Put = register ∷ place ∷ byte ∷ []
kinds Free = register ∷ []
kinds Open = name ∷ register ∷ register ∷ []
kinds Close = register ∷ []
kinds Send = register ∷ name ∷ name ∷ []
kinds Pass = register ∷ name ∷ name ∷ register ∷ []
kinds Receive = register ∷ register ∷ []
kinds Case = name ∷ name ∷ distance ∷ []
kinds Lost = distance ∷ []
kinds Jump = distance ∷ []
kinds End = []
