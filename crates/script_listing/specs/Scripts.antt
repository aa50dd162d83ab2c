-- The listing of an accepted set of scripts.
--   instruction_text x        " WORD OPERANDS": its word and its operands as numbers, a distance with its minus
--   process_lines ss p x n    "process NAME" with the name x, and below it a line for each of the first n instructions of process p
--   process_text ss p         process p with its name and its instructions
--   scripts_text ss           the processes, one after the other
use Rattle.std.specs.Prelude.{ℕ, List, ◌++◌, length, codes, decimal}
use Rattle.std.specs.Fmt.{signed_decimal}
use Rattle.words.specs.declared.name.Name.{Name}
use Rattle.scripts.specs.declared.instruction.Instruction.{Instruction}
use Rattle.scripts.specs.declared.instruction.Instruction.TheVariants.{End, New, Put, Free, Open, Close, Send, Pass, Receive, Case, Lost, Jump}
use Rattle.scripts.specs.Scripts.{instructions_of, script_at, ScriptParts}
use Rattle.scripts.specs.View.{instruction_at}
use Rattle.listing.specs.Listings.{lines, name_text}

abbrev pub instruction_text : Instruction → List ℕ
instruction_text (New r) = codes " new " ++ (decimal r ++ codes "\n")
instruction_text (Put r k b) = codes " put " ++ (decimal r ++ (codes " " ++ (decimal k ++ (codes " " ++ (decimal b ++ codes "\n")))))
instruction_text (Free r) = codes " free " ++ (decimal r ++ codes "\n")
instruction_text (Open c r s) = codes " open " ++ (decimal c ++ (codes " " ++ (decimal r ++ (codes " " ++ (decimal s ++ codes "\n")))))
instruction_text (Close r) = codes " close " ++ (decimal r ++ codes "\n")
instruction_text (Send e c m) = codes " send " ++ (decimal e ++ (codes " " ++ (decimal c ++ (codes " " ++ (decimal m ++ codes "\n")))))
instruction_text (Pass e c m t) = codes " pass " ++ (decimal e ++ (codes " " ++ (decimal c ++ (codes " " ++ (decimal m ++ (codes " " ++ (decimal t ++ codes "\n")))))))
instruction_text (Receive e t) = codes " receive " ++ (decimal e ++ (codes " " ++ (decimal t ++ codes "\n")))
instruction_text (Case c m d) = codes " case " ++ (decimal c ++ (codes " " ++ (decimal m ++ (codes " " ++ (signed_decimal d ++ codes "\n")))))
instruction_text (Lost d) = codes " lost " ++ (signed_decimal d ++ codes "\n")
instruction_text (Jump d) = codes " jump " ++ (signed_decimal d ++ codes "\n")
instruction_text End = codes " end\n"

abbrev pub process_lines : List ScriptParts → ℕ → Name → ℕ → List ℕ
process_lines ss p x n = codes "process " ++ (name_text x ++ (codes "\n" ++ lines (λ i. instruction_text (instruction_at ss p i)) n))

abbrev pub process_text : List ScriptParts → ℕ → List ℕ
process_text ss p = process_lines ss p (script_at ss p).name (length (instructions_of ss p))

abbrev pub scripts_text : List ScriptParts → List ℕ
scripts_text ss = lines (process_text ss) (length ss)
