-- Scripts: processes whose instructions have numbers in place of names.
--   ScriptParts           a process: its name and its instructions
--   script_of s            the process that a table of the code holds
--   scripts_of ss          the processes that tables of the code hold
--   no_script              what stands past the last process
--   script_at ss p         process p
--   instructions_of ss p   its instructions
--   InstructionsAs ts xs ys   ys are the statements xs with numbers in place of names
--   ScriptAs ts x y       y is the process x with numbers in place of names
--   ScriptsAs ts ps ss    ss are the processes ps with numbers in place of names
use Rattle.std.specs.Prelude.{◌≡◌, ℕ, ◌<◌, List, [], map, length, slice_index_or}
use Rattle.words.specs.declared.name.Name.{Name}
use Rattle.grammar.specs.Rows.{row_items}
use Rattle.contracts.specs.declared.table.Table.{Table}
use Rattle.contracts.specs.Numbers.{no_name}
use Rattle.script_syntax.specs.declared.tree.Statement.{Statement}
use Rattle.script_syntax.specs.declared.tree.Statement.TheVariants as s
use Rattle.script_syntax.specs.Trees.{ProcessParts, no_process}
use Rattle.scripts.specs.declared.instruction.Instruction.{Instruction}
use Rattle.scripts.specs.declared.instruction.Instruction.TheVariants.{End}
use Rattle.scripts.specs.declared.script.Script.{Script}
use Rattle.scripts.specs.Names.{Resolves}

pub record ScriptParts : Type 0 where
  pub name : Name
  pub instructions : List Instruction

abbrev pub script_of : Script → ScriptParts
script_of s = record { name = s.name; instructions = row_items s.instructions }

abbrev pub scripts_of : List Script → List ScriptParts
scripts_of ss = map script_of ss

abbrev pub no_script : ScriptParts
no_script = record { name = no_name; instructions = [] }

abbrev pub script_at : List ScriptParts → ℕ → ScriptParts
script_at ss p = slice_index_or ss p no_script

abbrev pub instructions_of : List ScriptParts → ℕ → List Instruction
instructions_of ss p = (script_at ss p).instructions

pub record InstructionsAs (ts : List Table) (xs : List Statement) (ys : List Instruction) : Type 0 where
  pub count : length ys ≡ length xs
  pub each : (i : ℕ) → i < length xs → Resolves ts (slice_index_or xs i s.End) (slice_index_or ys i End)

pub record ScriptAs (ts : List Table) (x : ProcessParts) (y : ScriptParts) : Type 0 where
  pub name : y.name ≡ x.ident.name
  pub instructions : InstructionsAs ts x.statements y.instructions

pub record ScriptsAs (ts : List Table) (ps : List ProcessParts) (ss : List ScriptParts) : Type 0 where
  pub count : length ss ≡ length ps
  pub each : (p : ℕ) → p < length ps → ScriptAs ts (slice_index_or ps p no_process) (script_at ss p)
