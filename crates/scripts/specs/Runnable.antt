-- Instructions that can be run with no further doubt, against a contract set whose tables are a list ts.
--   Declared ts k m        message m of contract k is declared
--   Runnable ts n i y      the instruction y, the i-th of n: its operands are in range, its numbers declared, its message carries what it should, its jump leads to 0 to n
--   Far d                  a distance is −127 to 127
--   Place ss               a place of an instruction: a process, and a number of an instruction of it
--   AllRunnable ts ss      every instruction can be run
--   Alike ss               two processes of one name
--   OneName ss             no two processes have one name
--   Sound ts ss            ss are the scripts of a set: one to 8 processes of at most 64 instructions each, each with a name of its own, every instruction runnable
use Rattle.std.specs.Prelude.{◌≡◌, ℕ, ◌<◌, ◌≤◌, List, length, ℤ, pos, negsuc, ◌≤ℤ◌, slice_index_or}
use Rattle.contracts.specs.declared.table.Table.{Table}
use Rattle.contracts.specs.Tables.{messages, payload_of, table_at}
use Rattle.scripts.specs.declared.instruction.Instruction.{Instruction}
use Rattle.scripts.specs.declared.instruction.Instruction.TheVariants.{End, New, Put, Free, Open, Close, Send, Pass, Receive, Case, Lost, Jump}
use Rattle.scripts.specs.Jumps.{Lands}
use Rattle.scripts.specs.Payloads.{Bare, Laden}
use Rattle.scripts.specs.Scripts.{instructions_of, script_at, ScriptParts}

abbrev pub Declared : List Table → ℕ → ℕ → Type 0
Declared ts k m = (k < length ts) × (m < messages (table_at ts k))

abbrev pub Far : ℤ → Type 0
Far d = (negsuc 126 ≤ℤ d) × (d ≤ℤ pos 127)

abbrev pub Runnable : List Table → ℕ → ℕ → Instruction → Type 0
Runnable ts n i End = Unit {0}
Runnable ts n i (New r) = r < 8
Runnable ts n i (Put r k b) = (r < 8) × (k < 64) × (b < 256)
Runnable ts n i (Free r) = r < 8
Runnable ts n i (Open k r s) = (k < length ts) × (r < 8) × (s < 8)
Runnable ts n i (Close r) = r < 8
Runnable ts n i (Send e k m) = (e < 8) × Declared ts k m × Bare (payload_of (table_at ts k) m)
Runnable ts n i (Pass e k m t) = (e < 8) × (t < 8) × Declared ts k m × Laden (payload_of (table_at ts k) m)
Runnable ts n i (Receive e t) = (e < 8) × (t < 8)
Runnable ts n i (Case k m d) = Declared ts k m × Far d × Lands n i d
Runnable ts n i (Lost d) = Far d × Lands n i d
Runnable ts n i (Jump d) = Far d × Lands n i d

pub record Place (ss : List ScriptParts) : Type 0 where
  pub process : ℕ
  pub index : ℕ
  pub within : index < length (instructions_of ss process)

-- an instruction of any kind is either runnable or not: no more is said by how it is shown
abbrev pub AllRunnable : List Table → List ScriptParts → Type 0
AllRunnable ts ss =
    (v : Place ss) → ∥ Runnable ts (length (instructions_of ss v.process)) v.index (slice_index_or (instructions_of ss v.process) v.index End) ∥₁

pub record Alike (ss : List ScriptParts) : Type 0 where
  pub one : ℕ
  pub other : ℕ
  pub first : one < length ss
  pub second : other < length ss
  pub named : (script_at ss one).name ≡ (script_at ss other).name

abbrev pub OneName : List ScriptParts → Type 0
OneName ss = (v : Alike ss) → v.one ≡ v.other

pub record Sound (ts : List Table) (ss : List ScriptParts) : Type 0 where
  pub some : 0 < length ss
  pub few : length ss ≤ 8
  pub short : (p : ℕ) → length (instructions_of ss p) ≤ 64
  pub one_name : OneName ss
  pub runnable : AllRunnable ts ss
