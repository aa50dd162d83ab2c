-- Script files as trees, and as the tables of the code.
--   ProcessParts      a process: its name and its instructions
--   process_of p       the process that a table of the code holds
--   processes_of ps    the processes that a table of them holds
--   parts t           the processes that a tree of the code holds
--   no_process         what stands past the last process
--   Far d             a distance is −127 to 127
--   Within x          the numbers of an instruction are in their ranges
--   Ranged ps         numbers are in range: one to 8 processes, at most 64 instructions each
--   Distinct ps       no two processes have one name
use Rattle.std.specs.Prelude.{◌≡◌, ℕ, ◌<◌, ◌≤◌, List, [], map, length, get_or, pos, negsuc, ◌≤ℤ◌, slice_index_or}
use Rattle.words.specs.declared.name.Ident.{Ident}
use Rattle.grammar.specs.Families.{no_ident}
use Rattle.grammar.specs.Rows.{row_items}
use Rattle.script_syntax.specs.declared.tree.Distance.{Distance}
use Rattle.script_syntax.specs.declared.tree.Statement.{Statement}
use Rattle.script_syntax.specs.declared.tree.Statement.TheVariants.{End, New, Put, Free, Open, Close, Send, Pass, Receive, Case, Lost, Jump}
use Rattle.script_syntax.specs.declared.tree.Process.{Process}
use Rattle.script_syntax.specs.declared.tree.Tree.{Tree}

pub record ProcessParts : Type 0 where
  pub ident : Ident
  pub statements : List Statement

abbrev pub process_of : Process → ProcessParts
process_of p = record { ident = p.ident; statements = row_items p.statements }

abbrev pub processes_of : List Process → List ProcessParts
processes_of ps = map process_of ps

abbrev pub parts : Tree → List ProcessParts
parts t = processes_of (row_items t.processes)

abbrev pub no_process : ProcessParts
no_process = record { ident = no_ident; statements = [] }

abbrev pub Far : Distance → Type 0
Far d = (negsuc 126 ≤ℤ d.value) × (d.value ≤ℤ pos 127)

abbrev pub Within : Statement → Type 0
Within End = Unit {0}
Within (New r) = r < 8
Within (Put r k b) = (r < 8) × (k < 64) × (b < 256)
Within (Free r) = r < 8
Within (Open c r s) = (r < 8) × (s < 8)
Within (Close r) = r < 8
Within (Send e c m) = e < 8
Within (Pass e c m t) = (e < 8) × (t < 8)
Within (Receive e t) = (e < 8) × (t < 8)
Within (Case c m d) = Far d
Within (Lost d) = Far d
Within (Jump d) = Far d

pub record Ranged (ps : List ProcessParts) : Type 0 where
  pub some : 0 < length ps
  pub few : length ps ≤ 8
  pub short : (p : ℕ) → length (get_or ps p no_process).statements ≤ 64
  pub within : (p i : ℕ) → i < length (get_or ps p no_process).statements → Within (slice_index_or (get_or ps p no_process).statements i End)

abbrev pub Distinct : List ProcessParts → Type 0
Distinct ps =
    (i j : ℕ) → i < length ps → j < length ps → (get_or ps i no_process).ident.name ≡ (get_or ps j no_process).ident.name → i ≡ j
