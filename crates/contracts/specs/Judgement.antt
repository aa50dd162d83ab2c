-- What the checker answers to a contract file, and to a text.
--   span_of d            where a name of a contract file stands
--   move_name p i, state_name p k s, message_name p k m    the message name of move i, the name of a state, the name of a message
--   fault_from p b         the fault that a broken rule is shown as: the rule, at the word that breaks it
--   Within p b          what breaks the rule is a part of the file
--   Inhabited p         a file has a contract, and each contract a state
--   Faulty p fault      fault is the one that is first by the rules
--   Keeps p             the file p keeps every rule
--   Kept p set          set is that of the file p, which keeps every rule
--   Judged p r          r is the set of the file p, which keeps every rule; or the fault that is first by the rules
use Rattle.std.specs.Prelude.{◌≡◌, ℕ, ◌<◌, List, length, get_or, Ok, Err, Result, slice_index_or}
use Rattle.words.specs.declared.name.Ident.{Ident}
use Rattle.words.specs.declared.fault.Source.TheVariants.{Contracts}
use Rattle.words.specs.declared.fault.Span.{Span}
use Rattle.grammar.specs.Families.{no_ident}
use Rattle.syntax.specs.Trees.{Parts, no_move}
use Rattle.contracts.specs.declared.broken.Broken.{Broken}
use Rattle.contracts.specs.declared.broken.Broken.TheVariants as b
use Rattle.contracts.specs.declared.declaration.Declaration.{Declaration}
use Rattle.contracts.specs.declared.declaration.Written.{Written}
use Rattle.contracts.specs.declared.fault.RuleFault.{RuleFault}
use Rattle.contracts.specs.declared.fault.RuleFault.TheVariants as f
use Rattle.contracts.specs.declared.set.ContractSet.{ContractSet}
use Rattle.contracts.specs.declared.table.Table.{Table}
use Rattle.contracts.specs.Names.{head_at, no_message, FirstUnresolved}
use Rattle.contracts.specs.Numbers.{Numbers}
use Rattle.contracts.specs.Acceptance.{Accepted, Breaks}
use Rattle.contracts.specs.View.{tables_in}

abbrev pub span_of : Ident → Span
span_of d = record { source = Contracts; place = d.place; len = d.name.len }

abbrev pub move_name : Parts → ℕ → Ident
move_name p i = (get_or p.moves i no_move).step.message

abbrev pub state_name : Parts → ℕ → ℕ → Ident
state_name p k s = slice_index_or (head_at p.heads k).states s no_ident

abbrev pub message_name : Parts → ℕ → ℕ → Ident
message_name p k m = (get_or (head_at p.heads k).messages m no_message).ident

abbrev pub fault_from : Parts → Broken → RuleFault
fault_from p (b.WrongMark i) = f.WrongMark (span_of (move_name p i))
fault_from p (b.SecondMove i) = f.SecondMove (span_of (move_name p i))
fault_from p (b.MixedMarks i) = f.MixedMarks (span_of (move_name p i))
fault_from p (b.Unreachable k s) = f.Unreachable (span_of (state_name p k s))
fault_from p (b.OneWayCycle k s) = f.OneWayCycle (span_of (state_name p k s))
fault_from p (b.SilentEnd k m) = f.SilentEnd (span_of (message_name p k m))

-- the move, state or message that breaks a rule is one of the file
abbrev pub Within : Parts → Broken → Type 0
Within p (b.WrongMark i) = i < length p.moves
Within p (b.SecondMove i) = i < length p.moves
Within p (b.MixedMarks i) = i < length p.moves
Within p (b.Unreachable k s) = (k < length p.heads) × (s < length (head_at p.heads k).states)
Within p (b.OneWayCycle k s) = (k < length p.heads) × (s < length (head_at p.heads k).states)
Within p (b.SilentEnd k m) = (k < length p.heads) × (m < length (head_at p.heads k).messages)

pub record Inhabited (p : Parts) : Type 0 where
  pub some : 0 < length p.heads
  pub stated : (k : ℕ) → k < length p.heads → 0 < length (head_at p.heads k).states

-- the fault that is first by the rules: a name that is not declared, or the first rule from 9 on that is broken
pub data Faulty (p : Parts) (fault : RuleFault) : Type 0 where
  undeclared : (d : Ident) → FirstUnresolved p d → fault ≡ f.Undeclared (span_of d) → Faulty p fault
  broken : (ds : List Declaration) (ws : List Written) (rule : Broken) → Numbers p ds ws → Breaks ds ws rule → fault ≡ fault_from p rule → Faulty p fault

-- the names of the file are declared, and its contracts, by numbers and as tables, keep the rules from 9 on
pub record Keeps (p : Parts) : Type 0 where
  pub declarations : List Declaration
  pub moves : List Written
  pub tables : List Table
  pub numbers : Numbers p declarations moves
  pub accepted : Accepted declarations moves tables

-- the set has the tables of the file, which keeps every rule
pub record Kept (p : Parts) (set : ContractSet) : Type 0 where
  pub declarations : List Declaration
  pub moves : List Written
  pub numbers : Numbers p declarations moves
  pub accepted : Accepted declarations moves (tables_in set)

abbrev pub Judged : Parts → Result ContractSet RuleFault → Type 0
Judged p (Ok set) = Kept p set
Judged p (Err fault) = Faulty p fault
