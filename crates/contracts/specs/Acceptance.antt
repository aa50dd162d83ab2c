-- What an accepted set of contracts is, and why what is written makes none.
--   tables_of contracts      the tables of contracts
--   Each keeps tables       each table keeps a rule
--   Earliest keeps breaks tables k i   contract k is the first that breaks a rule, and i the first number at which it does
--   Tabled ds ws tables     the tables are those of what is written
--   Marked ds ws            the moves keep rules 9 to 11
--   Gathered tables         the tables keep rules 12 to 14
--   Accepted ds ws tables   what is written keeps every rule, and these are its tables
--   BreaksTable tables b    b is the first of rules 12 to 14 that the tables break, each tried over all contracts before the next
--   Breaks ds ws b          b is the first rule that is broken, at the first move, state or message in the order of the text
use Rattle.std.specs.Prelude.{◌≡◌, ℕ, ◌<◌, List, map, length}
use Rattle.contracts.specs.declared.broken.Broken.{Broken}
use Rattle.contracts.specs.declared.broken.Broken.TheVariants as b
use Rattle.contracts.specs.declared.contract.Contract.{Contract}
use Rattle.contracts.specs.declared.declaration.Declaration.{Declaration}
use Rattle.contracts.specs.declared.declaration.Written.{Written}
use Rattle.contracts.specs.declared.table.Table.{Table}
use Rattle.contracts.specs.Rules.{First, Never, Reachable, Synchronising, Unreached, Cycling}
use Rattle.contracts.specs.Tables.{table_at}
use Rattle.contracts.specs.Transfers.{Lawful, SilentEnd}
use Rattle.contracts.specs.Written.{Holds, MixedMarks, SecondMove, WrongMark}

abbrev pub tables_of : List Contract → List Table
tables_of contracts = map (λ c. c.table) contracts

abbrev pub Each : (Table → Type 0) → List Table → Type 0
Each keeps tables = (k : ℕ) → k < length tables → keeps (table_at tables k)

abbrev pub Earliest : (Table → Type 0) → (Table → ℕ → Type 0) → List Table → ℕ → ℕ → Type 0
Earliest keeps breaks tables k i =
    (k < length tables) × First (breaks (table_at tables k)) i × ((j : ℕ) → j < k → keeps (table_at tables j))

pub record Tabled (ds : List Declaration) (ws : List Written) (tables : List Table) : Type 0 where
  pub count : length tables ≡ length ds
  pub each : (k : ℕ) → k < length tables → Holds (table_at tables k) ds ws k

pub record Marked (ds : List Declaration) (ws : List Written) : Type 0 where
  pub right_marks : Never (WrongMark ds ws)
  pub deterministic : Never (SecondMove ws)
  pub positional : Never (MixedMarks ws)

pub record Gathered (tables : List Table) : Type 0 where
  pub reachable : Each Reachable tables
  pub synchronising : Each Synchronising tables
  pub lawful : Each (Lawful tables) tables

pub record Accepted (ds : List Declaration) (ws : List Written) (tables : List Table) : Type 0 where
  pub marked : Marked ds ws
  pub tabled : Tabled ds ws tables
  pub gathered : Gathered tables

abbrev pub BreaksTable : List Table → Broken → Type 0
BreaksTable tables (b.Unreachable k s) = Earliest Reachable Unreached tables k s
BreaksTable tables (b.OneWayCycle k s) = Each Reachable tables × Earliest Synchronising Cycling tables k s
BreaksTable tables (b.SilentEnd k m) =
    Each Reachable tables × Each Synchronising tables × Earliest (Lawful tables) (SilentEnd tables) tables k m
BreaksTable tables (b.WrongMark i) = ⊥
BreaksTable tables (b.SecondMove i) = ⊥
BreaksTable tables (b.MixedMarks i) = ⊥

abbrev pub Breaks : List Declaration → List Written → Broken → Type 0
Breaks ds ws (b.WrongMark i) = First (WrongMark ds ws) i
Breaks ds ws (b.SecondMove i) = Never (WrongMark ds ws) × First (SecondMove ws) i
Breaks ds ws (b.MixedMarks i) = Never (WrongMark ds ws) × Never (SecondMove ws) × First (MixedMarks ws) i
Breaks ds ws (b.Unreachable k s) =
    Marked ds ws × ((tables : List Table) × Tabled ds ws tables × BreaksTable tables (b.Unreachable k s))
Breaks ds ws (b.OneWayCycle k s) =
    Marked ds ws × ((tables : List Table) × Tabled ds ws tables × BreaksTable tables (b.OneWayCycle k s))
Breaks ds ws (b.SilentEnd k m) =
    Marked ds ws × ((tables : List Table) × Tabled ds ws tables × BreaksTable tables (b.SilentEnd k m))
