-- The names of a script file, looked up in a contract set, whose tables are a list ts.
--   span_of d                  where a name of a script file stands
--   ContractNamed ts n k      contract k has the name n
--   MessageNamed ts k n m     message m of contract k has the name n
--   ContractOf ts d k         contract k is the first with the name d
--   MessageOf ts k d m        message m is the first of contract k with the name d
--   PairOf ts c m k n         contract k is that of the name c, and n its message of the name m
--   NoContract ts d s         s is where d stands, and no contract has this name
--   NoMessage ts k d s        s is where d stands, and no message of contract k has this name
--   NoPair ts c m s           s is where c or m stands: c, where it is no contract's name, else m, where it is no name of that contract's messages
--   Resolves ts x y           y is the statement x with numbers in place of names
--   Undeclared ts x s         s is where a name of the statement x stands that is not declared in its family, its contract's name before its message's
--   ResolvedAs ts x r         r is the statement x with numbers in place of names, or where its first name stands that is not declared
use Rattle.std.specs.Prelude.{◌≡◌, ℕ, ◌⊎◌, List, length, Result, MatchResult}
use Rattle.words.specs.declared.fault.Source.TheVariants.{Scripts}
use Rattle.words.specs.declared.fault.Span.{Span}
use Rattle.words.specs.declared.name.Ident.{Ident}
use Rattle.words.specs.declared.name.Name.{Name}
use Rattle.contracts.specs.declared.table.Table.{Table}
use Rattle.contracts.specs.Rules.{First, Never}
use Rattle.contracts.specs.Tables.{message_at, messages, table_at}
use Rattle.contracts.specs.View.{Named}
use Rattle.script_syntax.specs.declared.tree.Statement.{Statement}
use Rattle.script_syntax.specs.declared.tree.Statement.TheVariants as s
use Rattle.scripts.specs.declared.instruction.Instruction.{Instruction}
use Rattle.scripts.specs.declared.instruction.Instruction.TheVariants.{End, New, Put, Free, Open, Close, Send, Pass, Receive, Case, Lost, Jump}

abbrev pub span_of : Ident → Span
span_of d = record { source = Scripts; place = d.place; len = d.name.len }

abbrev pub ContractNamed : List Table → Name → ℕ → Type 0
ContractNamed ts n = Named (length ts) (λ k. (table_at ts k).declaration.name) n

abbrev pub MessageNamed : List Table → ℕ → Name → ℕ → Type 0
MessageNamed ts k n = Named (messages (table_at ts k)) (λ m. (message_at (table_at ts k) m).name) n

abbrev pub ContractOf : List Table → Ident → ℕ → Type 0
ContractOf ts d = First (ContractNamed ts d.name)

abbrev pub MessageOf : List Table → ℕ → Ident → ℕ → Type 0
MessageOf ts k d = First (MessageNamed ts k d.name)

abbrev pub PairOf : List Table → Ident → Ident → ℕ → ℕ → Type 0
PairOf ts c m k n = ContractOf ts c k × MessageOf ts k m n

abbrev pub NoContract : List Table → Ident → Span → Type 0
NoContract ts d s = (s ≡ span_of d) × Never (ContractNamed ts d.name)

abbrev pub NoMessage : List Table → ℕ → Ident → Span → Type 0
NoMessage ts k d s = (s ≡ span_of d) × Never (MessageNamed ts k d.name)

abbrev pub NoPair : List Table → Ident → Ident → Span → Type 0
NoPair ts c m s = NoContract ts c s ⊎ ((k : ℕ) × ContractOf ts c k × NoMessage ts k m s)

abbrev pub Resolves : List Table → Statement → Instruction → Type 0
Resolves ts s.End y = y ≡ End
Resolves ts (s.New r) y = y ≡ New r
Resolves ts (s.Put r k b) y = y ≡ Put r k b
Resolves ts (s.Free r) y = y ≡ Free r
Resolves ts (s.Open c r t) y = (k : ℕ) × (y ≡ Open k r t) × ContractOf ts c k
Resolves ts (s.Close r) y = y ≡ Close r
Resolves ts (s.Send e c m) y = (k : ℕ) × (n : ℕ) × (y ≡ Send e k n) × PairOf ts c m k n
Resolves ts (s.Pass e c m t) y = (k : ℕ) × (n : ℕ) × (y ≡ Pass e k n t) × PairOf ts c m k n
Resolves ts (s.Receive e t) y = y ≡ Receive e t
Resolves ts (s.Case c m d) y = (k : ℕ) × (n : ℕ) × (y ≡ Case k n d.value) × PairOf ts c m k n
Resolves ts (s.Lost d) y = y ≡ Lost d.value
Resolves ts (s.Jump d) y = y ≡ Jump d.value

abbrev pub Undeclared : List Table → Statement → Span → Type 0
Undeclared ts s.End sp = ⊥
Undeclared ts (s.New r) sp = ⊥
Undeclared ts (s.Put r k b) sp = ⊥
Undeclared ts (s.Free r) sp = ⊥
Undeclared ts (s.Open c r t) sp = NoContract ts c sp
Undeclared ts (s.Close r) sp = ⊥
Undeclared ts (s.Send e c m) sp = NoPair ts c m sp
Undeclared ts (s.Pass e c m t) sp = NoPair ts c m sp
Undeclared ts (s.Receive e t) sp = ⊥
Undeclared ts (s.Case c m d) sp = NoPair ts c m sp
Undeclared ts (s.Lost d) sp = ⊥
Undeclared ts (s.Jump d) sp = ⊥

abbrev pub ResolvedAs : List Table → Statement → Result Instruction Span → Type 0
ResolvedAs ts x r = MatchResult r (Resolves ts x) (Undeclared ts x)
