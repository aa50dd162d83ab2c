-- What messages carry, and the statements that send them.
--   Bare p                    p is no payload
--   Laden p                   p is a payload
--   Carrying P ts c m         the message of the name m, of the contract of the name c, carries what P says
--   WrongPayload ts x s       s is where the message's name stands of a `send` whose message carries a payload, or of a `pass` whose message carries none
use Rattle.std.specs.Prelude.{◌≡◌, ℕ, List}
use Rattle.words.specs.declared.fault.Span.{Span}
use Rattle.words.specs.declared.name.Ident.{Ident}
use Rattle.contracts.specs.declared.declaration.Payload.{Payload}
use Rattle.contracts.specs.declared.declaration.Payload.TheVariants as p
use Rattle.contracts.specs.declared.table.Table.{Table}
use Rattle.contracts.specs.Tables.{payload_of, table_at}
use Rattle.script_syntax.specs.declared.tree.Statement.{Statement}
use Rattle.script_syntax.specs.declared.tree.Statement.TheVariants.{End, New, Put, Free, Open, Close, Send, Pass, Receive, Case, Lost, Jump}
use Rattle.scripts.specs.Names.{PairOf, span_of}

abbrev pub Bare : Payload → Type 0
Bare p.Nothing = Unit {0}
Bare p.Block = ⊥
Bare (p.End role c s) = ⊥

abbrev pub Laden : Payload → Type 0
Laden p.Nothing = ⊥
Laden p.Block = Unit {0}
Laden (p.End role c s) = Unit {0}

abbrev pub Carrying : (Payload → Type 0) → List Table → Ident → Ident → Type 0
Carrying P ts c m = (k : ℕ) × (n : ℕ) × PairOf ts c m k n × P (payload_of (table_at ts k) n)

abbrev pub WrongPayload : List Table → Statement → Span → Type 0
WrongPayload ts End sp = ⊥
WrongPayload ts (New r) sp = ⊥
WrongPayload ts (Put r k b) sp = ⊥
WrongPayload ts (Free r) sp = ⊥
WrongPayload ts (Open c r t) sp = ⊥
WrongPayload ts (Close r) sp = ⊥
WrongPayload ts (Send e c m) sp = (sp ≡ span_of m) × Carrying Laden ts c m
WrongPayload ts (Pass e c m t) sp = (sp ≡ span_of m) × Carrying Bare ts c m
WrongPayload ts (Receive e t) sp = ⊥
WrongPayload ts (Case c m d) sp = ⊥
WrongPayload ts (Lost d) sp = ⊥
WrongPayload ts (Jump d) sp = ⊥
