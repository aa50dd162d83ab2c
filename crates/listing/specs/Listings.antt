-- The listing of an accepted set.
--   table_of c              the table of a contract of a set
--   lines f n               f 0 to f (n - 1), one after the other
--   way_text d, sign_text d, role_text r     "out" or "in", "!" or "?", "exp" or "imp"
--   message_line x           " message WAY NAME [block | ROLE C S]"
--   move_line m d u          "  move M! T"
--   state_lines x f          " state NAME" with the name x, and below it the lines of f
--   move_text t s m, state_text t s, message_text t m     the move of a state for a message, if any; a state with its moves; a message
--   contract_text t b c      a contract with the bounds b and c
--   ListsContract ts k s    s lists contract k, with the moves on its longest one-way paths as its bounds
--   Lists ts n s            s lists the first n contracts of ts, one after the other
use Rattle.std.specs.Prelude.{◌≡◌, ℕ, zero, suc, ◌+◌, cond, List, [], ◌++◌, map, take, Some, None, codes, decimal, Option, nat_lt}
use Rattle.words.specs.declared.name.Name.{Name}
use Rattle.syntax.specs.declared.tree.Mark.{Mark}
use Rattle.syntax.specs.declared.tree.Mark.TheVariants.{Out, In}
use Rattle.syntax.specs.declared.tree.Role.{Role}
use Rattle.syntax.specs.declared.tree.Role.TheVariants.{Exporting, Importing}
use Rattle.contracts.specs.declared.declaration.Payload.{Payload}
use Rattle.contracts.specs.declared.declaration.Payload.TheVariants.{Nothing, Block, End}
use Rattle.contracts.specs.declared.declaration.Message.{Message}
use Rattle.contracts.specs.declared.table.Table.{Table}
use Rattle.contracts.specs.Paths.{Longest}
use Rattle.contracts.specs.Rules.{OneWay}
use Rattle.contracts.specs.Tables.{message_at, messages, state_at, states, table_at}
use Rattle.contracts.specs.View.{tables_in, target_at}
use Rattle.listing.specs.declared.accepted.Contract.{Contract}
use Rattle.listing.specs.Lines.{shown_byte}

abbrev pub table_of : Contract → Table
table_of c = table_at (tables_in c.set.now) c.number

unfoldable pub lines : (ℕ → List ℕ) → ℕ → List ℕ
lines f zero = []
lines f (suc n) = lines f n ++ f n

abbrev pub name_text : Name → List ℕ
name_text x = map shown_byte (take x.len x.bytes)

abbrev pub way_text : Mark → List ℕ
way_text Out = codes "out"
way_text In = codes "in"

abbrev pub sign_text : Mark → List ℕ
sign_text Out = codes "!"
sign_text In = codes "?"

abbrev pub role_text : Role → List ℕ
role_text Exporting = codes "exp"
role_text Importing = codes "imp"

abbrev pub payload_text : Payload → List ℕ
payload_text Nothing = []
payload_text Block = codes " block"
payload_text (End role c s) = codes " " ++ (role_text role ++ (codes " " ++ (decimal c ++ (codes " " ++ decimal s))))

abbrev pub message_line : Message → List ℕ
message_line x = codes " message " ++ (way_text x.mark ++ (codes " " ++ (name_text x.name ++ (payload_text x.payload ++ codes "\n"))))

abbrev pub move_line : ℕ → Mark → Option ℕ → List ℕ
move_line m d None = []
move_line m d (Some u) = codes "  move " ++ (decimal m ++ (sign_text d ++ (codes " " ++ (decimal u ++ codes "\n"))))

-- a message, a move or a state past the last has no line
abbrev pub message_text : Table → ℕ → List ℕ
message_text t m = cond (nat_lt m (messages t)) (message_line (message_at t m)) []

abbrev pub move_text : Table → ℕ → ℕ → List ℕ
move_text t s m = cond (nat_lt m (messages t)) (move_line m (message_at t m).mark (target_at t s m)) []

abbrev pub state_lines : Name → (ℕ → List ℕ) → List ℕ
state_lines x f = codes " state " ++ (name_text x ++ (codes "\n" ++ lines f 16))

abbrev pub state_text : Table → ℕ → List ℕ
state_text t s = cond (nat_lt s (states t)) (state_lines (state_at t s) (move_text t s)) []

abbrev pub contract_text : Table → ℕ → ℕ → List ℕ
contract_text t b c =
    codes "contract " ++ (name_text t.declaration.name ++ (codes " out " ++ (decimal b ++ (codes " in " ++ (decimal c ++ (codes "\n"
    ++ (lines (message_text t) 16 ++ lines (state_text t) 16)))))))

pub record ListsContract (ts : List Table) (k : ℕ) (s : List ℕ) : Type 0 where
  pub out_bound : ℕ
  pub in_bound : ℕ
  pub longest_out : Longest (OneWay (table_at ts k) Out) out_bound
  pub longest_in : Longest (OneWay (table_at ts k) In) in_bound
  pub says : s ≡ contract_text (table_at ts k) out_bound in_bound

pub data Lists (ts : List Table) : ℕ → List ℕ → Type 0 where
  nothing : Lists ts 0 []
  more : (k : ℕ) (s x : List ℕ) → Lists ts k s → ListsContract ts k x → Lists ts (k + 1) (s ++ x)
