-- Moves as they are written, those of all contracts in the order of the text.
--   SameState v w         the moves v and w are of one state
--   WrongMark ds ws i     move i has another mark than its message
--   SecondMove ws i       move i is for the same state and message as an earlier one
--   MixedMarks ws i       move i has another mark than its state's first move
--   Proper ds w           the numbers of the move w are declared
--   Resolved ds ws        1 to 8 contracts, each of at most 16 messages and 1 to 16 states, and moves with declared numbers
--   Listed ws n c s m u   one of the first n moves leads in contract c from s by m to u
--   Holds t ds ws c       t is the table of contract c: what it declares, and just its moves
use Rattle.std.specs.Prelude.{◌≡◌, ℕ, ◌<◌, ◌≤◌, List, length, ◌≢◌, slice_index_or}
use Rattle.contracts.specs.declared.declaration.Declaration.{Declaration}
use Rattle.contracts.specs.declared.declaration.Written.{Written}
use Rattle.contracts.specs.declared.table.Table.{Table}
use Rattle.contracts.specs.Moves.{Goes}
use Rattle.contracts.specs.Numbers.{declaration_at, messages_in, quiet, states_in, written_at}

abbrev pub SameState : Written → Written → Type 0
SameState v w = (v.contract ≡ w.contract) × (v.state ≡ w.state)

abbrev pub WrongMark : List Declaration → List Written → ℕ → Type 0
WrongMark ds ws i =
    (i < length ws)
    × ((written_at ws i).mark ≢ (slice_index_or (messages_in (declaration_at ds (written_at ws i).contract)) (written_at ws i).message quiet).mark)

abbrev pub SecondMove : List Written → ℕ → Type 0
SecondMove ws i =
    (i < length ws)
    × ((j : ℕ) × (j < i) × SameState (written_at ws j) (written_at ws i) × ((written_at ws j).message ≡ (written_at ws i).message))

abbrev pub MixedMarks : List Written → ℕ → Type 0
MixedMarks ws i =
    (i < length ws) × ((j : ℕ) × (j < i) × SameState (written_at ws j) (written_at ws i)
    × ((k : ℕ) → k < j → SameState (written_at ws k) (written_at ws i) → ⊥)
    × ((written_at ws j).mark ≢ (written_at ws i).mark))

abbrev pub Proper : List Declaration → Written → Type 0
Proper ds w =
    (w.contract < length ds) × (w.state < length (states_in (declaration_at ds w.contract)))
    × (w.message < length (messages_in (declaration_at ds w.contract))) × (w.target < length (states_in (declaration_at ds w.contract)))

pub record Resolved (ds : List Declaration) (ws : List Written) : Type 0 where
  pub some : 0 < length ds
  pub few : length ds ≤ 8
  pub few_messages : (k : ℕ) → k < length ds → length (messages_in (declaration_at ds k)) ≤ 16
  pub some_states : (k : ℕ) → k < length ds → 0 < length (states_in (declaration_at ds k))
  pub few_states : (k : ℕ) → k < length ds → length (states_in (declaration_at ds k)) ≤ 16
  pub proper : (i : ℕ) → i < length ws → Proper ds (written_at ws i)

abbrev pub Listed : List Written → ℕ → ℕ → ℕ → ℕ → ℕ → Type 0
Listed ws n c s m u =
    (i : ℕ) × (i < n) × ((written_at ws i).contract ≡ c) × ((written_at ws i).state ≡ s) × ((written_at ws i).message ≡ m) × ((written_at ws i).target ≡ u)

pub record Holds (t : Table) (ds : List Declaration) (ws : List Written) (c : ℕ) : Type 0 where
  pub declaration : t.declaration ≡ declaration_at ds c
  pub listed : (s m u : ℕ) → Goes t.moves s m u → Listed ws (length ws) c s m u
  pub goes : (s m u : ℕ) → Listed ws (length ws) c s m u → Goes t.moves s m u
