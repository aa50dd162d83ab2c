-- Contract files as trees, and as the tables of the code.
--   StateTree, ContractTree    a state with its moves; a contract with its messages and states
--   HeadTree                   what a contract declares: its name, its messages, the names of its states
--   Parts                      what the contracts of a file declare, and all moves in the order of the text
--   numbered f i xs            f at each element of xs with its number, from i on, joined
--   parts_of cs                 the parts of the contracts cs
--   parts t                    the parts that a tree of the code holds
--   Ranged p                   numbers are in range: at most 8 contracts, 16 messages and states; moves of declared states
--   Distinct p                 no name stands twice in its family: the contracts, and the messages and the states of each contract
use Rattle.std.specs.Prelude.{ℕ, ◌+◌, ◌<◌, ◌≤◌, List, [], ◌∷◌, ◌++◌, map, length, slice_index_or}
use Rattle.words.specs.declared.name.Ident.{Ident}
use Rattle.syntax.specs.declared.tree.Mark.TheVariants.{Out}
use Rattle.syntax.specs.declared.tree.Message.{Message}
use Rattle.syntax.specs.declared.tree.Move.{Move}
use Rattle.syntax.specs.declared.tree.MoveEntry.{MoveEntry}
use Rattle.syntax.specs.declared.tree.Head.{Head}
use Rattle.syntax.specs.declared.tree.Tree.{Tree}
use Rattle.grammar.specs.Families.{no_ident, Once}
use Rattle.grammar.specs.Rows.{row_items}

pub record StateTree : Type 0 where
  pub ident : Ident
  pub moves : List Move

pub record ContractTree : Type 0 where
  pub ident : Ident
  pub messages : List Message
  pub states : List StateTree

pub record HeadTree : Type 0 where
  pub ident : Ident
  pub messages : List Message
  pub states : List Ident

pub record Parts : Type 0 where
  pub heads : List HeadTree
  pub moves : List MoveEntry

abbrev pub numbered : {X Y : Type 0} → (ℕ → X → List Y) → ℕ → List X → List Y
numbered f i [] = []
numbered f i (x ∷ xs) = f i x ++ numbered f (i + 1) xs

-- the moves of state s of contract k
abbrev pub entries_of : ℕ → ℕ → StateTree → List MoveEntry
entries_of k s x = map (λ v. record { contract = k; state = s; step = v }) x.moves

abbrev pub move_entries : ℕ → ContractTree → List MoveEntry
move_entries k c = numbered (entries_of k) 0 c.states

abbrev pub head_tree : ContractTree → HeadTree
head_tree c = record { ident = c.ident; messages = c.messages; states = map (λ x. x.ident) c.states }

abbrev pub parts_of : List ContractTree → Parts
parts_of cs = record { heads = map head_tree cs; moves = numbered move_entries 0 cs }

abbrev pub declares : Head → HeadTree
declares h = record { ident = h.ident; messages = row_items h.messages; states = row_items h.states }

abbrev pub parts : Tree → Parts
parts t = record { heads = map declares (row_items t.heads); moves = row_items t.moves }

-- what stands past the last contract or move
abbrev pub no_head : HeadTree
no_head = record { ident = no_ident; messages = []; states = [] }

abbrev pub no_move : MoveEntry
no_move = record { contract = 0; state = 0; step = record { message = no_ident; mark = Out; target = no_ident } }

pub record Ranged (p : Parts) : Type 0 where
  pub contracts : length p.heads ≤ 8
  pub messages : (k : ℕ) → length (slice_index_or p.heads k no_head).messages ≤ 16
  pub states : (k : ℕ) → length (slice_index_or p.heads k no_head).states ≤ 16
  pub owners : (i : ℕ) → i < length p.moves
      → ((slice_index_or p.moves i no_move).contract < length p.heads)
      × ((slice_index_or p.moves i no_move).state < length (slice_index_or p.heads (slice_index_or p.moves i no_move).contract no_head).states)

pub record Distinct (p : Parts) : Type 0 where
  pub contracts : Once (map (λ h. h.ident) p.heads)
  pub messages : (k : ℕ) → Once (map (λ x. x.ident) (slice_index_or p.heads k no_head).messages)
  pub states : (k : ℕ) → Once (slice_index_or p.heads k no_head).states
