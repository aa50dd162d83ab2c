-- What a grammar as a table has to keep, so that reading by the table is right: how far a text has been read, with the words
-- that led there, and where each word leads on.
--   level o            the number that a table gives a word
--   Says c x ws        what a check says of the word x after the words ws
--   Onto N x q         a step by the word x from N to q
--   Wordy x            the end is no word
--   Steps N x t        a turn by the word x leads on from N, or ends at a file
--   Tabled             the table keeps to the grammar
use Rattle.std.proofs.Common.{◌≡◌, ℕ, ◌≤◌, List, [], ◌∷◌, ◌++◌, Some, None, Option}
use Rattle.words.specs.Signs.{Sign}
use Rattle.words.specs.Signs as s
use Rattle.grammar.specs.Laws.{Limit, range, room, once, limit_number, Viable}
use Rattle.grammar.specs.Table.{Check, fine, too_many, repeated, out_of_range, crowded, Turn, go, new, accept, Alt, among}
use Rattle.grammar.proofs.Tables.{Edges, walk}

abbrev pub check_level : Check → ℕ
check_level fine = 0
check_level (too_many n) = 6
check_level (repeated n) = 7
check_level (out_of_range n) = 5
check_level crowded = 6

abbrev pub level : {Q R : Type 0} → Option (Turn Q R) → ℕ
level None = 4
level (Some (go q)) = 0
level (Some (new q c)) = check_level c
level (Some (accept x)) = 0

abbrev pub Wordy : Sign → Type 0
Wordy (s.Key x) = Unit {0}
Wordy (s.Mark x) = Unit {0}
Wordy (s.Name n) = Unit {0}
Wordy (s.Number n) = Unit {0}
Wordy s.End = ⊥

abbrev pub Says : (Limit → List Sign → Sign → Type 0) → Check → Sign → List Sign → Type 0
Says Held fine x ws = Unit {0}
Says Held (too_many n) x ws = (x ≡ s.Name n) × Held room ws x
Says Held (repeated n) x ws = (x ≡ s.Name n) × Held once ws x
Says Held (out_of_range n) x ws = (x ≡ s.Number n) × Held range ws x
Says Held crowded x ws = Held room ws x

module _ {Q T : Type 0} (at : T → Q) (spelled : T → List Sign) where
  pub record Onto (N : T) (x : Sign) (q : Q) : Type 0 where
    pub to : T
    pub stands : at to ≡ q
    pub adds : spelled to ≡ spelled N ++ x ∷ []

module _ {Q R F T : Type 0} (Spells : List Sign → F → Type 0) (Held : Limit → List Sign → Sign → Type 0) (result : F → R) (at : T → Q) (spelled : T → List Sign) where
  abbrev pub Steps : T → Sign → Turn Q R → Type 0
  Steps N x (go q) = Onto at spelled N x q × Wordy x
  Steps N x (new q c) = Onto at spelled N x q × Wordy x × Says Held c x (spelled N)
  Steps N x (accept p) = (x ≡ s.End) × (f : F) × Spells (spelled N) f × (p ≡ result f)

  pub record Tabled (ask : Q → List (Alt Q R)) : Type 0 where
    pub origin : T
    pub none : spelled origin ≡ []
    pub edges : (N : T) → Edges (ask (at N)) (Steps N)
    pub fill : (N : T) → Viable Spells (spelled N)
    pub last : F → Q
    pub whole : (ws : List Sign) (f : F) → Spells ws f → walk ask (at origin) ws ≡ Some (last f)
    pub ends : (f : F) → among (ask (last f)) s.End ≡ Some (accept (result f))
    pub held : (ws : List Sign) (a : Q) (x : Sign) (l : Limit) → walk ask (at origin) ws ≡ Some a → Held l ws x
        → (5 ≤ level (among (ask a) x)) × (level (among (ask a) x) ≤ limit_number l)
