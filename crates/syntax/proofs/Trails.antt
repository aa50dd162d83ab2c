-- How far a file has been read, with the trees of what was read. Each word that may stand next leads on from trees to trees.
use Rattle.std.proofs.Common.{◌≡◌, ℕ, suc, ◌+◌, ◌-◌, List, [], ◌∷◌, ◌++◌, map, length, sym, refl, ap, ◌∙◌, append_assoc, append-nil, zero-add, arith}
use lib.ListN.{length-map}
use Rattle.std.proofs.lemmas.List.{map_push, length_push}
use Rattle.words.specs.declared.name.Ident.{Ident}
use Rattle.words.specs.declared.word.Keyword.TheVariants as k
use Rattle.words.specs.declared.word.Mark.TheVariants as m
use Rattle.words.specs.Signs.{Sign}
use Rattle.words.specs.Signs as s
use Rattle.grammar.specs.Spelling.{each}
use Rattle.syntax.specs.declared.tree.Mark.{Mark}
use Rattle.syntax.specs.declared.tree.Role.{Role}
use Rattle.syntax.specs.declared.tree.Message.{Message}
use Rattle.syntax.specs.declared.tree.Move.{Move}
use Rattle.syntax.specs.declared.tree.MoveEntry.{MoveEntry}
use Rattle.syntax.specs.Trees.{StateTree, ContractTree, HeadTree, Parts, numbered, entries_of, move_entries, head_tree, parts_of}
use Rattle.syntax.specs.Grammar.{way_word, role_word, mark_word, payload_words, move_words, state_words, file_words, Stated}
use Rattle.syntax.specs.Laws.{head_words}
use Rattle.syntax.specs.Machine.{At, Progress, begun, add_message, add_state, add_move, ended}
use Rattle.syntax.specs.Machine as q

-- the contracts before, and a contract's name and messages
pub record Opened : Type 0 where
  pub before : List ContractTree
  pub stated : Stated before
  pub ident : Ident
  pub messages : List Message

pub data Trail : Type 0 where
  start : Trail
  heading : (cs : List ContractTree) → Stated cs → Trail
  opening : (cs : List ContractTree) → Stated cs → Ident → Trail
  messages : Opened → Trail
  message : Opened → Mark → Trail
  called : Opened → Mark → Ident → Trail
  carrying : Opened → Mark → Ident → Role → Trail
  stating : Opened → Mark → Ident → Role → Ident → Trail
  closing : Opened → Message → Trail
  state : Opened → List StateTree → Trail
  entering : Opened → List StateTree → Ident → Trail
  moves : Opened → List StateTree → StateTree → Trail
  move : Opened → List StateTree → StateTree → Ident → Trail
  marked : Opened → List StateTree → StateTree → Ident → Mark → Trail
  aiming : Opened → List StateTree → StateTree → Ident → Mark → Trail
  aimed : Opened → List StateTree → StateTree → Move → Trail
  states : Opened → (ss : List StateTree) → (ss ≡ [] → ⊥) → Trail
  more : (cs : List ContractTree) → Stated cs → (cs ≡ [] → ⊥) → Trail

-- the words that led here
abbrev pub opened : Opened → List Sign → List Sign
opened h xs = file_words h.before ++ (head_words h.ident h.messages ++ xs)

abbrev pub in_state : Opened → List StateTree → StateTree → List Sign → List Sign
in_state h ss x xs =
    opened h (each state_words ss ++ s.Key k.State ∷ s.Name x.ident ∷ s.Mark m.OpenBrace ∷ (each move_words x.moves ++ xs))

abbrev pub spelled : Trail → List Sign
spelled start = []
spelled (heading cs st) = file_words cs ++ s.Key k.Contract ∷ []
spelled (opening cs st n) = file_words cs ++ s.Key k.Contract ∷ s.Name n ∷ []
spelled (messages h) = opened h []
spelled (message h way) = opened h (way_word way ∷ [])
spelled (called h way n) = opened h (way_word way ∷ s.Name n ∷ [])
spelled (carrying h way n role) = opened h (way_word way ∷ s.Name n ∷ role_word role ∷ [])
spelled (stating h way n role c) = opened h (way_word way ∷ s.Name n ∷ role_word role ∷ s.Name c ∷ [])
spelled (closing h x) = opened h (way_word x.mark ∷ s.Name x.ident ∷ payload_words x.payload)
spelled (state h ss) = opened h (each state_words ss ++ s.Key k.State ∷ [])
spelled (entering h ss n) = opened h (each state_words ss ++ s.Key k.State ∷ s.Name n ∷ [])
spelled (moves h ss x) = in_state h ss x []
spelled (move h ss x n) = in_state h ss x (s.Name n ∷ [])
spelled (marked h ss x n way) = in_state h ss x (s.Name n ∷ mark_word way ∷ [])
spelled (aiming h ss x n way) = in_state h ss x (s.Name n ∷ mark_word way ∷ s.Mark m.Arrow ∷ [])
spelled (aimed h ss x v) = in_state h ss x (s.Name v.message ∷ mark_word v.mark ∷ s.Mark m.Arrow ∷ s.Name v.target ∷ [])
spelled (states h ss e) = opened h (each state_words ss)
spelled (more cs st e) = file_words cs

-- what the tables hold
abbrev pub progress : Opened → List StateTree → Progress
progress h ss = record {
  heads = map head_tree h.before;
  moves = numbered move_entries 0 h.before ++ numbered (entries_of (length h.before)) 0 ss;
  ident = h.ident;
  messages = h.messages;
  states = map (λ x. x.ident) ss;
}

abbrev pub state_of : Ident → List Move → StateTree
state_of n vs = record { ident = n; moves = vs }

abbrev pub with_move : StateTree → Move → StateTree
with_move x v = record { ident = x.ident; moves = x.moves ++ v ∷ [] }

abbrev pub with_message : Opened → Message → Opened
with_message h x = record { before = h.before; stated = h.stated; ident = h.ident; messages = h.messages ++ x ∷ [] }

abbrev pub contract_of : Opened → List StateTree → ContractTree
contract_of h ss = record { ident = h.ident; messages = h.messages; states = ss }

abbrev pub at : Trail → At
at start = q.start (parts_of [])
at (heading cs st) = q.heading (parts_of cs)
at (opening cs st n) = q.opening (parts_of cs) n
at (messages h) = q.messages (progress h [])
at (message h way) = q.message (progress h []) way
at (called h way n) = q.called (progress h []) way n
at (carrying h way n role) = q.carrying (progress h []) way n role
at (stating h way n role c) = q.stating (progress h []) way n role c
at (closing h x) = q.closing (progress h []) x
at (state h ss) = q.state (progress h ss)
at (entering h ss n) = q.entering (progress h (ss ++ state_of n [] ∷ []))
at (moves h ss x) = q.moves (progress h (ss ++ x ∷ []))
at (move h ss x n) = q.move (progress h (ss ++ x ∷ [])) n
at (marked h ss x n way) = q.marked (progress h (ss ++ x ∷ [])) n way
at (aiming h ss x n way) = q.aiming (progress h (ss ++ x ∷ [])) n way
at (aimed h ss x v) = q.aimed (progress h (ss ++ x ∷ [])) v
at (states h ss e) = q.states (progress h ss)
at (more cs st e) = q.more (parts_of cs)

pub numbered-push : {X Y : Type 0} (f : ℕ → X → List Y) (i : ℕ) (xs : List X) (x : X) → numbered f i (xs ++ x ∷ []) ≡ numbered f i xs ++ f (i + length xs) x
numbered-push f i [] x = let e : i + 0 ≡ i = omega arith in rw e (append-nil (f i x))
numbered-push f i (y ∷ xs) x =
    let e : (i + 1) + length xs ≡ i + suc (length xs) = omega arith in
    ap (λ l. f i y ++ l) (numbered-push f (i + 1) xs x) ∙ ap (λ j. f i y ++ (numbered f (i + 1) xs ++ f j x)) e
    ∙ sym (append_assoc (f i y) (numbered f (i + 1) xs) (f (i + suc (length xs)) x))

-- one entry more
module _ (h : Opened) where
  entries : (ss : List StateTree) (x : StateTree) → numbered (entries_of (length h.before)) 0 (ss ++ x ∷ []) ≡ numbered (entries_of (length h.before)) 0 ss ++ entries_of (length h.before) (length ss) x
  entries ss x = numbered-push (entries_of (length h.before)) 0 ss x ∙ ap (λ i. numbered (entries_of (length h.before)) 0 ss ++ entries_of (length h.before) i x) (zero-add (length ss))

  same-progress : (vs us : List MoveEntry) (ns os : List Ident) → vs ≡ us → ns ≡ os
      → ◌≡◌ {A = Progress} (record { heads = map head_tree h.before; moves = vs; ident = h.ident; messages = h.messages; states = ns })
      (record { heads = map head_tree h.before; moves = us; ident = h.ident; messages = h.messages; states = os })
  same-progress vs us ns os p r = cc

  pub add_state_lem : (ss : List StateTree) (n : Ident) → add_state (progress h ss) n ≡ progress h (ss ++ state_of n [] ∷ [])
  add_state_lem ss n =
      same-progress _ _ _ _
      (ap (λ l. numbered move_entries 0 h.before ++ l) (sym (entries ss (state_of n []) ∙ append-nil (numbered (entries_of (length h.before)) 0 ss))))
      (sym (map_push (λ x. x.ident) ss (state_of n [])))

  entry : (ss : List StateTree) (x : StateTree) (v : Move)
      → ◌≡◌ {A = MoveEntry} (record { contract = length (map head_tree h.before); state = length (map (λ y. y.ident) (ss ++ x ∷ [])) - 1; step = v })
      (record { contract = length h.before; state = length ss; step = v })
  entry ss x v =
      let a : length (map head_tree h.before) ≡ length h.before = length-map h.before head_tree in
      let b : length (map (λ y. y.ident) (ss ++ x ∷ [])) ≡ length (ss ++ x ∷ []) = length-map (ss ++ x ∷ []) (λ y. y.ident) in
      let c : length (map (λ y. y.ident) (ss ++ x ∷ [])) - 1 ≡ length ss = omega (arith, b, length_push ss x) in
      cc

  pub add_move_lem : (ss : List StateTree) (x : StateTree) (v : Move) → add_move (progress h (ss ++ x ∷ [])) v ≡ progress h (ss ++ with_move x v ∷ [])
  add_move_lem ss x v =
      let K = numbered move_entries 0 h.before in
      let E = numbered (entries_of (length h.before)) 0 ss in
      let F : Move → MoveEntry = λ u. record { contract = length h.before; state = length ss; step = u } in
      same-progress _ _ _ _
      (ap (λ l. (K ++ l) ++ record { contract = length (map head_tree h.before); state = length (map (λ y. y.ident) (ss ++ x ∷ [])) - 1; step = v } ∷ []) (entries ss x)
      ∙ ap (λ e. (K ++ (E ++ map F x.moves)) ++ e ∷ []) (entry ss x v)
      ∙ append_assoc K (E ++ map F x.moves) (F v ∷ [])
      ∙ ap (λ l. K ++ l) (append_assoc E (map F x.moves) (F v ∷ []) ∙ ap (λ l. E ++ l) (sym (map_push F x.moves v)) ∙ sym (entries ss (with_move x v))))
      (map_push (λ y. y.ident) ss x ∙ sym (map_push (λ y. y.ident) ss (with_move x v)))

  pub end-contract : (ss : List StateTree) → ended (progress h ss) ≡ parts_of (h.before ++ contract_of h ss ∷ [])
  end-contract ss =
      same_parts (sym (map_push head_tree h.before (contract_of h ss)))
      (ap (λ i. numbered move_entries 0 h.before ++ numbered (entries_of i) 0 ss) (sym (zero-add (length h.before))) ∙ sym (numbered-push move_entries 0 h.before (contract_of h ss)))
    where
      same_parts : {a b : List HeadTree} {c d : List MoveEntry} → a ≡ b → c ≡ d → ◌≡◌ {A = Parts} (record { heads = a; moves = c }) (record { heads = b; moves = d })
      same_parts e f = cc

pub begin : (cs : List ContractTree) (st : Stated cs) (n : Ident) → begun (parts_of cs) n ≡ progress (record { before = cs; stated = st; ident = n; messages = [] }) []
begin cs st n = same-progress (record { before = cs; stated = st; ident = n; messages = [] }) _ _ _ _ (sym (append-nil (numbered move_entries 0 cs))) refl

pub stated-push : (cs : List ContractTree) (c : ContractTree) → Stated cs → (c.states ≡ [] → ⊥) → Stated (cs ++ c ∷ [])
stated-push [] c h e = (e, tt)
stated-push (x ∷ cs) c h e = (h.0, stated-push cs c h.1 e)
