-- The words of a part lead over that part.
use Rattle.std.proofs.Common.{◌≡◌, List, [], ◌∷◌, ◌++◌, Some, Option, sym, refl, ap, ◌∙◌, append_assoc, append-nil}
use Rattle.words.specs.declared.name.Ident.{Ident}
use Rattle.words.specs.declared.word.Keyword.TheVariants as k
use Rattle.words.specs.declared.word.Mark.TheVariants as m
use Rattle.words.specs.Signs.{Sign}
use Rattle.words.specs.Signs as s
use Rattle.grammar.specs.Spelling.{each}
use Rattle.grammar.proofs.Tables.{walk}
use Rattle.syntax.specs.declared.tree.Mark.{Mark}
use Rattle.syntax.specs.declared.tree.Mark.TheVariants.{Out, In}
use Rattle.syntax.specs.declared.tree.Role.TheVariants.{Exporting, Importing}
use Rattle.syntax.specs.declared.tree.Payload.{Payload}
use Rattle.syntax.specs.declared.tree.Payload.TheVariants.{Nothing, Block, End}
use Rattle.syntax.specs.declared.tree.Message.{Message}
use Rattle.syntax.specs.declared.tree.Move.{Move}
use Rattle.syntax.specs.Trees.{StateTree, ContractTree, parts_of}
use Rattle.syntax.specs.Grammar.{message_words, move_words, state_words, contract_words, file_words, Stated, Spells}
use Rattle.syntax.specs.Laws.{head_words}
use Rattle.syntax.specs.Machine.{At, Progress, add_move, ask}
use Rattle.syntax.specs.Machine as q
use Rattle.syntax.proofs.Trails.{Opened, progress, state_of, with_message, contract_of, begin, add_state_lem, add_move_lem, end-contract, stated-push}

abbrev pub over : At → List Sign → Option At
over a xs = walk ask a xs

one-message : (h : Opened) (way : Mark) (n : Ident) (c : Payload) (ys : List Sign)
    → over (q.messages (progress h [])) (message_words (record { mark = way; ident = n; payload = c }) ++ ys)
    ≡ over (q.messages (progress (with_message h (record { mark = way; ident = n; payload = c })) [])) ys
one-message h Out n Nothing ys = refl
one-message h Out n Block ys = refl
one-message h Out n (End Exporting c x) ys = refl
one-message h Out n (End Importing c x) ys = refl
one-message h In n Nothing ys = refl
one-message h In n Block ys = refl
one-message h In n (End Exporting c x) ys = refl
one-message h In n (End Importing c x) ys = refl

abbrev with_messages : Opened → List Message → Opened
with_messages h xs = record { before = h.before; stated = h.stated; ident = h.ident; messages = xs }

pub over_messages : (h : Opened) (pre xs : List Message) (ys : List Sign)
    → over (q.messages (progress (with_messages h pre) [])) (each message_words xs ++ ys) ≡ over (q.messages (progress (with_messages h (pre ++ xs)) [])) ys
over_messages h pre [] ys = ap (λ l. over (q.messages (progress (with_messages h l) [])) ys) (sym (append-nil pre))
over_messages h pre (x ∷ xs) ys =
    ap (over (q.messages (progress (with_messages h pre) []))) (append_assoc (message_words x) (each message_words xs) ys)
    ∙ one-message (with_messages h pre) x.mark x.ident x.payload (each message_words xs ++ ys) ∙ over_messages h (pre ++ x ∷ []) xs ys ∙ rw append_assoc refl

one-move : (p : Progress) (n : Ident) (way : Mark) (t : Ident) (ys : List Sign)
    → over (q.moves p) (move_words (record { message = n; mark = way; target = t }) ++ ys) ≡ over (q.moves (add_move p (record { message = n; mark = way; target = t }))) ys
one-move p n Out t ys = refl
one-move p n In t ys = refl

module _ (h : Opened) where
  over_moves : (ss : List StateTree) (n : Ident) (pre vs : List Move) (ys : List Sign)
      → over (q.moves (progress h (ss ++ state_of n pre ∷ []))) (each move_words vs ++ ys) ≡ over (q.moves (progress h (ss ++ state_of n (pre ++ vs) ∷ []))) ys
  over_moves ss n pre [] ys = rw append-nil refl
  over_moves ss n pre (v ∷ vs) ys =
      one-move (progress h (ss ++ state_of n pre ∷ [])) v.message v.mark v.target (each move_words vs ++ ys)
      ∙ ap (λ p. over (q.moves p) (each move_words vs ++ ys)) (add_move_lem h ss (state_of n pre) v)
      ∙ over_moves ss n (pre ++ v ∷ []) vs ys ∙ rw append_assoc refl

  one_state : (ss : List StateTree) (x : StateTree) (ys : List Sign)
      → over (q.states (progress h ss)) (state_words x ++ ys) ≡ over (q.states (progress h (ss ++ x ∷ []))) ys
  one_state ss x ys =
      ap (λ p. over (q.moves p) ((each move_words x.moves ++ s.Mark m.CloseBrace ∷ []) ++ ys)) (add_state_lem h ss x.ident)
      ∙ ap (over (q.moves (progress h (ss ++ state_of x.ident [] ∷ [])))) (append_assoc (each move_words x.moves) (s.Mark m.CloseBrace ∷ []) ys)
      ∙ over_moves ss x.ident [] x.moves (s.Mark m.CloseBrace ∷ ys)

  pub over_states : (pre xs : List StateTree) (ys : List Sign)
      → over (q.states (progress h pre)) (each state_words xs ++ ys) ≡ over (q.states (progress h (pre ++ xs))) ys
  over_states pre [] ys = rw append-nil refl
  over_states pre (x ∷ xs) ys =
      ap (over (q.states (progress h pre))) (append_assoc (state_words x) (each state_words xs) ys)
      ∙ one_state pre x (each state_words xs ++ ys) ∙ over_states (pre ++ x ∷ []) xs ys ∙ rw append_assoc refl

  -- the first state stands where a message may
  to_end : (xs : List StateTree) → (xs ≡ [] → ⊥) → (ys : List Sign)
      → over (q.messages (progress h [])) (each state_words xs ++ s.Mark m.CloseBrace ∷ ys) ≡ over (q.more (parts_of (h.before ++ contract_of h xs ∷ []))) ys
  to_end [] e ys = absurd (e refl)
  to_end (x ∷ xs) e ys = over_states [] (x ∷ xs) (s.Mark m.CloseBrace ∷ ys) ∙ ap (λ p. over (q.more p) ys) (end-contract h (x ∷ xs))

  pub to-state : (xs : List StateTree) (ys : List Sign)
      → over (q.messages (progress h [])) (each state_words xs ++ s.Key k.State ∷ ys) ≡ over (q.state (progress h xs)) ys
  to-state [] ys = refl
  to-state (x ∷ xs) ys = over_states [] (x ∷ xs) (s.Key k.State ∷ ys)

-- after the word "contract"
pub over_head : (cs : List ContractTree) (st : Stated cs) (n : Ident) (ms : List Message) (ys : List Sign)
    → over (q.more (parts_of cs)) (head_words n ms ++ ys) ≡ over (q.messages (progress (record { before = cs; stated = st; ident = n; messages = ms }) [])) ys
over_head cs st n ms ys =
    ap (λ p. over (q.messages p) (each message_words ms ++ ys)) (begin cs st n)
    ∙ over_messages (record { before = cs; stated = st; ident = n; messages = [] }) [] ms ys

one-contract : (cs : List ContractTree) → Stated cs → (c : ContractTree) → (c.states ≡ [] → ⊥) → (ys : List Sign)
    → over (q.more (parts_of cs)) (contract_words c ++ ys) ≡ over (q.more (parts_of (cs ++ c ∷ []))) ys
one-contract cs st c e ys =
    ap (over (q.more (parts_of cs))) (split c.ident c.messages c.states)
    ∙ over_head cs st c.ident c.messages (each state_words c.states ++ s.Mark m.CloseBrace ∷ ys)
    ∙ to_end (record { before = cs; stated = st; ident = c.ident; messages = c.messages }) c.states e ys
  where
    split : (n : Ident) (ms : List Message) (ss : List StateTree)
        → contract_words (record { ident = n; messages = ms; states = ss }) ++ ys ≡ head_words n ms ++ (each state_words ss ++ s.Mark m.CloseBrace ∷ ys)
    split n ms ss = simp append_assoc

over_contracts : (pre xs : List ContractTree) → Stated pre → Stated xs → (ys : List Sign)
    → over (q.more (parts_of pre)) (file_words xs ++ ys) ≡ over (q.more (parts_of (pre ++ xs))) ys
over_contracts pre [] st h ys = rw append-nil refl
over_contracts pre (x ∷ xs) st h ys =
    ap (over (q.more (parts_of pre))) (append_assoc (contract_words x) (file_words xs) ys)
    ∙ one-contract pre st x h.0 (file_words xs ++ ys) ∙ over_contracts (pre ++ x ∷ []) xs (stated-push pre x st h.0) h.1 ys ∙ rw append_assoc refl

abbrev pub origin : At
origin = q.start (parts_of [])

-- a file's words lead to it
pub whole : (cs : List ContractTree) → Stated cs → (cs ≡ [] → ⊥) → over origin (file_words cs) ≡ Some (q.more (parts_of cs))
whole [] st e = absurd (e refl)
whole (c ∷ cs) st e = ap (over origin) (sym (append-nil (file_words (c ∷ cs)))) ∙ over_contracts [] (c ∷ cs) tt st []

pub spells_whole : (ws : List Sign) (cs : List ContractTree) → Spells ws cs → over origin ws ≡ Some (q.more (parts_of cs))
spells_whole ws cs h = ap (over origin) h.words ∙ whole cs h.stated h.some

-- contracts, and the word "contract"
pub over_file : (cs : List ContractTree) → Stated cs → (ys : List Sign) → over origin (file_words cs ++ s.Key k.Contract ∷ ys) ≡ over (q.heading (parts_of cs)) ys
over_file [] st ys = refl
over_file (c ∷ cs) st ys = over_contracts [] (c ∷ cs) tt st (s.Key k.Contract ∷ ys)
