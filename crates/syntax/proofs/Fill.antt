-- What led to a spot can be continued to a file.
use Rattle.std.proofs.Common.{◌≡◌, List, [], ◌∷◌, ◌++◌, sym, ap, ◌∙◌, append_assoc, append-nil}
use Rattle.words.specs.declared.name.Ident.{Ident}
use Rattle.words.specs.Signs.{Sign}
use Rattle.grammar.specs.Families.{no_ident}
use Rattle.grammar.specs.Laws.{Viable}
use Rattle.grammar.proofs.Grammars.{Onto}
use Rattle.grammar.proofs.Spelled.{pushed}
use Rattle.syntax.specs.declared.tree.Mark.{Mark}
use Rattle.syntax.specs.declared.tree.Mark.TheVariants.{Out}
use Rattle.syntax.specs.declared.tree.Role.{Role}
use Rattle.syntax.specs.declared.tree.Payload.TheVariants.{Block, End}
use Rattle.syntax.specs.declared.tree.Message.{Message}
use Rattle.syntax.specs.declared.tree.Move.{Move}
use Rattle.syntax.specs.Trees.{StateTree, ContractTree}
use Rattle.syntax.specs.Grammar.{file_words, Stated, Spells}
use Rattle.syntax.specs.Machine.{At}
use Rattle.syntax.proofs.Trails.{Opened, Trail, start, heading, opening, messages, message, called, carrying, stating, closing, state, entering, moves, move, marked, aiming, aimed, states, more, spelled, at, state_of, with_move, with_message, contract_of, stated-push}
use Rattle.syntax.proofs.Steps.{edges}

abbrev Fills : Trail → Type 0
Fills N = Viable Spells (spelled N)

-- what can be continued after one word more can be continued
via : (N : Trail) (x : Sign) (a : At) (o : Onto at spelled N x a) → Fills o.to → Fills N
via N x a o v = (x ∷ v.0, v.1, record { words = e ∙ v.2.words; some = v.2.some; stated = v.2.stated })
  where
    e : spelled N ++ x ∷ v.0 ≡ spelled o.to ++ v.0
    e = sym (append_assoc (spelled N) (x ∷ []) v.0) ∙ ap (λ l. l ++ v.0) (sym o.adds)

fill_more : (cs : List ContractTree) (st : Stated cs) (e : cs ≡ [] → ⊥) → Fills (more cs st e)
fill_more cs st e = ([], cs, record { words = append-nil (file_words cs); some = e; stated = st })

module _ (h : Opened) where
  fill_states : (ss : List StateTree) (e : ss ≡ [] → ⊥) → Fills (states h ss e)
  fill_states ss e = via (states h ss e) _ _ (edges (states h ss e)).1.0.0 (fill_more _ (stated-push h.before (contract_of h ss) h.stated e) (pushed h.before (contract_of h ss)))

  fill_moves : (ss : List StateTree) (x : StateTree) → Fills (moves h ss x)
  fill_moves ss x = via (moves h ss x) _ _ (edges (moves h ss x)).1.0.0 (fill_states (ss ++ x ∷ []) (pushed ss x))

  fill_aimed : (ss : List StateTree) (x : StateTree) (v : Move) → Fills (aimed h ss x v)
  fill_aimed ss x v = via (aimed h ss x v) _ _ (edges (aimed h ss x v)).0.0 (fill_moves ss (with_move x v))

  fill_aiming : (ss : List StateTree) (x : StateTree) (n : Ident) (way : Mark) → Fills (aiming h ss x n way)
  fill_aiming ss x n way = via (aiming h ss x n way) _ _ ((edges (aiming h ss x n way)).0 no_ident).0 (fill_aimed ss x (record { message = n; mark = way; target = no_ident }))

  fill_marked : (ss : List StateTree) (x : StateTree) (n : Ident) (way : Mark) → Fills (marked h ss x n way)
  fill_marked ss x n way = via (marked h ss x n way) _ _ (edges (marked h ss x n way)).0.0 (fill_aiming ss x n way)

  fill_entering : (ss : List StateTree) (n : Ident) → Fills (entering h ss n)
  fill_entering ss n = via (entering h ss n) _ _ (edges (entering h ss n)).0.0 (fill_moves ss (state_of n []))

  fill_state : (ss : List StateTree) → Fills (state h ss)
  fill_state ss = via (state h ss) _ _ ((edges (state h ss)).0 no_ident).0 (fill_entering ss no_ident)

  fill_messages : Fills (messages h)
  fill_messages = via (messages h) _ _ (edges (messages h)).1.1.0.0 (fill_state [])

fill_closing : (h : Opened) (x : Message) → Fills (closing h x)
fill_closing h x = via (closing h x) _ _ (edges (closing h x)).0.0 (fill_messages (with_message h x))

fill_called : (h : Opened) (way : Mark) (n : Ident) → Fills (called h way n)
fill_called h way n = via (called h way n) _ _ (edges (called h way n)).0.0 (fill_closing h (record { mark = way; ident = n; payload = Block }))

fill_stating : (h : Opened) (way : Mark) (n : Ident) (role : Role) (c : Ident) → Fills (stating h way n role c)
fill_stating h way n role c = via (stating h way n role c) _ _ ((edges (stating h way n role c)).0 no_ident).0 (fill_closing h (record { mark = way; ident = n; payload = End role c no_ident }))

fill_opening : (cs : List ContractTree) (st : Stated cs) (n : Ident) → Fills (opening cs st n)
fill_opening cs st n = via (opening cs st n) _ _ (edges (opening cs st n)).0.0 (fill_messages (record { before = cs; stated = st; ident = n; messages = [] }))

fill_heading : (cs : List ContractTree) (st : Stated cs) → Fills (heading cs st)
fill_heading cs st = via (heading cs st) _ _ ((edges (heading cs st)).0 no_ident).0 (fill_opening cs st no_ident)

pub fill : (N : Trail) → Viable Spells (spelled N)
fill start = via start _ _ (edges start).0.0 (fill_heading [] tt)
fill (heading cs st) = fill_heading cs st
fill (opening cs st n) = fill_opening cs st n
fill (messages h) = fill_messages h
fill (message h way) = via (message h way) _ _ ((edges (message h way)).0 no_ident).0 (fill_called h way no_ident)
fill (called h way n) = fill_called h way n
fill (carrying h way n role) = via (carrying h way n role) _ _ ((edges (carrying h way n role)).0 no_ident).0 (fill_stating h way n role no_ident)
fill (stating h way n role c) = fill_stating h way n role c
fill (closing h x) = fill_closing h x
fill (state h ss) = fill_state h ss
fill (entering h ss n) = fill_entering h ss n
fill (moves h ss x) = fill_moves h ss x
fill (move h ss x n) = via (move h ss x n) _ _ (edges (move h ss x n)).0.0 (fill_marked h ss x n Out)
fill (marked h ss x n way) = fill_marked h ss x n way
fill (aiming h ss x n way) = fill_aiming h ss x n way
fill (aimed h ss x v) = fill_aimed h ss x v
fill (states h ss e) = fill_states h ss e
fill (more cs st e) = fill_more cs st e
