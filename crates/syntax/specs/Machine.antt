-- The grammar of contract files as a table, with what has been read so far.
--   Progress           what has been read inside a contract: the contracts and moves so far, and what this one declares
--   begun, add_message, add_state, add_move, ended     what has been read with one entry more
--   At                 how far a file has been read
--   ask q              the words that may stand next
--   reading q from     what becomes of the file of which the feed has the rest, at q
use Rattle.std.specs.Prelude.{◌-◌, List, [], ◌∷◌, ◌++◌, map, length, Result}
use Rattle.words.specs.declared.name.Ident.{Ident}
use Rattle.words.specs.declared.word.Keyword.TheVariants as k
use Rattle.words.specs.declared.word.Mark.TheVariants as m
use Rattle.grammar.specs.declared.fault.GrammarFault.{GrammarFault}
use Rattle.syntax.specs.declared.tree.Mark.{Mark}
use Rattle.syntax.specs.declared.tree.Mark.TheVariants.{Out, In}
use Rattle.syntax.specs.declared.tree.Role.{Role}
use Rattle.syntax.specs.declared.tree.Role.TheVariants.{Exporting, Importing}
use Rattle.syntax.specs.declared.tree.Payload.TheVariants.{Nothing, Block, End}
use Rattle.syntax.specs.declared.tree.Message.{Message}
use Rattle.syntax.specs.declared.tree.Move.{Move}
use Rattle.syntax.specs.declared.tree.MoveEntry.{MoveEntry}
use Rattle.grammar.specs.declared.feed.Feed.{Feed}
use Rattle.grammar.specs.Feeds.{left, source_in}
use Rattle.syntax.specs.Trees.{HeadTree, Parts}
use Rattle.grammar.specs.Table.{go, new, accept, Alt, key, mark, name, end, admission, run}

pub record Progress : Type 0 where
  pub heads : List HeadTree
  pub moves : List MoveEntry
  pub ident : Ident
  pub messages : List Message
  pub states : List Ident

-- a contract begins
abbrev pub begun : Parts → Ident → Progress
begun p n = record { heads = p.heads; moves = p.moves; ident = n; messages = []; states = [] }

abbrev pub add_message : Progress → Message → Progress
add_message p x = record { heads = p.heads; moves = p.moves; ident = p.ident; messages = p.messages ++ x ∷ []; states = p.states }

abbrev pub add_state : Progress → Ident → Progress
add_state p n = record { heads = p.heads; moves = p.moves; ident = p.ident; messages = p.messages; states = p.states ++ n ∷ [] }

-- a move of the last state
abbrev pub add_move : Progress → Move → Progress
add_move p v = record {
  heads = p.heads;
  moves = p.moves ++ record { contract = length p.heads; state = length p.states - 1; step = v } ∷ [];
  ident = p.ident;
  messages = p.messages;
  states = p.states;
}

-- a contract ends
abbrev pub ended : Progress → Parts
ended p = record { heads = p.heads ++ record { ident = p.ident; messages = p.messages; states = p.states } ∷ []; moves = p.moves }

pub data At : Type 0 where
  start : Parts → At
  heading : Parts → At
  opening : Parts → Ident → At
  messages : Progress → At
  message : Progress → Mark → At
  called : Progress → Mark → Ident → At
  carrying : Progress → Mark → Ident → Role → At
  stating : Progress → Mark → Ident → Role → Ident → At
  closing : Progress → Message → At
  state : Progress → At
  entering : Progress → At
  moves : Progress → At
  move : Progress → Ident → At
  marked : Progress → Ident → Mark → At
  aiming : Progress → Ident → Mark → At
  aimed : Progress → Move → At
  states : Progress → At
  more : Parts → At

abbrev pub ask : At → List (Alt At Parts)
ask (start p) = key k.Contract (go (heading p)) ∷ []
ask (heading p) = name (λ n. new (opening p n) (admission 8 (map (λ h. h.ident) p.heads) n)) ∷ []
ask (opening p n) = mark m.OpenBrace (go (messages (begun p n))) ∷ []
ask (messages p) = key k.Out (go (message p Out)) ∷ key k.In (go (message p In)) ∷ key k.State (go (state p)) ∷ []
ask (message p way) = name (λ n. new (called p way n) (admission 16 (map (λ x. x.ident) p.messages) n)) ∷ []
ask (called p way n) =
    key k.Block (go (closing p (record { mark = way; ident = n; payload = Block })))
    ∷ key k.Exp (go (carrying p way n Exporting))
    ∷ key k.Imp (go (carrying p way n Importing))
    ∷ mark m.Semicolon (go (messages (add_message p (record { mark = way; ident = n; payload = Nothing })))) ∷ []
ask (carrying p way n role) = name (λ c. go (stating p way n role c)) ∷ []
ask (stating p way n role c) = name (λ x. go (closing p (record { mark = way; ident = n; payload = End role c x }))) ∷ []
ask (closing p x) = mark m.Semicolon (go (messages (add_message p x))) ∷ []
ask (state p) = name (λ n. new (entering (add_state p n)) (admission 16 p.states n)) ∷ []
ask (entering p) = mark m.OpenBrace (go (moves p)) ∷ []
ask (moves p) = name (λ n. go (move p n)) ∷ mark m.CloseBrace (go (states p)) ∷ []
ask (move p n) = mark m.Bang (go (marked p n Out)) ∷ mark m.Question (go (marked p n In)) ∷ []
ask (marked p n way) = mark m.Arrow (go (aiming p n way)) ∷ []
ask (aiming p n way) = name (λ t. go (aimed p (record { message = n; mark = way; target = t }))) ∷ []
ask (aimed p v) = mark m.Semicolon (go (moves (add_move p v))) ∷ []
ask (states p) = key k.State (go (state p)) ∷ mark m.CloseBrace (go (more (ended p))) ∷ []
ask (more p) = key k.Contract (go (heading p)) ∷ end (accept p) ∷ []

abbrev pub reading : At → Feed → Result Parts GrammarFault
reading q from = run ask (source_in from) q (left from)
