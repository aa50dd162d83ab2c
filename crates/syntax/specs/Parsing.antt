-- What a parser holds.
--   progress p     what has been read inside a contract
--   parts_in p      the contracts and moves that have been read
--   reads q p      what becomes of the file of which p has the rest, at q
--   unread p       how many bytes the words have that are left
--   weight p       six bytes for each move, and the bytes that are left
--   Reads q a r to b   a part was read from q on, and a has become b: the file comes out as r's fault, or as it does from `to` of what r
--                      says was read; no words came back, and the contracts before are the same
use Rattle.std.specs.Prelude.{◌≡◌, ℕ, ◌+◌, ◌*◌, ◌≤◌, map, length, Result}
use Rattle.words.specs.Stream.{bytes_in}
use Rattle.grammar.specs.declared.fault.GrammarFault.{GrammarFault}
use Rattle.grammar.specs.Feeds.{left}
use Rattle.grammar.specs.Rows.{row_items}
use Rattle.grammar.specs.Table.{Goes}
use Rattle.syntax.specs.declared.parser.Parser.{Parser}
use Rattle.syntax.specs.Trees.{Parts, declares}
use Rattle.syntax.specs.Machine.{At, Progress, reading}

abbrev pub progress : Parser → Progress
progress p = record {
  heads = map declares (row_items p.heads);
  moves = row_items p.moves;
  ident = p.head.ident;
  messages = row_items p.head.messages;
  states = row_items p.head.states;
}

abbrev pub parts_in : Parser → Parts
parts_in p = record { heads = map declares (row_items p.heads); moves = row_items p.moves }

abbrev pub reads : At → Parser → Result Parts GrammarFault
reads q p = reading q p.feed

abbrev pub unread : Parser → ℕ
unread p = bytes_in (left p.feed)

abbrev pub weight : Parser → ℕ
weight p = 6 * length (row_items p.moves) + unread p

pub record Reads {X : Type 0} (q : At) (a : Parser) (r : Result X GrammarFault) (to : X → At) (b : Parser) : Type 0 where
  pub goes : Goes (reads q a) r (λ x. reads (to x) b)
  pub fewer : unread b ≤ unread a
  pub before : b.heads ≡ a.heads
