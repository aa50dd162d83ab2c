use Rattle.std.proofs.Common.{◌≡◌, ◌≤◌, List}
use Rattle.words.specs.declared.name.Ident.{Ident}
use Rattle.words.specs.Stream.{bytes_in}
use Rattle.grammar.specs.Feeds.{left}
use Rattle.grammar.specs.Rows.{row_items}
use Rattle.script_syntax.specs.Machine as q
use Rattle.script_syntax.specs.Trees.{ProcessParts}
use Rattle.script_syntax.proofs.parser.body.Given as goal

abbrev pub invariant-loop-opcode : goal.invariant-loop-opcode
invariant-loop-opcode l =
    ((ps : List ProcessParts) (n : Ident) → q.reading (q.body (q.inside ps n (row_items l.initial.statements))) l.initial.feed ≡ q.reading (q.body (q.inside ps n (row_items l.statements))) l.feed)
    × (bytes_in (left l.feed) ≤ bytes_in (left l.initial.feed))

abbrev pub decreases-loop-opcode : goal.decreases-loop-opcode
decreases-loop-opcode l = bytes_in (left l.feed)
