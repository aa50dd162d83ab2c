use Rattle.std.proofs.Common.{◌≡◌, []}
use Rattle.words.specs.Stream.{bytes_in}
use Rattle.grammar.specs.Feeds.{left}
use Rattle.grammar.specs.Rows.{row_items}
use Rattle.script_syntax.specs.Machine as q
use Rattle.script_syntax.specs.Trees.{processes_of}
use Rattle.script_syntax.proofs.parser.file.Given as goal

abbrev pub invariant-loop-feed : goal.invariant-loop-feed
invariant-loop-feed l = q.reading (q.start []) l.fn.feed ≡ q.reading (q.heading (processes_of (row_items l.all))) l.feed

abbrev pub decreases-loop-feed : goal.decreases-loop-feed
decreases-loop-feed l = bytes_in (left l.feed)
