use Rattle.std.proofs.Common.{rules}
use Rattle.grammar.proofs.Readers.{fetch_sized}
use Rattle.grammar.proofs.feed.Feed.next.Goals as goal

pub returns-clause-named : goal.returns-clause-named
returns-clause-named c = search (rules, fetch_sized)
