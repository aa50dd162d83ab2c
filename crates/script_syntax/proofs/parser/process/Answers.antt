use Rattle.std.proofs.Common.{◌≡◌, ◌<◌, [], ◌∷◌, ◌++◌, length, arith, rules}
use Rattle.std.proofs.lemmas.Grind.{common_steps}
use Rattle.std.proofs.lemmas.List.{map-append}
use Rattle.grammar.specs.Rows.{row_items}
use Rattle.script_syntax.specs.Machine as q
use Rattle.script_syntax.specs.Trees.{processes_of}
use Rattle.script_syntax.proofs.Processes.{idents_of}
use Rattle.script_syntax.proofs.parser.process.Goals as goal

pub returns-clause-goes : goal.returns-clause-goes
returns-clause-goes c =
    let room : length (row_items c.args.before.now) < 8 = grind (arith, common_steps, idents_of, c.in_ok-admit_to.ensures) in
    let joined = (c.push.ensures.room room).1 in
    let goes : q.reading (q.heading (processes_of (row_items c.args.before.now))) c.args.feed.now
    ≡ q.reading (q.more (processes_of (row_items c.args.before.now) ++ record { ident = c.in_ok-ident.ident; statements = row_items c.body.new.statements } ∷ [])) c.body.new.feed = search (rules, idents_of) in
    rw (joined, map-append) goes
