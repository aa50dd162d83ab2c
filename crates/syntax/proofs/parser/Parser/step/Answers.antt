use Rattle.std.proofs.Common.{◌≡◌, ◌∙◌, rules}
use Rattle.syntax.specs.Machine.{reading}
use Rattle.syntax.specs.Machine as q
use Rattle.syntax.specs.Parsing.{progress}
use Rattle.syntax.proofs.parser.Parser.step.Goals as goal

-- the mark and the arrow were read, so what the name does to the text is what it does to the move
pub returns-in_err-target-clause-reads : goal.returns-in_err-target-clause-reads
returns-in_err-target-clause-reads c =
    let p = progress c.args.self.now in
    let n = c.args.message in
    let way = c.in_ok-mark.mark in
    let marked : reading (q.move p n) c.args.self.now.feed ≡ reading (q.marked p n way) c.way.new.feed = search rules in
    let aiming : reading (q.marked p n way) c.way.new.feed ≡ reading (q.aiming p n way) c.mark.new.self = search rules in
    record { goes = search (rules, marked ∙ aiming); fewer = search rules; before = search rules }

-- and the name, so what the `;` does to the text is what it does to the move
pub returns-in_err-mark-3-clause-reads : goal.returns-in_err-mark-3-clause-reads
returns-in_err-mark-3-clause-reads c =
    let p = progress c.args.self.now in
    let n = c.args.message in
    let way = c.in_ok-mark.mark in
    let marked : reading (q.move p n) c.args.self.now.feed ≡ reading (q.marked p n way) c.way.new.feed = search rules in
    let aiming : reading (q.marked p n way) c.way.new.feed ≡ reading (q.aiming p n way) c.mark.new.self = search rules in
    let aimed : reading (q.aiming p n way) c.mark.new.self ≡ reading (q.aimed p (record { message = n; mark = way; target = c.in_ok-target.target })) c.name.new.self = search rules in
    record { goes = search (rules, marked ∙ aiming ∙ aimed); fewer = search rules; before = search rules }
