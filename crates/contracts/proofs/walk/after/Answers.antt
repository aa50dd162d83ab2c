use Rattle.std.proofs.Common.{◌≡◌, false, get_or, ◌∙◌, rules, tests}
use Rattle.std.proofs.lemmas.List.{length-set}
use Rattle.contracts.specs.Rules.{Along}
use Rattle.contracts.proofs.Graph.{risen}
use Rattle.contracts.proofs.Search.{found_more, found_all, Source}
use Rattle.contracts.proofs.walk.after.Goals as goal

pub loop-u-smaller : goal.loop-u-smaller
loop-u-smaller c =
    let k = c.in-Some.ensures.4 in
    let outside : get_or c.loop-u.seen c.in-Some.u false ≡ false = search (rules, tests) in
    risen c.loop-u.seen c.in-Some.u 16 c.loop-u.invariant.0 c.in-Some.ensures.2 outside

pub loop-u-preserved : goal.loop-u-preserved
loop-u-preserved c =
    let k = c.in-Some.ensures.3 in
    let src : Source c.loop-u.seen c.args.from c.in-Some.field-0-0 = search (rules, tests) in
    (length-set _ _ _ ∙ c.loop-u.invariant.0, found_more (Along c.args.t.now c.args.w) c.args.from c.loop-u.seen c.loop-u.invariant.1 c.in-Some.field-0-0 c.in-Some.u src c.in-Some.ensures.0)

pub returns : goal.returns
returns c u = (
  c.loop-u.invariant.1 u,
  found_all (Along c.args.t.now c.args.w) c.args.from c.loop-u.seen (λ s v src e. let k = c.in_default.ensures s v e in search (rules, tests)),
)
