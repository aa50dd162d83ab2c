use Rattle.std.proofs.Common.{◌∙◌, rules, tests}
use Rattle.std.proofs.lemmas.Iterator.{YieldsList-from_slice}
use Rattle.std.proofs.lemmas.Iterator.Search.{any_from_yields_List}
use Rattle.grammar.specs.Table.{same_name}
use Rattle.grammar.proofs.Names.{known_any}
use Rattle.grammar.proofs.family.has_name.Goals as goal

pub returns : goal.returns
returns g c =
    let xs = c.args.family.now in
    let n = c.args.ident in
    any_from_yields_List (λ x. same_name (g.T.Named.named x).name n.name) _ _ _ c.any.ensures.ran (YieldsList-from_slice xs cc) (λ x b q k. search (rules, tests))
    ∙ known_any g.T.Named.named n xs
