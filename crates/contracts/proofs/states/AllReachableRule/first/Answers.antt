use Rattle.std.proofs.Common.{subst, MatchOption}
use Rattle.std.proofs.lemmas.List.{get_or_read}
use Rattle.contracts.specs.Rules.{First, Unreached}
use Rattle.contracts.specs.Rules.{Reachable}
use Rattle.contracts.specs.Tables.{blank}
use Rattle.contracts.proofs.states.AllReachableRule.first.Goals as goal

pub returns : goal.returns
returns c =
    subst (λ t. MatchOption c.first_unreached.result (Reachable t) (First (Unreached t)))
    (get_or_read c.args.tables.now c.args.k _ c.requires c.index-tables-k.is blank) c.first_unreached.ensures
