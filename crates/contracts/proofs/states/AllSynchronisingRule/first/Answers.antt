use Rattle.std.proofs.Common.{subst, MatchOption}
use Rattle.std.proofs.lemmas.List.{get_or_read}
use Rattle.contracts.specs.Rules.{First, Cycling}
use Rattle.contracts.specs.Rules.{Synchronising}
use Rattle.contracts.specs.Tables.{blank}
use Rattle.contracts.proofs.states.AllSynchronisingRule.first.Goals as goal

pub returns : goal.returns
returns c =
    subst (λ t. MatchOption c.first_cycling.result (Synchronising t) (First (Cycling t)))
    (get_or_read c.args.tables.now c.args.k _ c.requires c.index-tables-k.is blank) c.first_cycling.ensures
