use Rattle.std.proofs.Common.{subst, MatchOption}
use Rattle.std.proofs.lemmas.List.{get_or_read}
use Rattle.contracts.specs.Rules.{First}
use Rattle.contracts.specs.Tables.{blank}
use Rattle.contracts.specs.Transfers.{Lawful, SilentEnd}
use Rattle.contracts.proofs.transfers.AllLawfulRule.first.Goals as goal

pub returns : goal.returns
returns c =
    subst (λ t. MatchOption c.first_silent_end.result (Lawful c.args.tables.now t) (First (SilentEnd c.args.tables.now t)))
    (get_or_read c.args.tables.now c.args.k _ c.requires c.index-tables-k.is blank) c.first_silent_end.ensures
