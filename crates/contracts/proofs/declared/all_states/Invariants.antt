use Rattle.std.proofs.Common.{◌≡◌, get_or}
use Rattle.grammar.specs.Rows.{row_items}
use Rattle.grammar.specs.Families.{no_ident}
use Rattle.contracts.specs.Numbers.{no_name}
use Rattle.contracts.proofs.Numbered.{EachBelow}
use Rattle.contracts.proofs.declared.all_states.Given as goal

abbrev pub invariant-loop-state : goal.invariant-loop-state
invariant-loop-state l = EachBelow (λ s n. n ≡ (get_or l.written s no_ident).name) no_name (row_items l.all) l.state-index
