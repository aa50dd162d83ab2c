use Rattle.std.proofs.Common.{string_bytes}
use Rattle.contracts.specs.View.{tables_in}
use Rattle.listing.specs.Listings.{Lists}
use Rattle.listing.proofs.accepted.list_contracts.Given as goal

abbrev pub invariant-loop-number : goal.invariant-loop-number
invariant-loop-number l = Lists (tables_in l.set) l.number (string_bytes l.out)
