use Rattle.std.proofs.Common.{◌≡◌, ℕ, ◌+◌, ◌<◌, get_or, arith, rules}
use Rattle.chained.proofs.Fresh.{chains, count_box, below_fresh, apart_fresh, ends_fresh}
use Rattle.chained.proofs.links.Links.new.Goals as goal

pub returns : goal.returns
unfolding chains
returns c = record { counts = count_box c.from_fn-next.result }

pub invariant_of-result : goal.invariant_of-result
unfolding chains
invariant_of-result c =
    let next = c.from_fn-next.result in
    let links : (k : ℕ) → k < 127 → get_or next k 0 ≡ k + 1 = λ k h. (let s = c.from_fn-next.ensures.items.at k 0 (omega arith) in search rules) in
    record { sizes = search rules; below = below_fresh next links; apart = apart_fresh next links; ends = ends_fresh next links; total = search rules }
