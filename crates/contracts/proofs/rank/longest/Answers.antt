use Rattle.std.proofs.Common.{ℕ, ◌≤◌, length, Some, inl, inr, subst, arith}
use Rattle.std.proofs.lemmas.Bool.{cases_lt}
use Rattle.std.proofs.lemmas.List.{get_or_past}
use Rattle.contracts.specs.Paths.{Path}
use Rattle.contracts.specs.Rules.{OneWay}
use Rattle.contracts.proofs.Targets.{short}
use Rattle.contracts.proofs.rank.longest.Goals as goal

-- no path is longer than the highest rank
within : (c : goal.After-highest) (s u k : ℕ) → Path (OneWay c.args.t.now c.args.d) s u k → k ≤ c.highest.result
within c s u k p =
    elim (cases_lt s (length c.ranks.result)) [
      | inl l ↦ omega (arith, (c.ranks.ensures s).0 u k p, c.highest.ensures.most s l)
      | inr past ↦ omega (arith, (c.ranks.ensures s).0 u k p, get_or_past c.ranks.result s 0 past)
    ]

pub returns : goal.returns
returns c =
    let (s, l, e) = c.highest.ensures.some in
    let (u, p) = (c.ranks.ensures s).1 in
    let q : Path (OneWay c.args.t.now c.args.d) s u c.highest.result = subst (Path (OneWay c.args.t.now c.args.d) s u) e p in
    record {
      exact = (λ k h. within c h.0 h.1 k h.2, ∣ (s, u, q) ∣₁);
      small = omega (arith, short c.args.t.now (Some c.args.d) c.requires.acyclic q);
    }
