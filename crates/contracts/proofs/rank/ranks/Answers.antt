use Rattle.std.proofs.Common.{ℕ, ◌+◌, ◌<◌, get_or, set, Some, sym, refl, ◌∙◌, subst, add-one, arith, rules}
use Rattle.std.proofs.lemmas.List.{length-set}
use Rattle.contracts.specs.Paths.{Path, stay, step}
use Rattle.contracts.specs.Rules.{OneWay}
use Rattle.contracts.proofs.Graph.{ranked}
use Rattle.contracts.proofs.Ranks.{at_set, raised, filled}
use Rattle.contracts.proofs.Targets.{short}
use Rattle.contracts.proofs.rank.ranks.Goals as goal

pub loop-s-init : goal.loop-s-init
loop-s-init c = (refl, λ s. (s, subst (Path _ s s) (sym (filled {A = ℕ} 16 s 0)) stay))

pub overflow_add-rank : goal.overflow_add-rank
overflow_add-rank c =
    let low : get_or c.loop-s.rank c.in-Some.u 0 < 16 = short c.args.t.now (Some c.args.d) c.requires.acyclic (c.loop-s.invariant.1 c.in-Some.u).1 in
    search rules

-- after a turn, too, each rank is the number of moves on some path
turned : (c : goal.In-Some) (k : ℕ) → (u : ℕ) × Path (OneWay c.args.t.now c.args.d) k u (get_or (set c.loop-s.rank c.in-Some.s (get_or c.loop-s.rank c.in-Some.u 0 + 1)) k 0)
turned c =
    let (v, p) = c.loop-s.invariant.1 c.in-Some.u in
    at_set (λ k n. (u : ℕ) × Path (OneWay c.args.t.now c.args.d) k u n) c.loop-s.rank c.in-Some.s _ (omega (arith, c.in-Some.ensures, c.loop-s.invariant)) c.loop-s.invariant.1
    (v, rw add-one (step c.in-Some.ensures.0 p))

pub loop-s-smaller : goal.loop-s-smaller
loop-s-smaller c =
    raised c.loop-s.rank c.in-Some.s _ c.loop-s.invariant.0 c.in-Some.ensures.1 (omega (arith, c.in-Some.ensures.3))
    (λ k. short c.args.t.now (Some c.args.d) c.requires.acyclic (turned c k).1)

pub loop-s-preserved : goal.loop-s-preserved
loop-s-preserved c = (length-set _ _ _ ∙ c.loop-s.invariant.0, turned c)

pub returns : goal.returns
returns c s =
    (λ u k p. ranked (OneWay c.args.t.now c.args.d) (λ x. get_or c.loop-s.rank x 0) c.in_default.ensures p, c.loop-s.invariant.1 s)
