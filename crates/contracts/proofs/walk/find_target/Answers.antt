use Rattle.std.proofs.Common.{◌≡◌, ℕ, ◌<◌, min, List, length, get_or, take, Some, None, Option, ap, sym, refl, ◌∙◌, subst, inl, inr, arith, length-take}
use Rattle.std.proofs.lemmas.Bool.{cases_lt}
use Rattle.std.proofs.lemmas.List.{get_or-take, get_or_past}
use Rattle.contracts.specs.declared.declaration.Message.{Message}
use Rattle.contracts.specs.Numbers.{quiet}
use Rattle.contracts.specs.Rules.{Among}
use Rattle.contracts.specs.Tables.{nowhere}
use Rattle.contracts.proofs.Targets.{message_below, target_below}
use Rattle.contracts.proofs.walk.find_target.Goals as goal

-- xs are the first n places of a row
module _ (xs row : List (Option ℕ)) (n m u : ℕ) (front : xs ≡ take n row) where
  size : length xs ≡ min n (length row)
  size = ap length front ∙ simp length-take refl

  -- what stands at a place of them stands there in the row
  placed : m < length xs → get_or xs m None ≡ Some u → get_or row m None ≡ Some u
  placed l h =
      let w : m < n = omega (arith, size) in
      sym (get_or-take n row m None w) ∙ sym (ap (λ ys. get_or ys m None) front) ∙ h

  -- a place of the row that holds something, and is among the first n, is one of them
  within : m < n → get_or row m None ≡ Some u → m < length xs
  within w h = elim (cases_lt m (length row)) [ inl l ↦ omega (arith, size) | inr past ↦ absurd (nowhere u (sym (get_or_past row m None past) ∙ h)) ]

pub test-requires : goal.test-requires
test-requires g c =
    let goes = placed c.targets-place-items.result.now _ _ c.loop-m.m c.in-Some.to c.targets-place-items.ensures (omega (arith, c.loop-m-test.true)) c.in-Some.is in
    c.requires.callable c.in-Some.to (target_below c.args.t.now c.args.s c.loop-m.m c.in-Some.to goes)

pub returns-then-test : goal.returns-then-test
returns-then-test g c =
    let goes = placed c.targets-place-items.result.now _ _ c.loop-m.m c.in-Some.to c.targets-place-items.ensures (omega (arith, c.loop-m-test.true)) c.in-Some.is in (
      (c.loop-m.m, subst (λ (xs : List Message). Among c.args.w (get_or xs c.loop-m.m quiet).mark) c.messages-messages.ensures (c.if-among.ensures.0 refl), goes),
      target_below c.args.t.now c.args.s c.loop-m.m c.in-Some.to goes,
      c.if-test.ensures,
    )

pub returns : goal.returns
returns g c u e =
    let w = within c.targets-place-items.result.now _ _ e.0 u c.targets-place-items.ensures (message_below c.args.t.now c.args.s e.0 u e.2) e.2 in
    c.loop-m.invariant e.0 (omega (arith, w)) u e.1 e.2
