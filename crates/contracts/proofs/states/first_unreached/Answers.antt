use Rattle.std.proofs.Common.{◌≡◌, ℕ, true, false, ◌⊎◌, length, get_or, None, sym, ap, ◌∙◌, subst, inl, inr, arith, rules, tests}
use Rattle.std.proofs.lemmas.Bool.{false≢true}
use Rattle.contracts.specs.Paths.{Leads, stay}
use Rattle.contracts.specs.Rules.{AnyWay}
use Rattle.contracts.proofs.Least.{found, weaker}
use Rattle.contracts.proofs.Targets.{after_leads, leads_after}
use Rattle.contracts.proofs.states.first_unreached.Goals as goal

-- state 0 is reached, and so is each that comes after it
leads : (c : goal.After-find) (s : ℕ) → (s ≡ 0) ⊎ (get_or c.after-seen.result s false ≡ true) → Leads (AnyWay c.args.t.now) 0 s
leads c s (inl e) = subst (Leads (AnyWay c.args.t.now) 0) (sym e) (0, stay)
leads c s (inr e) = leads_after c.args.t.now None s ((c.after-seen.ensures s).0 e)

pub returns : goal.returns
returns c =
    weaker c.find.result
    (found (length c.states.result.now) (λ s. (s ≡ 0 → ⊥) × (get_or c.after-seen.result s false ≡ false)) (λ s. (s ≡ 0) ⊎ (get_or c.after-seen.result s false ≡ true)) _ _ _ c.find.ensures.ran (λ x q k. search (rules, tests)) (λ x q k. search (rules, tests)))
    (λ h s l. ∣ leads c s (h s (omega (arith, ap length c.states.ensures.names, l))) ∣₁)
    (λ s h. ((omega (arith, ap length c.states.ensures.names, h.0), λ w. false≢true (sym h.1.1 ∙ (c.after-seen.ensures s).1 (after_leads c.args.t.now None s h.1.0 w))), λ k l u. u.1 (leads c k (h.2 k l))))
